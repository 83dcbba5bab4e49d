-- A key that is lent along one link: none falls, and none rises above the greatest of those that need it.
use Rattle.std.proofs.Common.{arith, ◌≡◌, ◌<◌, Bool, true, false, if◌then◌else◌, Option, Some, None, List, length, set, Contains, refl, sym, ap, subst, ◌∙◌}
use Rattle.loops.proofs.Needs.{is_itself, same_decision}
use Rattle.cluster_types.specs.declared.cluster.Cluster.{Cluster}
use Rattle.cluster_types.specs.declared.placement.Decision.{Decision}
use Rattle.cluster_types.specs.Decisions.{Key, greater_key, is_among, is_less, is_same_decision, leaf_of, needs}
use Rattle.plan_laws.proofs.MadeOnes.{stands_among}
use Rattle.placement.specs.Inner.Flags.{slot_of}
use Rattle.placement.specs.Inner.EffectiveKeys.{effective_in}
use Rattle.placement.specs.Inner.Lending.{AreKeys, greater_by, is_raised, slot_key_at, keys_among, lent_along, raises, with_lent}
use Rattle.placement.specs.Inner.Links.{lending_link}
use Rattle.placement.proofs.EffectiveBounds.{needed_has_more}
use Rattle.placement.proofs.FlagLaws.{slot-within}
use Rattle.placement.proofs.KeyOrder.{at_most_onward, least_bound, not_itself, own_kept, second_kept}
use Rattle.placement.proofs.ReadyFlags.{among-is}
use Rattle.placement.proofs.SlotLaws.{kept-is, keys-same, lent-nothing, lent-one, set-one}

module _ (c : Cluster) (ds : List Decision) (key : Decision → Key) where
  abbrev greatest : Decision → Key
  greatest = effective_in c ds key

  -- the slots have these keys of what is decided: none is less than its own, and none greater than the greatest of those that need it
  pub record Lent (now : Decision → Key) (slots : List (Option Key)) : Type 0 where
    pub are : AreKeys (length c.leaves) (keys_among ds now) slots
    pub least : (d : Decision) → is_less (now d) (key d) ≡ false
    pub bounded : (d : Decision) → Contains ds d → is_less (greatest d) (now d) ≡ false

  -- x gets the key of f, if that is greater
  module _ (now : Decision → Key) (x f : Decision) where
    abbrev pub then_key : Decision → Key
    then_key d = if is_same_decision x d then greater_by (now d) (keys_among ds now f) else now d

    same_lent : (d : Decision) → (if is_same_decision x d then with_lent (keys_among ds now d) (keys_among ds now f) else keys_among ds now d) ≡ keys_among ds then_key d
    same_lent d = go (is_among ds d) (is_same_decision x d)
      where
        go : (there same : Bool)
            → (if same then with_lent (if there then Some (now d) else None) (keys_among ds now f) else (if there then Some (now d) else None))
            ≡ (if there then Some (if same then greater_by (now d) (keys_among ds now f) else now d) else None)
        go true true = refl
        go true false = refl
        go false true = refl
        go false false = refl

    pub then_rises : (d : Decision) → is_less (then_key d) (now d) ≡ false
    then_rises d = go (is_same_decision x d)
      where
        go : (same : Bool) → is_less (if same then greater_by (now d) (keys_among ds now f) else now d) (now d) ≡ false
        go true = own_kept (now d) (keys_among ds now f)
        go false = not_itself (now d)

    pub then_follows : Contains ds f → is_less (then_key x) (now f) ≡ false
    then_follows there =
        let has : keys_among ds now f ≡ Some (now f) = ap (λ (b : Bool). if b then Some (now f) else None) (among-is ds f there) in
        let is : then_key x ≡ greater_key (now x) (now f)
        = ap (λ (b : Bool). if b then greater_by (now x) (keys_among ds now f) else now x) (is_itself x) ∙ ap (greater_by (now x)) has in
        subst (λ (k : Key). is_less k (now f) ≡ false) (sym is) (second_kept (now x) (now f) (is_less (now x) (now f)) refl)

    then_bounded : needs c f x ≡ true → ((d : Decision) → Contains ds d → is_less (greatest d) (now d) ≡ false) → (d : Decision) → Contains ds d
        → is_less (greatest d) (then_key d) ≡ false
    then_bounded wants bounded d there = go (is_same_decision x d) refl
      where
        both : (also : Bool) → is_among ds f ≡ also → needs c f d ≡ true
            → is_less (greatest d) (greater_by (now d) (if also then Some (now f) else None)) ≡ false
        both true a wants_d =
            let in_set : Contains ds f = stands_among ds f a in
            least_bound (now d) (now f) (greatest d) (is_less (now d) (now f)) (bounded d there)
            (at_most_onward (now f) (greatest f) (greatest d) (bounded f in_set) (needed_has_more c ds key d f there in_set wants_d))
        both false a wants_d = bounded d there

        go : (same : Bool) → is_same_decision x d ≡ same
            → is_less (greatest d) (if same then greater_by (now d) (keys_among ds now f) else now d) ≡ false
        go true e = both (is_among ds f) refl (subst (λ (y : Decision). needs c f y ≡ true) (same_decision x d e) wants)
        go false e = bounded d there

    then_slots : (slots : List (Option Key)) → leaf_of x < length c.leaves → leaf_of f < length c.leaves → AreKeys (length c.leaves) (keys_among ds now) slots
        → AreKeys (length c.leaves) (keys_among ds then_key) (lent_along slots (lending_link x f))
    then_slots slots low also are = go (raises slots (lending_link x f)) refl
      where
        lent : Option Key
        lent = slot_key_at slots f

        kept : Decision → Option Key
        kept = keys_among ds now

        told : (new : List (Option Key)) → AreKeys (length c.leaves) (λ d. if is_same_decision x d then with_lent (kept d) lent else kept d) new
            → AreKeys (length c.leaves) (keys_among ds then_key) new
        told new all =
            keys-same (length c.leaves) (λ d. if is_same_decision x d then with_lent (kept d) lent else kept d) new all (keys_among ds then_key)
            (λ d leaf. ap (λ (o : Option Key). if is_same_decision x d then with_lent (kept d) o else kept d) (kept-is (length c.leaves) kept slots are f also) ∙ same_lent d)

        raised : (b : Bool) → raises slots (lending_link x f) ≡ b → is_raised (kept x) lent ≡ b
        raised b e = sym (ap (λ (o : Option Key). is_raised o lent) (kept-is (length c.leaves) kept slots are x low)) ∙ e

        go : (b : Bool) → raises slots (lending_link x f) ≡ b → AreKeys (length c.leaves) (keys_among ds then_key) (if b then set slots (slot_of x) lent else slots)
        go true e =
            let within_slots = slot-within (length c.leaves) x low in
            let size = are.size in
            told (set slots (slot_of x) lent)
            (lent-one (length c.leaves) kept (set slots (slot_of x) lent) x lent
            (set-one (length c.leaves) kept slots are x lent (omega (arith, within_slots, size))) (raised true e))
        go false e = told slots (lent-nothing (length c.leaves) kept slots x lent are (raised false e))

    pub then_lent : (slots : List (Option Key)) → leaf_of x < length c.leaves → leaf_of f < length c.leaves → needs c f x ≡ true → Lent now slots
        → Lent then_key (lent_along slots (lending_link x f))
    then_lent slots low also wants is = record {
      are = then_slots slots low also is.are;
      least = λ d. at_most_onward (key d) (now d) (then_key d) (is.least d) (then_rises d);
      bounded = then_bounded wants is.bounded;
    }
