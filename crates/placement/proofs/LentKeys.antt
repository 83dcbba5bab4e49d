-- Keys that are lent along all links, pass after pass, are the effective keys in the end.
use Rattle.std.proofs.Common.{◌≡◌, ◌<◌, ℕ, suc, zero, ◌||◌, Bool, true, false, if◌then◌else◌, Option, Some, None, List, [], ◌∷◌, fold, length, unwrap_or, Contains, inl, inr, refl, sym, ap, subst, ◌∙◌}
use Rattle.std.proofs.lemmas.Bool.{eq-eqb}
use Rattle.lemmas.proofs.Members.{at_head, head_or_rest, in_none, in_rest}
use Rattle.loops.proofs.Needs.{same_decision}
use Rattle.cluster_types.specs.declared.cluster.Cluster.{Cluster}
use Rattle.edges.specs.declared.edge.Edge.{Edge}
use Rattle.cluster_types.specs.declared.placement.Decision.{Decision}
use Rattle.cluster_types.specs.Decisions.{Key, is_among, is_less, is_same_decision, leaf_of, needs}
use Rattle.cluster_types.specs.Valid.{IsValid}
use Rattle.plan_laws.proofs.MadeOnes.{stands_among}
use Rattle.placement.specs.Inner.Flags.{slot_of}
use Rattle.placement.specs.Inner.EffectiveKeys.{effective_in}
use Rattle.placement.specs.Inner.Lending.{AreKeys, slot_key_at, keys_among, lent_along, needs_within}
use Rattle.placement.specs.Inner.Links.{lending_link, links_in}
use Rattle.placement.proofs.EffectiveBounds.{least_of_all, own_at_most}
use Rattle.placement.proofs.FlagLaws.{same-slot}
use Rattle.placement.proofs.KeyOrder.{at_most_onward, not_itself, one_key}
use Rattle.placement.proofs.LastNeeds.{LastNeed, last_need}
use Rattle.placement.proofs.LinkedNeeds.{Linked, link-there, linked}
use Rattle.placement.proofs.ReadyFlags.{among-is}
use Rattle.placement.proofs.ShortNeeds.{needs_short}
use Rattle.placement.proofs.SlotLaws.{kept-is, keys-same}
use Rattle.placement.proofs.LentAlong.{Lent, then_follows, then_key, then_lent, then_rises}

module _ (c : Cluster) (ds : List Decision) (key : Decision → Key) where
  -- each has at least the keys of those that need it through so many needs
  abbrev Reach : (Decision → Key) → ℕ → Type 0
  Reach now n = (d e : Decision) → Contains ds d → Contains ds e → needs_within c ds n e d ≡ true → is_less (now d) (key e) ≡ false

  -- the keys after so many passes
  pub record Turned (n : ℕ) (slots : List (Option Key)) : Type 0 where
    pub now : Decision → Key
    pub lent : Lent c ds key now slots
    pub reached : Reach now n

  -- a pass along links
  module _ (valid : IsValid c) (low : (d : Decision) → Contains ds d → leaf_of d < length c.leaves) where
    record Passed (es : List Edge) (now : Decision → Key) (slots : List (Option Key)) : Type 0 where
      next : Decision → Key
      lent : Lent c ds key next (fold lent_along slots es)
      rises : (d : Decision) → is_less (next d) (now d) ≡ false
      follows : (d f : Decision) → Contains es (lending_link d f) → Contains ds f → is_less (next d) (now f) ≡ false

    at_link : (now : Decision → Key) (x f d g : Decision) → lending_link x f ≡ lending_link d g → Contains ds g → is_less (then_key c ds key now x f d) (now g) ≡ false
    at_link now x f d g e also =
        let one : x ≡ d = same_decision x d (sym (same-slot x d) ∙ eq-eqb (slot_of x) (slot_of d) (ap (λ (y : Edge). y.before) e)) in
        let other : f ≡ g = same_decision f g (sym (same-slot f g) ∙ eq-eqb (slot_of f) (slot_of g) (ap (λ (y : Edge). y.after) e)) in
        subst (λ (y : Decision). is_less (then_key c ds key now x f y) (now g) ≡ false) one
        (subst (λ (y : Decision). is_less (then_key c ds key now x f x) (now y) ≡ false) other
        (then_follows c ds key now x f (subst (λ (y : Decision). Contains ds y) (sym other) also)))

    passed : (es : List Edge) → ((e : Edge) → Contains es e → Contains (links_in c ds) e) → (now : Decision → Key) (slots : List (Option Key))
        → Lent c ds key now slots → Passed es now slots
    passed [] known now slots is = record {
      next = now;
      lent = is;
      rises = λ d. not_itself (now d);
      follows = λ d f there also. absurd (in_none (lending_link d f) there);
    }
    passed (e ∷ es) known now slots is =
        let l : Linked c valid ds low e = linked c valid ds low e (known e (at_head e es e refl)) in
        let x = l.needed in
        let f = l.needing in
        let one : Lent c ds key (then_key c ds key now x f) (lent_along slots e)
        = subst (λ (y : Edge). Lent c ds key (then_key c ds key now x f) (lent_along slots y)) l.is (then_lent c ds key now x f slots (low x l.among) l.within l.wants is) in
        let rest : Passed es (then_key c ds key now x f) (lent_along slots e)
        = passed es (λ y there. known y (in_rest e es y there)) (then_key c ds key now x f) (lent_along slots e) one in
        record {
          next = rest.next;
          lent = rest.lent;
          rises = λ d. at_most_onward (now d) (then_key c ds key now x f d) (rest.next d) (then_rises c ds key now x f d) (rest.rises d);
          follows = λ d g there also. elim (head_or_rest e es (lending_link d g) there) [
            | inl same ↦ at_most_onward (now g) (then_key c ds key now x f d) (rest.next d) (at_link now x f d g (l.is ∙ same) also) (rest.rises d)
            | inr later ↦ at_most_onward (now g) (then_key c ds key now x f g) (rest.next d) (then_rises c ds key now x f g) (rest.follows d g later also)
          ];
        }

    -- where each decision has at least what those have that need it, all have what they have through one need more
    reach_more : (now next : Decision → Key) → ((d : Decision) → is_less (now d) (key d) ≡ false)
        → ((d f : Decision) → Contains ds d → Contains ds f → needs c f d ≡ true → is_less (next d) (now f) ≡ false) → (n : ℕ) → Reach now n → Reach next (suc n)
    reach_more now next own follows n reached d e there present h =
        let l : LastNeed c ds n e d = last_need c ds n e d present h in
        at_most_onward (key e) (now l.via) (next d) (at_last l.via l.among (is_same_decision e l.via) refl l.reached) (follows d l.via there l.among l.wanted)
      where
        at_last : (via : Decision) → Contains ds via → (same : Bool) → is_same_decision e via ≡ same → same || needs_within c ds n e via ≡ true
            → is_less (now via) (key e) ≡ false
        at_last via among true is on = subst (λ (x : Decision). is_less (now x) (key e) ≡ false) (same_decision e via is) (own e)
        at_last via among false is on = reached via e among present on

    module _ (es : List Edge) (known : (e : Edge) → Contains es e → Contains (links_in c ds) e) (all : (e : Edge) → Contains (links_in c ds) e → Contains es e)
        (n : ℕ) (slots : List (Option Key)) (t : Turned n slots) where
      on : Passed es t.now slots
      on = passed es known t.now slots t.lent

      pub turned : Turned (suc n) (fold lent_along slots es)
      turned = record {
        now = on.next;
        lent = on.lent;
        reached = reach_more t.now on.next t.lent.least
            (λ d f there also wants. on.follows d f (all (lending_link d f) (link-there c valid ds low f d there wants)) also) n t.reached;
      }

      -- and where the pass changed nothing, through however many
      pub settled : fold lent_along slots es ≡ slots → (m : ℕ) → Turned m slots
      settled same m = record { now = t.now; lent = t.lent; reached = each m }
        where
          one : (a b : Key) → Some a ≡ Some b → a ≡ b
          one a b e = ap (λ (o : Option Key). unwrap_or o a) e

          has : (now : Decision → Key) (d : Decision) → Contains ds d → keys_among ds now d ≡ Some (now d)
          has now d there = ap (λ (b : Bool). if b then Some (now d) else None) (among-is ds d there)

          still : (d : Decision) → Contains ds d → on.next d ≡ t.now d
          still d there =
              one (on.next d) (t.now d)
              (sym (kept-is (length c.leaves) (keys_among ds on.next) (fold lent_along slots es) on.lent.are d (low d there) ∙ has on.next d there)
              ∙ (ap (λ (ss : List (Option Key)). slot_key_at ss d) same
              ∙ (kept-is (length c.leaves) (keys_among ds t.now) slots t.lent.are d (low d there) ∙ has t.now d there)))

          each : (m : ℕ) → Reach t.now m
          each zero = λ d e there present h. let f : false ≡ true = h in cc
          each (suc m) =
              reach_more t.now t.now t.lent.least (λ d f there also wants.
              subst (λ (k : Key). is_less k (t.now f) ≡ false) (still d there)
              (on.follows d f (all (lending_link d f) (link-there c valid ds low f d there wants)) also)) m (each m)

  -- at first each has its own key
  pub first-turn : (slots : List (Option Key)) → AreKeys (length c.leaves) (keys_among ds key) slots → Turned 0 slots
  first-turn slots are = record {
    now = key;
    lent = record { are = are; least = λ d. not_itself (key d); bounded = λ d there. own_at_most c ds key d };
    reached = λ d e there present h. let f : false ≡ true = h in cc;
  }

  -- and in the end the greatest of those that need it
  pub all-lent : (slots : List (Option Key)) → Turned (length ds) slots → AreKeys (length c.leaves) (keys_among ds (effective_in c ds key)) slots
  all-lent slots t = keys-same (length c.leaves) (keys_among ds t.now) slots t.lent.are (keys_among ds (effective_in c ds key)) (λ d low. go d (is_among ds d) refl)
    where
      go : (d : Decision) (there : Bool) → is_among ds d ≡ there
          → (if there then Some (t.now d) else None) ≡ (if there then Some (effective_in c ds key d) else None)
      go d true e =
          let among = stands_among ds d e in
          ap Some (one_key (t.now d) (effective_in c ds key d)
          (least_of_all c ds key d (t.now d) (t.lent.least d) (λ f present h. t.reached d f among present (needs_short c ds f d present h)))
          (t.lent.bounded d among))
      go d false e = refl
