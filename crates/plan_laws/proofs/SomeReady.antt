-- As the needs of a valid cluster have no loop, some decision is ready where one isn't made. So in the end each is made.
use Rattle.std.proofs.Common.{arith, ◌≡◌, ◌<◌, ◌≤◌, ◌+◌, ◌&&◌, ◌||◌, not, ℕ, suc, zero, Bool, true, false, List, [], ◌∷◌, ◌++◌, ◌⊎◌, inl, inr, refl, ◌∙◌, Contains}
use Rattle.std.specs.List.{list_all, sum_by}
use Rattle.std.proofs.lemmas.List.Sums.{get_or-le-sum_by}
use Rattle.edges.specs.Loops.{RiseSomehow}
use Rattle.edges.proofs.Relations.{EdgeFor}
use Rattle.loops.specs.Inner.Edges.{decision_position, need_edges}
use Rattle.loops.specs.FirstLoops.{AllJoin}
use Rattle.loops.proofs.FromValid.{valid_join}
use Rattle.lemmas.proofs.Members.{at_head, in_rest}
use Rattle.loops.proofs.NeedLoops.{rising_needs}
use Rattle.loops.proofs.Needs.{decision_there, edge_for, is_itself}
use Rattle.lemmas.proofs.Searches.{passes_by}
use Rattle.cluster_types.specs.declared.cluster.Cluster.{Cluster}
use Rattle.cluster_types.specs.declared.journal.Event.{Event}
use Rattle.cluster_types.specs.declared.journal.Promotion.{Promotion}
use Rattle.cluster_types.specs.declared.placement.Decision.{Decision}
use Rattle.cluster_types.specs.Decisions.{Decides, all_decisions, all_made, decisions, is_among, is_decision, is_ready, is_same_decision, needs, one_more}
use Rattle.cluster_types.specs.Valid.{IsValid}
use Rattle.plan_laws.proofs.MadeOnes.{Known, known, never_both, there}

-- an element that fails a test
pub record Fails {X : Type 0} (p : X → Bool) (xs : List X) : Type 0 where
  pub one : X
  pub among : Contains xs one
  pub fails : p one ≡ false

pub some_fails : {X : Type 0} (p : X → Bool) (xs : List X) → list_all p xs ≡ false → Fails p xs
some_fails p [] h = cc
some_fails p (x ∷ xs) h = go (p x) refl h (some_fails p xs)
  where
    go : (b : Bool) → p x ≡ b → b && list_all p xs ≡ false → (list_all p xs ≡ false → Fails p xs) → Fails p (x ∷ xs)
    go false e g more = record { one = x; among = at_head x xs x refl; fails = e }
    go true e g more = let f = more g in record { one = f.one; among = in_rest x xs f.one f.among; fails = f.fails }

wanted : (a b : Bool) → not a || b ≡ false → (a ≡ true) × (b ≡ false)
wanted true b h = (refl, h)
wanted false b h = cc

third : (a b e : Bool) → a ≡ true → b ≡ false → a && not b && e ≡ e
third true true e h g = cc
third true false e h g = refl
third false b e h g = cc

module _ (c : Cluster) (valid : IsValid c) where
  joined : AllJoin c
  joined = valid_join c valid.colocations

  pub rising : RiseSomehow (need_edges c)
  rising = rising_needs c joined valid.needs

  -- what is needed stands higher
  abbrev pub height : Decision → ℕ
  height d = rising.height (decision_position d)

  pub needed_is_higher : (d e : Decision) → Contains (all_decisions c) e → needs c d e ≡ true → height d < height e
  needed_is_higher d e among wants =
      let f : EdgeFor (λ d. d) (need_edges c) decision_position e d = edge_for c joined e d among wants in
      let up : rising.height f.edge.before < rising.height f.edge.after = rising.rises f.edge f.among in
      rw (f.from, f.to) at up

  module _ (es : List Event) (made : List Decision) where
    abbrev is_met : Decision → Decision → Bool
    is_met d e = not (needs c d e) || is_among made e

    -- a decision that isn't made is ready, or one that it needs isn't made
    pub record Waits (d : Decision) : Type 0 where
      pub for : Decision
      pub is_one : is_decision c es for ≡ true
      pub unmade : is_among made for ≡ false
      pub higher : height d < height for

    ready_or_waits : (d : Decision) → is_decision c es d ≡ true → is_among made d ≡ false → (is_ready c es made d ≡ true) ⊎ Waits d
    ready_or_waits d is unmade = go (list_all (is_met d) (decisions c es)) refl
      where
        waits : Fails (is_met d) (decisions c es) → Waits d
        waits f =
            let (wants, not_yet) = wanted (needs c d f.one) (is_among made f.one) f.fails in
            let one : is_decision c es f.one ≡ true = passes_by (is_same_decision f.one) (decisions c es) f.one f.among (is_itself f.one) in
            let k : Known c es f.one = known c es f.one one in
            record { for = f.one; is_one = one; unmade = not_yet; higher = needed_is_higher d f.one (decision_there c f.one k.within) wants }

        go : (b : Bool) → list_all (is_met d) (decisions c es) ≡ b → (is_ready c es made d ≡ true) ⊎ Waits d
        go true e = inl (third (is_decision c es d) (is_among made d) (list_all (is_met d) (decisions c es)) is unmade ∙ e)
        go false e = inr (waits (some_fails (is_met d) (decisions c es) e))

    abbrev most : ℕ
    most = sum_by height (decisions c es)

    no_higher : (d : Decision) → is_decision c es d ≡ true → height d ≤ most
    no_higher d is = at (there c es d is)
      where
        at : Contains (decisions c es) d → height d ≤ most
        at (k, lt, e) = rw e at (get_or-le-sum_by height (decisions c es) k d lt)

    pub record SomeReady : Type 0 where
      pub one : Decision
      pub ready : is_ready c es made one ≡ true

    climb : (room : ℕ) (d : Decision) → is_decision c es d ≡ true → is_among made d ≡ false → most ≤ height d + room → SomeReady
    climb zero d is unmade enough = elim (ready_or_waits d is unmade) [
      | inl ready ↦ record { one = d; ready = ready }
      | inr w ↦ let up = w.higher in let most = no_higher w.for w.is_one in absurd (let f : ⊥ = omega arith in f)
    ]
    climb (suc room) d is unmade enough = elim (ready_or_waits d is unmade) [
      | inl ready ↦ record { one = d; ready = ready }
      | inr w ↦ let up = w.higher in climb room w.for w.is_one w.unmade (omega arith)
    ]

    pub some_is_ready : (d : Decision) → is_decision c es d ≡ true → is_among made d ≡ false → SomeReady
    some_is_ready d is unmade = climb most d is unmade (omega arith)

  pub each_is_made : (es : List Event) (ps : List Promotion) (made all : List Decision) → Decides c es ps made all → (d : Decision) → is_decision c es d ≡ true
      → is_among all d ≡ true
  each_is_made es ps _ _ (all_made made none) d is = go (is_among made d) refl
    where
      go : (b : Bool) → is_among made d ≡ b → is_among made d ≡ true
      go true e = e
      go false e = let s : SomeReady es made = some_is_ready es made d is e in absurd (never_both (is_ready c es made s.one) s.ready (none s.one))
  each_is_made es ps _ _ (one_more made all x next more) d is = each_is_made es ps (made ++ x ∷ []) all more d is
