-- In a list of all decisions each stands once, behind what it needs, and what was held at one of them is held in the end.
use Rattle.std.proofs.Common.{◌≡◌, ◌<◌, ℕ, true, false, List, [], ◌∷◌, ◌++◌, sym, ◌∙◌, ap, subst, length, Contains}
use Rattle.std.proofs.lemmas.List.Sums.{fold-append}
use Rattle.std.proofs.lemmas.Bool.{false_from_ne_true}
use Rattle.cluster_types.specs.declared.cluster.Cluster.{Cluster}
use Rattle.cluster_types.specs.declared.journal.Event.{Event}
use Rattle.cluster_types.specs.declared.journal.Promotion.{Promotion}
use Rattle.cluster_types.specs.declared.leaf.Role.{Role}
use Rattle.cluster_types.specs.declared.placement.Decision.{Decision}
use Rattle.cluster_types.specs.declared.placement.Decision.TheVariants.{Place, Promote}
use Rattle.cluster_types.specs.Choice.{after_decision, after_decisions}
use Rattle.cluster_types.specs.Decisions.{Decides, IsMadeNext, is_among, is_decision, is_same_decision, needs}
use Rattle.cluster_types.specs.Fields.{is_promotable}
use Rattle.cluster_types.specs.Pins.{is_pinned, pinned_targets}
use Rattle.cluster_types.specs.Tables.{Targets, holds_role}
use Rattle.cluster_types.specs.Valid.{IsValid}
use Rattle.plan_laws.specs.Placing.{table_after}
use Rattle.plan_laws.proofs.Following.{Follow, follow_later, follow_of, was_next}
use Rattle.plan_laws.proofs.MadeOnes.{is_placed, is_promoted, never_both, stands_among}
use Rattle.plan_laws.proofs.Ready.{needed_is_made, place_is_made, ready_is_new}
use Rattle.plan_laws.proofs.SomeReady.{each_is_made}
use Rattle.plan_laws.proofs.StayHeld.{stay_held, untouched_first, untouched_later}
use Rattle.lemmas.proofs.Searches.{passes_by}
use Rattle.loops.proofs.Needs.{is_itself}

pub unmade : (made : List Decision) (d : Decision) → (Contains made d → ⊥) → is_among made d ≡ false
unmade made d h = false_from_ne_true (is_among made d) (λ t. h (stands_among made d t))

module _ (c : Cluster) (es : List Event) (ps : List Promotion) (ds : List Decision) (in_order : Decides c es ps [] ds) where
  module _ (before later : List Decision) (d : Decision) (split : ds ≡ before ++ d ∷ later) where
    pub next : IsMadeNext c es ps before d
    next = was_next c es ps ds before later d (pinned_targets c es) in_order split

    pub not_before : Contains before d → ⊥
    not_before there =
        never_both (is_among before d) (passes_by (is_same_decision d) before d there (is_itself d)) (ready_is_new c es before d next.ready)

    -- what it needs and is decided at all, stands before it
    pub needed_before : (e : Decision) → is_decision c es e ≡ true → needs c d e ≡ true → Contains before e
    needed_before e is wants = stands_among before e (needed_is_made c es before d next.ready e is wants)

  pub place_before : (before later : List Decision) (r : ℕ) → ds ≡ before ++ Promote r ∷ later → Contains before (Place r)
  place_before before later r split = stands_among before (Place r) (place_is_made c es before r (next before later (Promote r) split).ready)

  -- what was held after the first of them is held after all
  pub held_on : (before later : List Decision) → ds ≡ before ++ later → (r n : ℕ) (given : Role) → holds_role (table_after c es ps before) r given n ≡ true
      → holds_role (table_after c es ps ds) r given n ≡ true
  held_on before later split r n given h =
      let cut : Follow c es ps [] (pinned_targets c es) (before ++ later)
      = subst (λ (xs : List Decision). Follow c es ps [] (pinned_targets c es) xs) split (follow_of c es ps ds (pinned_targets c es) in_order) in
      let held
      = stay_held c es ps before later (table_after c es ps before) (follow_later c es ps [] before later (pinned_targets c es) cut)
      (untouched_later c es ps [] before later (pinned_targets c es) cut (untouched_first c es)) r n given h in
      let same : table_after c es ps ds ≡ after_decisions c es ps (table_after c es ps before) later
      = ap (λ (xs : List Decision). table_after c es ps xs) split ∙ fold-append (after_decision c es ps) (pinned_targets c es) before later in
      subst (λ (t : Targets). holds_role t r given n ≡ true) (sym same) held

  pub each_placed : IsValid c → (r : ℕ) → r < length c.leaves → is_pinned c es r ≡ false → Contains ds (Place r)
  each_placed valid r low free = stands_among ds (Place r) (each_is_made c valid es ps [] ds in_order (Place r) (is_placed c es r low free))

  pub each_promoted : IsValid c → (r : ℕ) → r < length c.leaves → is_pinned c es r ≡ false → is_promotable c r ≡ true → Contains ds (Promote r)
  each_promoted valid r low free can =
      stands_among ds (Promote r) (each_is_made c valid es ps [] ds in_order (Promote r) (is_promoted c es r low free can))
