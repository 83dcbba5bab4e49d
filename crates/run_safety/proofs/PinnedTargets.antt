-- In a plan a pinned leaf stays as it is: its targets are the cells where it may run, promoted where it may be.
use Rattle.std.proofs.Common.{inl, inr, ◌≡◌, ◌<◌, ℕ, true, false, List, [], length, refl, sym, subst, ◌∙◌}
use Rattle.std.proofs.lemmas.Bool.{both_ways, true_from_ne_false}
use Rattle.lemmas.proofs.Booleans.{same_test}
use Rattle.loops.proofs.Needs.{decided_leaf}
use Rattle.cluster_types.specs.declared.cluster.Cluster.{Cluster}
use Rattle.cluster_types.specs.declared.journal.Event.{Event}
use Rattle.cluster_types.specs.declared.journal.Promotion.{Promotion}
use Rattle.cluster_types.specs.declared.leaf.Role.{Role}
use Rattle.cluster_types.specs.declared.leaf.Role.TheVariants as role
use Rattle.cluster_types.specs.declared.placement.Decision.{Decision}
use Rattle.cluster_types.specs.declared.placement.Decision.TheVariants.{Place}
use Rattle.cluster_types.specs.declared.placement.Placed.{Placed}
use Rattle.cluster_types.specs.declared.placement.Target.{Target}
use Rattle.cluster_types.specs.declared.placement.Target.TheVariants as target
use Rattle.cluster_types.specs.Decisions.{IsMadeNext, decision_of, leaf_of}
use Rattle.cluster_types.specs.Held.{Held, by_order, by_colocation, by_place}
use Rattle.cluster_types.specs.Pins.{is_pinned, pinned_targets}
use Rattle.cluster_types.specs.Plans.{IsPlaced}
use Rattle.cluster_types.specs.Tables.{Targets, holds_role, targets_of}
use Rattle.plan_laws.specs.Placing.{WasChosen, table_after}
use Rattle.plan_laws.proofs.CameFrom.{came_from}
use Rattle.plan_laws.proofs.ChosenTargets.{was_chosen}
use Rattle.plan_laws.proofs.Following.{was_next}
use Rattle.plan_laws.proofs.KeptTargets.{back}
use Rattle.plan_laws.proofs.MadeInPlace.{held_on}
use Rattle.plan_laws.proofs.MadeOnes.{Known, known}
use Rattle.plan_laws.proofs.Ready.{ready_is_one}
use Rattle.plan_laws.proofs.StayHeld.{has, holds_is}
use Rattle.cluster_types.specs.Precedence.{role_given}

-- a target is known by the roles that it holds
same_target : (t u : Target) → ((given : Role) → has given t ≡ has given u) → t ≡ u
same_target target.Nowhere target.Nowhere f = refl
same_target target.Started target.Started f = refl
same_target target.Promoted target.Promoted f = refl
same_target target.Nowhere target.Started f = let e = f role.Started in absurd (let g : ⊥ = cc in g)
same_target target.Nowhere target.Promoted f = let e = f role.Started in absurd (let g : ⊥ = cc in g)
same_target target.Started target.Nowhere f = let e = f role.Started in absurd (let g : ⊥ = cc in g)
same_target target.Promoted target.Nowhere f = let e = f role.Started in absurd (let g : ⊥ = cc in g)
same_target target.Started target.Promoted f = let e = f role.Promoted in absurd (let g : ⊥ = cc in g)
same_target target.Promoted target.Started f = let e = f role.Promoted in absurd (let g : ⊥ = cc in g)

module _ (c : Cluster) (es : List Event) where
  -- only what isn't pinned is held back
  held_is_free : (table : Targets) (d : Decision) (n : ℕ) → Held c es table d n → is_pinned c es (leaf_of d) ≡ false
  held_is_free table _ n (by_order o _ may_hold lacks) = subst (λ z. is_pinned c es z ≡ false) (sym (decided_leaf o.then_leaf (role_given o.then_op))) may_hold.not_pinned
  held_is_free table _ n (by_colocation col _ may_hold lacks) =
      subst (λ z. is_pinned c es z ≡ false) (sym (decided_leaf col.dependent col.dependent_role)) may_hold.not_pinned
  held_is_free table _ n (by_place r _ h held) = held_is_free table (Place r) n held

  module _ (ps : List Promotion) (placed : Placed) (is : IsPlaced c es ps placed) (r n : ℕ) (low : r < length c.leaves) (within : n < length c.nodes)
      (pin : is_pinned c es r ≡ true) where
    abbrev table : Targets
    table = table_after c es ps is.decisions

    -- no decision is of the leaf
    undecided : (given : Role) → WasChosen c es ps (pinned_targets c es) is.decisions r given n → ⊥
    undecided given w =
        let next : IsMadeNext c es ps w.before (decision_of r given) =
        was_next c es ps is.decisions w.before w.later (decision_of r given) (pinned_targets c es) is.in_order w.split in
        let k : Known c es (decision_of r given) = known c es (decision_of r given) (ready_is_one c es w.before (decision_of r given) next.ready) in
        both_ways (is_pinned c es r) (subst (λ z. is_pinned c es z ≡ false) (decided_leaf r given) k.free) pin

    was_pinned : (given : Role) → holds_role (targets_of placed.table) r given n ≡ true → holds_role (pinned_targets c es) r given n ≡ true
    was_pinned given h = elim (came_from c es ps (pinned_targets c es) is.decisions r n given (was_chosen c es ps placed is r n given low within h)) [
      | inl was ↦ was
      | inr w ↦ absurd (undecided given w)
    ]

    still_pinned : (given : Role) → holds_role (pinned_targets c es) r given n ≡ true → holds_role (targets_of placed.table) r given n ≡ true
    still_pinned given h = true_from_ne_false (holds_role (targets_of placed.table) r given n) (λ lost.
        let held : holds_role table r given n ≡ true = held_on c es ps is.decisions is.in_order [] is.decisions refl r n given h in
        let free = held_is_free table (decision_of r given) n (back c es table (targets_of placed.table) r n given (is.targets r n low within) held lost) in
        both_ways (is_pinned c es r) (subst (λ z. is_pinned c es z ≡ false) (decided_leaf r given) free) pin)

    pub pinned_stays : targets_of placed.table r n ≡ pinned_targets c es r n
    pinned_stays = same_target (targets_of placed.table r n) (pinned_targets c es r n) (λ given.
        sym (holds_is (targets_of placed.table) r given n)
        ∙ (same_test (holds_role (targets_of placed.table) r given n) (holds_role (pinned_targets c es) r given n) (was_pinned given) (still_pinned given)
        ∙ holds_is (pinned_targets c es) r given n))
