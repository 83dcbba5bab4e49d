-- Only a promotable leaf is promoted, whether it is pinned or not.
use Rattle.std.proofs.Common.{◌≡◌, ℕ, Bool, true, false, if◌then◌else◌, List, [], inl, inr, refl}
use Rattle.lemmas.proofs.Booleans.{sooner}
use Rattle.cluster_types.specs.declared.cluster.Cluster.{Cluster}
use Rattle.cluster_types.specs.declared.journal.Event.{Event}
use Rattle.cluster_types.specs.declared.journal.Promotion.{Promotion}
use Rattle.cluster_types.specs.declared.leaf.Role.TheVariants as role
use Rattle.cluster_types.specs.declared.placement.Decision.{Decision}
use Rattle.cluster_types.specs.declared.placement.Decision.TheVariants.{Promote}
use Rattle.cluster_types.specs.declared.placement.Target.TheVariants as target
use Rattle.cluster_types.specs.Decisions.{Decides, IsMadeNext}
use Rattle.cluster_types.specs.Fields.{is_promotable}
use Rattle.cluster_types.specs.May.{is_left_promoted, may_be_promoted}
use Rattle.cluster_types.specs.Pins.{pinned_targets, stays}
use Rattle.cluster_types.specs.Tables.{holds_role, is_promoted_target}
use Rattle.plan_laws.specs.Placing.{WasChosen, table_after}
use Rattle.plan_laws.proofs.CameFrom.{came_from}
use Rattle.plan_laws.proofs.Following.{was_next}
use Rattle.plan_laws.proofs.MadeOnes.{Known, known}
use Rattle.plan_laws.proofs.Ready.{ready_is_one}

module _ (c : Cluster) (es : List Event) (ps : List Promotion) where
  -- what is pinned as promoted was left promoted, and only a promotable leaf is
  pinned_promoted : (r n : ℕ) → is_promoted_target (pinned_targets c es r n) ≡ true → is_promotable c r ≡ true
  pinned_promoted r n h = sooner (is_promotable c r) (is_left_promoted c r n es) (go (stays c es r n) (may_be_promoted c r n es) h)
    where
      go : (b p : Bool) → is_promoted_target (if b then (if p then target.Promoted else target.Started) else target.Nowhere) ≡ true → p ≡ true
      go true true h = refl
      go true false h = cc
      go false p h = cc

  chosen_promoted : (ds : List Decision) → Decides c es ps [] ds → (r n : ℕ) → WasChosen c es ps (pinned_targets c es) ds r role.Promoted n
      → is_promotable c r ≡ true
  chosen_promoted ds in_order r n w =
      let next : IsMadeNext c es ps w.before (Promote r) = was_next c es ps ds w.before w.later (Promote r) (pinned_targets c es) in_order w.split in
      let k : Known c es (Promote r) = known c es (Promote r) (ready_is_one c es w.before (Promote r) next.ready) in
      k.promotable refl

  pub promoted_is_promotable : (ds : List Decision) → Decides c es ps [] ds → (r n : ℕ) → holds_role (table_after c es ps ds) r role.Promoted n ≡ true
      → is_promotable c r ≡ true
  promoted_is_promotable ds in_order r n h = elim (came_from c es ps (pinned_targets c es) ds r n role.Promoted h) [
    | inl was ↦ pinned_promoted r n was
    | inr w ↦ chosen_promoted ds in_order r n w
  ]
