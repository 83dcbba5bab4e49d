-- The leaves and nodes of needed actions are those of the cluster.
use Rattle.std.proofs.Common.{List}
use Rattle.cluster_types.specs.declared.cluster.Cluster.{Cluster}
use Rattle.cluster_types.specs.declared.journal.Action.{Action}
use Rattle.cluster_types.specs.declared.journal.Event.{Event}
use Rattle.cluster_types.specs.declared.leaf.Op.TheVariants as op
use Rattle.cluster_types.specs.declared.leaf.Role.TheVariants as role
use Rattle.cluster_types.specs.NeededActions.{NeededBeforeMigration, Needed, fence, kept, monitor, probe, sent, step, taken_in}
use Rattle.cluster_types.specs.Tables.{Targets}
use Rattle.cluster_types.proofs.NeededLaws.{bounds_of_first}
use Rattle.planner.specs.ActionNames.{IsActionWithin}

module _ (c : Cluster) (es : List Event) (targets : Targets) where
  first_within : (a : Action) → NeededBeforeMigration c es targets a → IsActionWithin c a
  first_within _ (fence n h e) = h
  first_within _ (probe r n h l e) = (h, l)
  first_within _ (step r n o h l g) = (h, l)
  first_within _ (monitor r n m h l k g) = (h, l)

  pub needed_within : (a : Action) → Needed c es targets a → IsActionWithin c a
  needed_within a (kept _ f k) = first_within a f
  needed_within _ (sent r n m g) =
      let from = bounds_of_first c es targets op.Stop r n 0 role.Started g.stopped in
      let to = bounds_of_first c es targets op.Start r m 0 role.Started g.started in
      (from.0, from.1, to.1)
  needed_within _ (taken_in r n m g) =
      let from = bounds_of_first c es targets op.Stop r n 0 role.Started g.stopped in
      let to = bounds_of_first c es targets op.Start r m 0 role.Started g.started in
      (from.0, from.1, to.1)
