-- What is chosen by the decisions of a cluster (follows from the definition of its placement).
use Rattle.std.specs.Prelude.{◌≡◌, List, []}
use Rattle.cluster_types.specs.declared.cluster.Cluster.{Cluster}
use Rattle.cluster_types.specs.declared.journal.Event.{Event}
use Rattle.cluster_types.specs.declared.journal.Promotion.{Promotion}
use Rattle.cluster_types.specs.declared.placement.Decision.{Decision}
use Rattle.cluster_types.specs.Choice.{after_decisions}
use Rattle.cluster_types.specs.Decisions.{Decides}
use Rattle.cluster_types.specs.Pins.{pinned_targets}
use Rattle.cluster_types.specs.Plans.{with_totals}
use Rattle.cluster_types.specs.Tables.{targets_of}
use Rattle.placement.specs.declared.choice.deciding.Choices.{Choices}

-- the table that all decisions leave in their order, and each of them with its totals
pub record AreChosen (c : Cluster) (es : List Event) (promotions : List Promotion) (choices : Choices) : Type 0 where
  pub decisions : List Decision
  pub in_order : Decides c es promotions [] decisions
  pub targets : targets_of choices.table ≡ after_decisions c es promotions (pinned_targets c es) decisions
  pub decided : choices.decided ≡ with_totals c es promotions (pinned_targets c es) decisions
