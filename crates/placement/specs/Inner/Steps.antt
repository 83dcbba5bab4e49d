-- What decisions make of a table, with their totals.
use Rattle.std.specs.Prelude.{◌≡◌, List, length, map}
use Rattle.std.specs.List.{range_with_len}
use Rattle.cluster_types.specs.declared.cluster.Cluster.{Cluster}
use Rattle.cluster_types.specs.declared.journal.Event.{Event}
use Rattle.cluster_types.specs.declared.journal.Promotion.{Promotion}
use Rattle.cluster_types.specs.declared.placement.Decided.{Decided}
use Rattle.cluster_types.specs.declared.placement.Decision.{Decision}
use Rattle.cluster_types.specs.Choice.{after_decision, after_decisions, total_on}
use Rattle.cluster_types.specs.Plans.{with_totals}
use Rattle.cluster_types.specs.Tables.{Targets}

module _ (c : Cluster) (es : List Event) (promotions : List Promotion) where
  -- what one more decision makes of a table, with its totals
  pub record IsMade (table : Targets) (d : Decision) (after : Targets) (decided : Decided) : Type 0 where
    pub cells : after ≡ after_decision c es promotions table d
    pub totals : decided ≡ record { decision = d; totals = map (total_on c es promotions table d) (range_with_len 0 (length c.nodes)) }

  -- what some decisions make of it, one after the other
  pub record AreMade (table : Targets) (ds : List Decision) (after : Targets) (decided : List Decided) : Type 0 where
    pub cells : after ≡ after_decisions c es promotions table ds
    pub totals : decided ≡ with_totals c es promotions table ds
