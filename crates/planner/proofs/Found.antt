-- What the pass marks are the cells that are stopped and started again.
use Rattle.std.proofs.Common.{◌≡◌, ◌↔◌, ◌<◌, ℕ, true, List, sym, ◌∙◌, ap, Contains}
use Rattle.cluster_types.proofs.LeastSets.{cycled-least}
use Rattle.cluster_types.specs.declared.cluster.Cluster.{Cluster}
use Rattle.cluster_types.specs.declared.journal.Event.{Event}
use Rattle.cluster_types.specs.declared.leaf.Op.TheVariants.{Stop}
use Rattle.cluster_types.specs.declared.rules.Order.{Order}
use Rattle.cluster_types.specs.NeededActions.{Cycled}
use Rattle.cluster_types.specs.Numbers.{StepsHaveNoLoop, rank, step_of}
use Rattle.cluster_types.specs.Tables.{Targets}
use Rattle.loops.specs.FirstLoops.{AllOrder}
use Rattle.planner.specs.CycledCells.{MarkedCells, first_marks, with_orders}
use Rattle.planner.specs.Inner.Levels.{below_level}
use Rattle.planner.proofs.FallingLevels.{are_cycling, below_apart}
use Rattle.planner.proofs.MarksClosed.{last_closed}
use Rattle.planner.proofs.MarksDerived.{first_cycled, orders_cycled}

module _ (c : Cluster) (ordered : AllOrder c) (free : StepsHaveNoLoop c) (top : ℕ)
    (all_below : (o : Order) → Contains c.orders o → rank c (step_of Stop o.first) < top) where
  pub found : (es : List Event) (targets : Targets) (marks : MarkedCells)
      → marks ≡ with_orders c es targets (first_marks c es targets) (below_level c top)
      → (r n : ℕ) → marks r n ≡ true ↔ Cycled c es targets r n
  found es targets marks is r n =
      let same = ap (λ (m : MarkedCells). m r n) is in
      let all = are_cycling c top all_below in (
        λ h. orders_cycled c es targets (below_level c top) all.1 (first_marks c es targets) (first_cycled c es targets) r n (sym same ∙ h),
        λ k. same ∙ cycled-least c es targets (λ x m. with_orders c es targets (first_marks c es targets) (below_level c top) x m ≡ true)
            (last_closed c es targets (below_level c top) all.0 (below_apart c ordered free top)) r n k,
      )
