-- The sets of held and of cycled cells are closed under their rules, and each closed set has all their cells.
use Rattle.std.proofs.Common.{ℕ, List}
use Rattle.cluster_types.specs.declared.cluster.Cluster.{Cluster}
use Rattle.cluster_types.specs.declared.journal.Event.{Event}
use Rattle.cluster_types.specs.declared.placement.Decision.{Decision}
use Rattle.cluster_types.specs.Held.{Held, by_order, by_colocation, by_place}
use Rattle.cluster_types.specs.LeastSets.{IsClosedUnderCycling, IsClosedUnderHolding}
use Rattle.cluster_types.specs.NeededActions as cycling
use Rattle.cluster_types.specs.Tables.{Targets}

pub held-closed : (c : Cluster) (es : List Event) (table : Targets) → IsClosedUnderHolding c es table (Held c es table)
held-closed c es table = record {
  by_order = λ o n may lacks. by_order o n may lacks;
  by_colocation = λ col n may lacks. by_colocation col n may lacks;
  by_place = λ r n promoted held. by_place r n promoted held;
}

pub held-least : (c : Cluster) (es : List Event) (table : Targets) (set : Decision → ℕ → Type 0) → IsClosedUnderHolding c es table set
    → (d : Decision) (n : ℕ) → Held c es table d n → set d n
held-least c es table set closed _ _ (by_order o n may lacks) =
    closed.by_order o n may (λ m within scope has. held-least c es table set closed _ _ (lacks m within scope has))
held-least c es table set closed _ _ (by_colocation col n may lacks) =
    closed.by_colocation col n may (λ has. held-least c es table set closed _ _ (lacks has))
held-least c es table set closed _ _ (by_place r n promoted held) = closed.by_place r n promoted (held-least c es table set closed _ _ held)

pub cycled-closed : (c : Cluster) (es : List Event) (targets : Targets) → IsClosedUnderCycling c es targets (cycling.Cycled c es targets)
cycled-closed c es targets = record {
  by_copies = λ r n leaf node can more. cycling.by_copies r n leaf node can more;
  by_order = λ o n m may disturbed. cycling.by_order o n m may disturbed;
  by_cycled = λ o n m may cycled disturbed. cycling.by_cycled o n m may cycled disturbed;
}

pub cycled-least : (c : Cluster) (es : List Event) (targets : Targets) (set : ℕ → ℕ → Type 0) → IsClosedUnderCycling c es targets set
    → (r n : ℕ) → cycling.Cycled c es targets r n → set r n
cycled-least c es targets set closed _ _ (cycling.by_copies r n leaf node can more) = closed.by_copies r n leaf node can more
cycled-least c es targets set closed _ _ (cycling.by_order o n m may disturbed) = closed.by_order o n m may disturbed
cycled-least c es targets set closed _ _ (cycling.by_cycled o n m may cycled disturbed) =
    closed.by_cycled o n m may (cycled-least c es targets set closed _ _ cycled) disturbed
