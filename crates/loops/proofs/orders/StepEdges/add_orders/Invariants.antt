use Rattle.std.proofs.Common.{◌≡◌, ◌+◌, length, map}
use Rattle.std.specs.List.{range_with_len}
use Rattle.loops.specs.Inner.Edges.{step_edges}
use Rattle.loops.specs.FirstLoops.{with_first_orders}
use Rattle.loops.proofs.orders.StepEdges.add_orders.Given as goal

abbrev pub invariant-loop-order : goal.invariant-loop-order
invariant-loop-order l = record {
  edges : l.self.edges.items ≡ step_edges (with_first_orders l.cluster l.order-index);
  ends : l.self.ends.items ≡ map (λ k. length (step_edges (with_first_orders l.cluster (k + 1)))) (range_with_len 0 l.order-index);
}
