use Rattle.std.proofs.Common.{arith, ◌≡◌, ◌+◌, length, ap}
use Rattle.loops.specs.Inner.Edges.{step_edges}
use Rattle.loops.specs.FirstLoops.{with_first_orders}
use Rattle.loops.proofs.LinkEdges.{end_then, order_then}
use Rattle.lemmas.proofs.Members.{read_there}
use Rattle.loops.proofs.orders.StepEdges.add_orders.Goals as goal

pub add_order-requires-clause-first : goal.add_order-requires-clause-first
add_order-requires-clause-first c =
    let o = c.requires.ordered c.order-item.result (read_there c.as_slice-order-items.ensures c.loop-order-test.true c.order-item.is) in
    let f = o.first in
    omega arith

pub add_order-requires-clause-later : goal.add_order-requires-clause-later
add_order-requires-clause-later c =
    let o = c.requires.ordered c.order-item.result (read_there c.as_slice-order-items.ensures c.loop-order-test.true c.order-item.is) in
    let l = o.later in
    omega arith

pub loop-order-preserved : goal.loop-order-preserved
loop-order-preserved c =
    let now : c.add_order.new.self.edges.items ≡ step_edges (with_first_orders c.args.cluster.now (c.loop-order.order-index + 1))
    = order_then c.args.cluster.now c.loop-order.order-index c.order-item.result _ _
    (rw c.as_slice-order-items.ensures at c.loop-order-test.true)
    (rw c.as_slice-order-items.ensures at c.order-item.is) c.loop-order.invariant.edges c.in_ok-add_order.ensures.edges in
    record {
      edges = now;
      ends = end_then c.args.cluster.now c.loop-order.order-index (length c.add_order.new.self.edges.items) _ _ c.loop-order.invariant.ends
          c.in_ok-add_order.ensures.ends
          (ap length now);
    }
