use Rattle.std.proofs.Common.{◌≤◌, IsTrue, length, refl}
use Rattle.std.proofs.lemmas.List.{take_all}
use Rattle.loops.specs.FirstLoops.{OrdersSteps}
use Rattle.lemmas.proofs.Members.{all_more, read_there}
use Rattle.loops.proofs.orders.orders_steps.Goals as goal

pub returns-then-not-is_of_steps : goal.returns-then-not-is_of_steps
returns-then-not-is_of_steps c = (
  λ h. cc,
  λ all.
      let one
      = all c.order-item.result (read_there c.as_slice-order-items.ensures c.loop-order-test.true c.order-item.is) in
      let passes = (c.is_of_steps.ensures c.args.cluster.now c.len-leaves.ensures).1 one in
      let fails = c.if-not-is_of_steps.true in
      cc,
)

pub loop-order-preserved : goal.loop-order-preserved
loop-order-preserved c =
    let passes : IsTrue c.is_of_steps.result = let kept = c.if-not-is_of_steps.false in cc in
    all_more (OrdersSteps c.args.cluster.now) c.args.cluster.now.orders c.loop-order.order-index c.order-item.result
    (rw c.as_slice-order-items.ensures at c.loop-order-test.true) (rw c.as_slice-order-items.ensures at c.order-item.is)
    c.loop-order.invariant
    ((c.is_of_steps.ensures c.args.cluster.now c.len-leaves.ensures).0 passes)

pub returns : goal.returns
returns c = (
  λ h x among.
      let end : length c.args.cluster.now.orders ≤ c.loop-order.order-index
      = rw c.as_slice-order-items.ensures at c.loop-order-test.false in
      c.loop-order.invariant x (rw (take_all c.loop-order.order-index c.args.cluster.now.orders end) among),
  λ all. refl,
)
