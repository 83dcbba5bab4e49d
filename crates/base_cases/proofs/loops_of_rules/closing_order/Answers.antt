use Rattle.std.proofs.Common.{IsTrue}
use Rattle.base_cases.proofs.loops_of_rules.closing_order.Goals as goal

pub order_loop-requires-clause-ordered : goal.order_loop-requires-clause-ordered
order_loop-requires-clause-ordered g c =
    let told : IsTrue c.orders_steps.result = let kept = c.if-assert-2.false in cc in
    c.orders_steps.ensures.0 told
