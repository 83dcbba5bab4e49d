use Rattle.std.proofs.Common.{◌≡◌, length}
use Rattle.crm_parse.specs.Order.{with_steps}
use Rattle.crm_parse.proofs.order.add_steps.Given as goal

abbrev pub invariant-loop-rest : goal.invariant-loop-rest
invariant-loop-rest l = with_steps l.fn.steps l.words ≡ with_steps l.steps l.rest

abbrev pub decreases-loop-rest : goal.decreases-loop-rest
decreases-loop-rest l = length l.rest
