use Rattle.loops.proofs.OneFirst.{one_order}
use Rattle.loops.proofs.rule_laws.first_order_is_unique.Goals as goal

pub returns : goal.returns
returns c = one_order
