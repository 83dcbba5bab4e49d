use Rattle.std.proofs.Common.{[]}
use Rattle.plan_laws.proofs.OneOrder.{one_order}
use Rattle.plan_laws.proofs.laws.the_order_of_decisions_is_unique.Goals as goal

pub returns : goal.returns
returns c = λ cl es ps xs ys. one_order cl es ps [] xs ys
