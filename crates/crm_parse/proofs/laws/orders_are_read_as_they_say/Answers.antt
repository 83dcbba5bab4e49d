use Rattle.crm_parse.proofs.Grammar.OrderIsRead.{order-is_read}
use Rattle.crm_parse.proofs.Grammar.OrderIsSaid.{order-is_said}
use Rattle.crm_parse.proofs.laws.orders_are_read_as_they_say.Goals as goal

pub returns : goal.returns
returns c = λ words order. (order-is_said words order, order-is_read words order)
