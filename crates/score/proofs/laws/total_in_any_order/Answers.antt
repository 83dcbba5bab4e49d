use Rattle.score.proofs.OrderLemmas.{same_total}
use Rattle.score.proofs.laws.total_in_any_order.Goals as goal

pub returns : goal.returns
returns c = same_total
