use Rattle.decision_account.proofs.Totals as totals
use Rattle.decision_account.proofs.laws.parts_add_up.Goals as goal

pub returns : goal.returns
returns c = λ cl es ps table d n. totals.parts_add_up cl es ps table d n
