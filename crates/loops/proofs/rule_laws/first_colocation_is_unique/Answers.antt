use Rattle.loops.proofs.OneFirst.{one_colocation}
use Rattle.loops.proofs.rule_laws.first_colocation_is_unique.Goals as goal

pub returns : goal.returns
returns c = one_colocation
