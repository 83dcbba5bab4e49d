use Rattle.edges.proofs.Endings.{one_way}
use Rattle.edges.proofs.Paths.{loop_or_none}
use Rattle.edges.proofs.laws.loops_or_none.Goals as goal

pub returns-clause-one : goal.returns-clause-one
returns-clause-one c = loop_or_none

pub returns-clause-no_more : goal.returns-clause-no_more
returns-clause-no_more c = one_way
