use Rattle.edges.proofs.Fronts.{loop_with_more}
use Rattle.edges.proofs.laws.loops_stay.Goals as goal

pub returns : goal.returns
returns c = λ edges more has_all. loop_with_more edges more has_all
