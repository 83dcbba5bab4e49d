use Rattle.edges.proofs.Fronts.{first_is_one}
use Rattle.edges.proofs.laws.first_loop_is_unique.Goals as goal

pub returns : goal.returns
returns c = first_is_one
