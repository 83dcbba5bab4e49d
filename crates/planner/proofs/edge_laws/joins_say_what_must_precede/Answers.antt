use Rattle.planner.proofs.JoinsSay.{joins-say}
use Rattle.planner.proofs.edge_laws.joins_say_what_must_precede.Goals as goal

pub returns : goal.returns
returns c = joins-say
