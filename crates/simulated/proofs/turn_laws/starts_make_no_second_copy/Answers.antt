use Rattle.simulated.proofs.Applying.{none_second}
use Rattle.simulated.proofs.turn_laws.starts_make_no_second_copy.Goals as goal

pub returns : goal.returns
returns c = none_second
