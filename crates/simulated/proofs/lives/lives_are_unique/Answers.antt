use Rattle.simulated.proofs.OneLife.{lives_one}
use Rattle.simulated.proofs.lives.lives_are_unique.Goals as goal

pub returns : goal.returns
returns c = λ cl number first es w other one two. lives_one cl number first es w other one two
