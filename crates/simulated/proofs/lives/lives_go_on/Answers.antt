use Rattle.simulated.proofs.OneLife.{life_goes_on}
use Rattle.simulated.proofs.lives.lives_go_on.Goals as goal

pub returns : goal.returns
returns c = λ cl number first es more w last one two. life_goes_on cl number first es more w last one two
