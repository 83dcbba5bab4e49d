use Rattle.simulated.proofs.OneLife.{step_one}
use Rattle.simulated.proofs.lives.steps_of_life_are_unique.Goals as goal

pub returns : goal.returns
returns c = λ cl number es events others more rest w next after is one two. step_one cl number es w events others more rest next after is one two
