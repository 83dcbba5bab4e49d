use Rattle.std.proofs.Common.{true, None}
use Rattle.simulated.proofs.Moments.{each_moment}
use Rattle.simulated.proofs.laws.each_moment_runs_what_may_run.Goals as goal

pub returns : goal.returns
returns c = λ cl ps number es lines before after at later w run runs further.
    each_moment cl ps number true es None None None at later before after w runs further run.lives
