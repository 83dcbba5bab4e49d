use Rattle.run_safety.proofs.Moments.{moments_bounded}
use Rattle.run_safety.proofs.journals.moments_stay_bounded.Goals as goal

pub returns : goal.returns
returns c = λ cl ps whole at later rest left lines runs low. moments_bounded cl ps whole at later rest left lines runs low
