use Rattle.run_safety.proofs.Along.{journals_grow}
use Rattle.run_safety.proofs.run_ends.journals_grow.Goals as goal

pub returns : goal.returns
returns c = λ cl ps whole at later rest left lines runs. journals_grow cl ps whole at later rest left lines runs
