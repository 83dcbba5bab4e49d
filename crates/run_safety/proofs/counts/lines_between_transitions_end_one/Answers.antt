use Rattle.run_safety.proofs.Between.{ends_between}
use Rattle.run_safety.proofs.counts.lines_between_transitions_end_one.Goals as goal

pub returns : goal.returns
returns c = λ cl ps whole es at rest left lines runs between. ends_between cl ps whole es at rest left lines runs between
