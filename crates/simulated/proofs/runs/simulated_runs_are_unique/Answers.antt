use Rattle.simulated.proofs.OneEnd.{lived_one}
use Rattle.simulated.proofs.runs.simulated_runs_are_unique.Goals as goal

pub returns : goal.returns
returns c = λ cl journal number run other over ended w last none one two. lived_one cl journal number none run other over ended w last one two
