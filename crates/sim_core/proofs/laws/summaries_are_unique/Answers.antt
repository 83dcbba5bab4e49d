use Rattle.sim_core.proofs.OneSummary.{one_summary}
use Rattle.sim_core.proofs.laws.summaries_are_unique.Goals as goal

pub returns : goal.returns
returns c = λ number whole text other one two. one_summary number whole text other one two
