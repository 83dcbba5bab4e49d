use Rattle.std.proofs.Common.{Some, rules}
use Rattle.sim_core.specs.GenSummary.{cut}
use Rattle.sim_core.proofs.gen_summary.run_of.Goals as goal

pub returns-in-Err-Unexpected-clause-run : goal.returns-in-Err-Unexpected-clause-run
returns-in-Err-Unexpected-clause-run c = cut c.in-Err-Unexpected.field-0-1 (Some c.replay.new.outcomes.left) (search rules)
