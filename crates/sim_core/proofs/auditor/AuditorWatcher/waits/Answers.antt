use Rattle.sim_core.specs.Inner.AuditorLaws.{passes_itself}
use Rattle.sim_core.proofs.auditor.AuditorWatcher.waits.Goals as goal

pub returns-clause-follows : goal.returns-clause-follows
returns-clause-follows c go = passes_itself c.args.self.now
