use Rattle.std.proofs.Common.{refl}
use Rattle.trace_text.specs.RunLines.{lent_line}
use Rattle.sim_core.proofs.Told.{passes_one}
use Rattle.sim_core.proofs.auditor.Auditor.hear.Goals as goal

pub returns-then-is_next-clause-passes : goal.returns-then-is_next-clause-passes
returns-then-is_next-clause-passes c is_go = passes_one c.args.self.now _ (lent_line c.args.line.now) refl refl refl (c.is_next.ensures.0 c.if-is_next.true)
