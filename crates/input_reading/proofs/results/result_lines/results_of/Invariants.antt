use Rattle.std.proofs.Common.{drop}
use Rattle.cluster_types.specs.Journals as journals
use Rattle.input_reading.proofs.ResultsSoFar.{AreRead}
use Rattle.input_reading.proofs.results.result_lines.results_of.Given as goal

abbrev pub invariant-loop-line : goal.invariant-loop-line
invariant-loop-line l = AreRead l.names (journals.moment_of l.journal.events) l.moment l.results.items l.lines (drop l.line-index l.lines)
