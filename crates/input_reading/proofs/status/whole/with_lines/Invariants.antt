use Rattle.std.proofs.Common.{drop}
use Rattle.input_reading.proofs.LinesSoFar.{AreTold}
use Rattle.input_reading.proofs.status.whole.with_lines.Given as goal

abbrev pub invariant-loop-line : goal.invariant-loop-line
invariant-loop-line l = AreTold l.names l.told l.lines (drop l.line-index l.lines)
