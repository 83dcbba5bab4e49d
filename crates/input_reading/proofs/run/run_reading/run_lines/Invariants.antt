use Rattle.std.proofs.Common.{◌≡◌, drop}
use Rattle.input_reading.specs.RunReading.{read_run_lines, with_run_lines}
use Rattle.input_reading.proofs.run.run_reading.run_lines.Given as goal

abbrev pub invariant-loop-line : goal.invariant-loop-line
invariant-loop-line l = read_run_lines l.names l.lines ≡ with_run_lines l.names l.read.items (drop l.line-index l.lines)
