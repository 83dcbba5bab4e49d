use Rattle.std.proofs.Common.{◌≡◌, ◌+◌, ◌≤◌, length}
use Rattle.crm_lex.specs.RawLines.{physical_lines}
use Rattle.crm_lex.proofs.logical.line_count.Given as goal

abbrev pub invariant-loop-rest : goal.invariant-loop-rest
invariant-loop-rest l = record {
  few : l.count + length l.rest ≤ length l.raw;
  count : l.count + length (physical_lines l.rest) ≡ length (physical_lines l.raw);
}

abbrev pub decreases-loop-rest : goal.decreases-loop-rest
decreases-loop-rest l = length l.rest
