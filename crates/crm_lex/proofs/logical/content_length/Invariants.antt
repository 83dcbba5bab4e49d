use Rattle.std.proofs.Common.{◌≡◌, ◌+◌, ◌≤◌, length}
use Rattle.crm_lex.specs.RawLines.{physical_lines}
use Rattle.crm_lex.specs.LogicalLines.{content_length}
use Rattle.crm_lex.proofs.logical.content_length.Given as goal

abbrev pub invariant-loop-rest : goal.invariant-loop-rest
invariant-loop-rest l = record {
  few : l.total + length l.rest ≤ length l.raw;
  total : l.total + content_length (physical_lines l.rest) ≡ content_length (physical_lines l.raw);
}

abbrev pub decreases-loop-rest : goal.decreases-loop-rest
decreases-loop-rest l = length l.rest
