use Rattle.std.proofs.Common.{◌≡◌, ◌+◌, ◌≤◌, ◌^◌, length}
use Rattle.crm_lex.specs.RawLines.{physical_lines}
use Rattle.crm_lex.specs.LogicalLines.{all_byte_faults}
use Rattle.crm_lex.specs.Reading.{first_lex_fault}
use Rattle.crm_lex.proofs.logical.first_byte_fault.Given as goal

abbrev pub invariant-loop-rest : goal.invariant-loop-rest
invariant-loop-rest l = record {
  few : l.number + length (physical_lines l.rest) ≤ 2 ^ 32;
  fault : first_lex_fault (all_byte_faults l.number (physical_lines l.rest)) ≡ first_lex_fault (all_byte_faults l.first (physical_lines l.raw));
}

abbrev pub decreases-loop-rest : goal.decreases-loop-rest
decreases-loop-rest l = length l.rest
