use Rattle.std.proofs.Common.{◌≡◌, ◌+◌, ◌≤◌, ◌++◌, length, vec_capacity}
use Rattle.crm_lex.specs.RawLines.{raw_lines}
use Rattle.crm_lex.specs.Reading.{faults_from, first_lex_fault, rows_from}
use Rattle.crm_lex.proofs.reading.read_lines.Given as goal

abbrev pub invariant-loop-rest : goal.invariant-loop-rest
invariant-loop-rest l = record {
  few : l.number + length l.rest ≤ length l.bytes + 1;
  fault : first_lex_fault (faults_from 1 (raw_lines l.bytes)) ≡ first_lex_fault (faults_from l.number (raw_lines l.rest));
  rows : rows_from 1 (raw_lines l.bytes) ≡ l.lines.items ++ rows_from l.number (raw_lines l.rest);
  text_room : 1048576 ≤ vec_capacity l.text;
  word_room : 1048576 ≤ vec_capacity l.word;
}

abbrev pub decreases-loop-rest : goal.decreases-loop-rest
decreases-loop-rest l = length l.rest
