use Rattle.std.proofs.Common.{◌≡◌, ◌+◌, ◌≤◌, ◌++◌, length, vec_len, vec_capacity}
use Rattle.crm_lex.specs.RawLines.{physical_lines}
use Rattle.crm_lex.specs.LogicalLines.{content_length, joined_text}
use Rattle.crm_lex.proofs.logical.add_joined.Given as goal

abbrev pub invariant-loop-rest : goal.invariant-loop-rest
invariant-loop-rest l = record {
  items : l.text.items ++ joined_text (physical_lines l.rest) ≡ l.fn.text.items ++ joined_text (physical_lines l.raw);
  room : vec_len l.text + content_length (physical_lines l.rest) ≤ vec_len l.fn.text + content_length (physical_lines l.raw);
  capacity : vec_capacity l.text ≡ vec_capacity l.fn.text;
}

abbrev pub decreases-loop-rest : goal.decreases-loop-rest
decreases-loop-rest l = length l.rest
