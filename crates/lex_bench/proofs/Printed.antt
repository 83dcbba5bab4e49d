-- What is printed of small texts and of a time, computed from the definitions.
use Rattle.std.proofs.Common.{◌≡◌, refl}
use Rattle.std.specs.Char.{encode_utf8}
use Rattle.std.specs.Fmt.{digits}
use Rattle.std.specs.Prelude.{codes}
use Rattle.std.specs.Str.{chars, is_utf8}
use Rattle.crm_lex.specs.Reading.{reads}
use Rattle.lex_bench.specs.Counting.{report, speed}

-- two nodes, and a comment, which is no line
words_are_counted : report (reads (codes "node n1\n# two\nnode \"n2\" standby=off\n")) ≡ codes "2 lines, 5 words"
unfolding chars digits encode_utf8 is_utf8
words_are_counted = refl

a_fault_is_told_by_its_line : report (reads (codes "node n1\n\nnode \"n2\n")) ≡ codes "line 3: OpenQuote"
unfolding chars digits encode_utf8 is_utf8
a_fault_is_told_by_its_line = refl

bytes_are_counted_a_second : speed 300 2000 ≡ codes "300 bytes: 750000000 bytes a second"
unfolding digits
bytes_are_counted_a_second = refl
