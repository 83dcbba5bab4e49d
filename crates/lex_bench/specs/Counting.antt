-- What is printed of a text (rule of this project).
use Rattle.std.specs.Prelude.{ℕ, ◌*◌, ◌/◌, max, nat_eq, Bool, Result, Ok, Err, List, [], ◌++◌, length, sum_by, codes, decimal}
use Rattle.std.specs.Cmp.Lexicographic.{pointwise}
use Rattle.crm_lex.specs.declared.line.Line.{Line}
use Rattle.crm_lex.specs.declared.fault.LexCause.{LexCause}
use Rattle.crm_lex.specs.Causes.{lex_name}
use Rattle.faults.specs.declared.fault.Fault.{Fault}
use Rattle.faults.specs.declared.fault.Fault.TheVariants.{At, NoMemory}

-- how many words some lines have together
abbrev pub words_in : List Line → ℕ
words_in lines = sum_by (λ line. length line.words) lines

-- what is printed of what was read of a text: the number of its lines and of all their words, or the line and cause of its first fault
abbrev pub report : Result (List Line) (Fault LexCause) → List ℕ
report (Ok lines) = decimal (length lines) ++ (codes " lines, " ++ (decimal (words_in lines) ++ codes " words"))
report (Err (At line cause)) = codes "line " ++ (decimal line ++ (codes ": " ++ lex_name cause))
report (Err NoMemory) = []

-- the word that asks for the time
abbrev pub is_time_word : List ℕ → Bool
is_time_word word = pointwise nat_eq word (codes "time")

-- what is printed where a text of so many bytes was cut five times in so many nanoseconds: its bytes, and how many are cut in a second
abbrev pub speed : ℕ → ℕ → List ℕ
speed bytes nanos = decimal bytes ++ (codes " bytes: " ++ (decimal (bytes * 5 * 1000000000 / max nanos 1) ++ codes " bytes a second"))
