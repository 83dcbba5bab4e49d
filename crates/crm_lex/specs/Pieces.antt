-- A text read logical line by logical line, as it comes from a live source.
use Rattle.std.specs.Prelude.{ℕ, ◌+◌, Result, Ok, Err, List, [], ◌∷◌, ◌++◌, length, map}
use Rattle.std.specs.List.{concat}
use Rattle.crm_lex.specs.RawLines.{physical_lines, raw_lines}
use Rattle.crm_lex.specs.Reading.{row, reads_line}
use Rattle.crm_lex.specs.declared.line.Line.{Line}
use Rattle.faults.specs.declared.fault.Fault.{Fault}
use Rattle.crm_lex.specs.declared.fault.LexCause.{LexCause}

-- the bytes of each logical line of a text, with its line ends
abbrev pub line_bytes : List ℕ → List (List ℕ)
line_bytes text = map concat (raw_lines text)

-- the words that were read of a line, if there are some, before what is read of the lines behind it
abbrev pub before_others : ℕ → Result (List (List ℕ)) (Fault LexCause) → Result (List Line) (Fault LexCause) → Result (List Line) (Fault LexCause)
before_others n (Err fault) others = Err fault
before_others n (Ok words) (Err fault) = Err fault
before_others n (Ok words) (Ok rows) = Ok (row n words ++ rows)

-- what is read of the bytes of some logical lines one by one, of which the first has this number
abbrev pub reads_each : ℕ → List (List ℕ) → Result (List Line) (Fault LexCause)
reads_each n [] = Ok []
reads_each n (raw ∷ more) = before_others n (reads_line n raw) (reads_each (n + length (physical_lines raw)) more)
