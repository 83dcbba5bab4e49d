-- What is read of a text: its lines with their words, or its first fault (rule of this project).
use Rattle.std.specs.Prelude.{ℕ, ◌+◌, Option, Some, None, Result, Ok, Err, List, [], ◌∷◌, ◌++◌, length, take}
use Rattle.faults.specs.Reading.{unless}
use Rattle.crm_lex.specs.RawLines.{physical_lines, raw_lines}
use Rattle.crm_lex.specs.Words.{words_of}
use Rattle.crm_lex.specs.LogicalLines.{line_text, faults}
use Rattle.crm_lex.specs.declared.line.Line.{Line}
use Rattle.faults.specs.declared.fault.Fault.{Fault}
use Rattle.crm_lex.specs.declared.fault.LexCause.{LexCause}

-- a line with its number, if it has words
abbrev pub row : ℕ → List (List ℕ) → List Line
row n [] = []
row n (word ∷ words) = record { line = n; words = word ∷ words } ∷ []

-- the logical lines with words, of some of which the first has this number. Each is given by its physical lines
abbrev pub rows_from : ℕ → List (List (List ℕ)) → List Line
rows_from n [] = []
rows_from n (lines ∷ more) = row n (words_of (line_text lines)) ++ rows_from (n + length lines) more

-- their faults, in order
abbrev pub faults_from : ℕ → List (List (List ℕ)) → List (Fault LexCause)
faults_from n [] = []
faults_from n (lines ∷ more) = faults n lines ++ faults_from (n + length lines) more

abbrev pub first_lex_fault : List (Fault LexCause) → Option (Fault LexCause)
first_lex_fault [] = None
first_lex_fault (fault ∷ faults) = Some fault

-- what is read of a text
abbrev pub reads : List ℕ → Result (List Line) (Fault LexCause)
reads text = unless (first_lex_fault (faults_from 1 (raw_lines text))) (rows_from 1 (raw_lines text))

-- what is read of the bytes of one logical line, of which the first physical line has this number: its words, or its first fault
abbrev pub reads_line : ℕ → List ℕ → Result (List (List ℕ)) (Fault LexCause)
reads_line n raw = unless (first_lex_fault (faults n (physical_lines raw))) (words_of (line_text (physical_lines raw)))

-- how many words there are, and the first eight
pub record Kept : Type 0 where
  pub count : ℕ
  pub first : List (List ℕ)

abbrev pub kept : List (List ℕ) → Kept
kept words = record { count = length words; first = take 8 words }

-- what is kept of what was read: nothing of a line with a fault
abbrev pub kept_of : Result (List (List ℕ)) (Fault LexCause) → Kept
kept_of (Ok words) = kept words
kept_of (Err fault) = kept []

-- the same, without the words
abbrev pub without_words : {A : Type 0} → Result A (Fault LexCause) → Result (Unit {0}) (Fault LexCause)
without_words (Ok words) = Ok tt
without_words (Err fault) = Err fault
