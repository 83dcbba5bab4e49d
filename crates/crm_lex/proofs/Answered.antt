-- What is read of a text, logical line by logical line.
use Rattle.std.proofs.Common.{◌≡◌, Vec, ℕ, ◌+◌, Some, None, Ok, Err, List, ◌∷◌, ◌++◌, length, refl, sym, ◌∙◌}
use Rattle.faults.specs.Reading.{Gives}
use Rattle.faults.proofs.Steps.{unless-ok, unless-err}
use Rattle.crm_lex.specs.RawLines.{physical_lines, raw_lines}
use Rattle.crm_lex.specs.Words.{words_of}
use Rattle.crm_lex.specs.LogicalLines.{line_text, faults}
use Rattle.crm_lex.specs.Reading.{row, rows_from, faults_from, first_lex_fault, reads, reads_line}
use Rattle.crm_lex.specs.declared.line.Line.{Line}
use Rattle.faults.specs.declared.fault.Fault.{Fault}
use Rattle.crm_lex.specs.declared.fault.LexCause.{LexCause}
use Rattle.faults.specs.declared.fault.Fault.TheVariants.{At, NoMemory}
use Rattle.crm_lex.proofs.Faults.{first_fault-some, first_fault-none}

module _ (n : ℕ) (groups more : List (List (List ℕ))) (group : List (List ℕ)) (first : groups ≡ group ∷ more) where
  -- the first logical line has a fault
  pub fault_here : (fault : Fault LexCause) → Some fault ≡ first_lex_fault (faults n group) → first_lex_fault (faults_from n groups) ≡ Some fault
  fault_here fault e = rw first (first_fault-some (faults n group) (faults_from (n + length group) more) fault e)

  -- it has none
  pub fault_later : None ≡ first_lex_fault (faults n group) → first_lex_fault (faults_from n groups) ≡ first_lex_fault (faults_from (n + length group) more)
  fault_later e = rw first (first_fault-none (faults n group) (faults_from (n + length group) more) e)

  pub rows_later : rows_from n groups ≡ row n (words_of (line_text group)) ++ rows_from (n + length group) more
  rows_later = rw first refl

-- the answer where a text has a fault
pub gives_fault : (Z : Type 0) (text : List ℕ) (fault : Fault LexCause) → first_lex_fault (faults_from 1 (raw_lines text)) ≡ Some fault → Gives (λ (lines : Vec Line Z). lines.items) (Err fault) (reads text)
gives_fault Z text (At n cause) e = rw e refl
gives_fault Z text NoMemory e = tt

-- the answer where a line has a fault, which is the first of the text
pub gives_line_fault : (Z : Type 0) (text raw : List ℕ) (n : ℕ) (groups more : List (List (List ℕ))) → groups ≡ physical_lines raw ∷ more
    → first_lex_fault (faults_from 1 (raw_lines text)) ≡ first_lex_fault (faults_from n groups)
    → (fault : Fault LexCause) → Gives (λ (words : List (List ℕ)). words) (Err fault) (reads_line n raw) → Gives (λ (lines : Vec Line Z). lines.items) (Err fault) (reads text)
gives_line_fault Z text raw n groups more first before NoMemory given = tt
gives_line_fault Z text raw n groups more first before (At m cause) given =
    let found = unless-err (first_lex_fault (faults n (physical_lines raw))) (words_of (line_text (physical_lines raw))) (At m cause) given in
    gives_fault Z text (At m cause) (before ∙ fault_here n groups more (physical_lines raw) first (At m cause) (sym found))

-- what is read of a line without fault
pub line_words : (n : ℕ) (raw : List ℕ) (words : List (List ℕ)) → Gives (λ (words : List (List ℕ)). words) (Ok words) (reads_line n raw)
    → (None ≡ first_lex_fault (faults n (physical_lines raw))) × (words ≡ words_of (line_text (physical_lines raw)))
line_words n raw words given =
    let read = unless-ok (first_lex_fault (faults n (physical_lines raw))) (words_of (line_text (physical_lines raw))) words given in
    (sym read.0, sym read.1)
