-- What is read of a text is what is read of its logical lines one by one.
use Rattle.std.proofs.Common.{◌≡◌, ℕ, ◌+◌, Bool, true, false, if◌then◌else◌, List, [], ◌∷◌, ◌++◌, length, map, refl, sym, ap, ◌∙◌, subst}
use Rattle.std.specs.List.{concat, AllByRecursion}
use Rattle.std.proofs.lemmas.List.Folds.{concat-append}
use Rattle.faults.specs.Reading.{unless}
use Rattle.crm_lex.specs.RawLines.{physical_lines, onto_group, goes_on, joined, raw_lines}
use Rattle.crm_lex.specs.Words.{words_of}
use Rattle.crm_lex.specs.LogicalLines.{line_text, faults}
use Rattle.crm_lex.specs.Reading.{row, rows_from, faults_from, first_lex_fault, reads}
use Rattle.crm_lex.specs.Pieces.{line_bytes, before_others, reads_each}
use Rattle.crm_lex.specs.declared.line.Line.{Line}
use Rattle.faults.specs.declared.fault.Fault.{Fault}
use Rattle.crm_lex.specs.declared.fault.LexCause.{LexCause}
use Rattle.crm_lex.proofs.PhysicalLines.{Whole, Whole-physical, Whole-front, Whole-back, lines-concat, concat-lines}

-- the lines of all groups
abbrev pub all_lines : List (List (List ℕ)) → List (List ℕ)
all_lines [] = []
all_lines (group ∷ groups) = group ++ all_lines groups

all_lines-onto : (line : List ℕ) (groups : List (List (List ℕ))) → all_lines (onto_group line groups) ≡ line ∷ all_lines groups
all_lines-onto line [] = refl
all_lines-onto line (group ∷ groups) = refl

all_lines-joined : (continues : Bool) (lines : List (List ℕ)) → all_lines (joined continues lines) ≡ lines
all_lines-joined continues [] = refl
all_lines-joined continues (line ∷ lines) = split (goes_on continues line) (all_lines-joined true lines) (all_lines-joined false lines)
  where
    split : (t : Bool) → all_lines (joined true lines) ≡ lines → all_lines (joined false lines) ≡ lines
        → all_lines (if t then onto_group line (joined true lines) else (line ∷ []) ∷ joined false lines) ≡ line ∷ lines
    split true on off = all_lines-onto line (joined true lines) ∙ ap (λ ls. line ∷ ls) on
    split false on off = ap (λ ls. line ∷ ls) off

-- each group has the physical lines of its own bytes
abbrev pub AllOwn : List (List (List ℕ)) → Type 0
AllOwn groups = AllByRecursion (λ group. physical_lines (concat group) ≡ group) groups

own : (groups : List (List (List ℕ))) → Whole (all_lines groups) → AllOwn groups
own [] w = tt
own (group ∷ groups) w = (lines-concat group (Whole-front group (all_lines groups) w), own groups (Whole-back group (all_lines groups) w))

pub own_lines : (text : List ℕ) → AllOwn (raw_lines text)
own_lines text = own (raw_lines text) (subst Whole (sym (all_lines-joined false (physical_lines text))) (Whole-physical text))

step : (n : ℕ) (found later : List (Fault LexCause)) (words : List (List ℕ)) (rows : List Line)
    → unless (first_lex_fault (found ++ later)) (row n words ++ rows) ≡ before_others n (unless (first_lex_fault found) words) (unless (first_lex_fault later) rows)
step n [] [] words rows = refl
step n [] (fault ∷ later) words rows = refl
step n (fault ∷ found) later words rows = refl

by_pieces : (n : ℕ) (groups : List (List (List ℕ))) → AllOwn groups → unless (first_lex_fault (faults_from n groups)) (rows_from n groups) ≡ reads_each n (map concat groups)
by_pieces n [] o = refl
by_pieces n (group ∷ groups) o =
    let more = by_pieces (n + length group) groups o.1 in
    let here = step n (faults n group) (faults_from (n + length group) groups) (words_of (line_text group)) (rows_from (n + length group) groups) in
    here ∙ (ap (before_others n (unless (first_lex_fault (faults n group)) (words_of (line_text group)))) more ∙ rw o.0 refl)

pub same_by_pieces : (text : List ℕ) → reads text ≡ reads_each 1 (line_bytes text)
same_by_pieces text = by_pieces 1 (raw_lines text) (own_lines text)

concat-groups : (groups : List (List (List ℕ))) → concat (map concat groups) ≡ concat (all_lines groups)
concat-groups [] = refl
concat-groups (group ∷ groups) = ap (λ xs. concat group ++ xs) (concat-groups groups) ∙ sym (concat-append group (all_lines groups))

pub whole_by_pieces : (text : List ℕ) → concat (line_bytes text) ≡ text
whole_by_pieces text = concat-groups (raw_lines text) ∙ (ap concat (all_lines-joined false (physical_lines text)) ∙ concat-lines text)
