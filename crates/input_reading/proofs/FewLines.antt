-- A text has no more lines with words than bytes, and each has a number of at most as many. Each line of the configuration is one statement.
use Rattle.std.proofs.Common.{◌≡◌, ℕ, zero, suc, ◌+◌, ◌-◌, ◌<◌, ◌≤◌, Bool, true, false, if◌then◌else◌, Option, Some, None, List, [], ◌∷◌, ◌++◌, length, Ok, refl, ap, ◌∙◌, subst, arith}
use Rattle.std.specs.List.{AllByRecursion, slice_get}
use Rattle.std.specs.Option.{option_map_or}
use Rattle.std.proofs.lemmas.List.{length-append, length-map}
use Rattle.faults.proofs.Steps.{unless-ok}
use Rattle.crm_lex.specs.declared.line.Line.{Line}
use Rattle.crm_lex.specs.LogicalLines.{line_text}
use Rattle.crm_lex.specs.RawLines.{goes_on, joined, onto_group, physical_lines, raw_lines}
use Rattle.crm_lex.specs.Reading.{faults_from, first_lex_fault, reads, row, rows_from}
use Rattle.crm_lex.specs.Words.{words_of}
use Rattle.crm_lex.proofs.FaultOrder.{count_lines}
use Rattle.crm_lex.proofs.PhysicalLines.{few_lines}
use Rattle.crm_parse.specs.declared.draft.DraftStatement.{DraftStatement}
use Rattle.crm_parse.specs.declared.statement.Crm.{Crm}
use Rattle.crm_parse.specs.Statements.{crm_of, promotable_by, statement_of, statements_of, with_lines}
use Rattle.crm_parse.proofs.LinesRead.{Says, read_of-ok, said}
use Rattle.lemmas.proofs.Members.{all_append}
use Rattle.input_reading.specs.Reading.{line_behind}

one_row : (n : ℕ) (words : List (List ℕ)) → length (row n words) ≤ 1
one_row n [] = omega arith
one_row n (word ∷ words) = omega arith

few_rows : (n : ℕ) (groups : List (List (List ℕ))) → length (rows_from n groups) ≤ length groups
few_rows n [] = omega arith
few_rows n (group ∷ groups) =
    let words = words_of (line_text group) in
    let more = rows_from (n + length group) groups in
    let joint = length-append (row n words) more in
    omega (arith, joint, one_row n words, few_rows (n + length group) groups)

few_onto : (line : List ℕ) (groups : List (List (List ℕ))) → length (onto_group line groups) ≤ length groups + 1
few_onto line [] = omega arith
few_onto line (group ∷ groups) = omega arith

few_groups : (continues : Bool) (lines : List (List ℕ)) → length (joined continues lines) ≤ length lines
few_groups continues [] = omega arith
few_groups continues (line ∷ lines) = split (goes_on continues line) (few_groups true lines) (few_groups false lines)
  where
    split : (t : Bool) → length (joined true lines) ≤ length lines → length (joined false lines) ≤ length lines
        → length (if t then onto_group line (joined true lines) else (line ∷ []) ∷ joined false lines) ≤ length (line ∷ lines)
    split true one other = omega (arith, one, few_onto line (joined true lines))
    split false one other = omega (arith, other)

pub few_rows_read : (text : List ℕ) (lines : List Line) → reads text ≡ Ok lines → length lines ≤ length text
few_rows_read text lines e =
    let rows = (unless-ok (first_lex_fault (faults_from 1 (raw_lines text))) (rows_from 1 (raw_lines text)) lines e).1 in
    let short : length (rows_from 1 (raw_lines text)) ≤ length text = omega (arith, few_rows 1 (raw_lines text), few_groups false (physical_lines text), few_lines text) in
    subst (λ (found : List Line). length found ≤ length text) rows short

in_onto : (line : List ℕ) (groups : List (List (List ℕ))) → count_lines (onto_group line groups) ≡ 1 + count_lines groups
in_onto line [] = omega arith
in_onto line (group ∷ groups) = omega arith

in_joined : (continues : Bool) (lines : List (List ℕ)) → count_lines (joined continues lines) ≡ length lines
in_joined continues [] = refl
in_joined continues (line ∷ lines) = split (goes_on continues line) (in_joined true lines) (in_joined false lines)
  where
    split : (t : Bool) → count_lines (joined true lines) ≡ length lines → count_lines (joined false lines) ≡ length lines
        → count_lines (if t then onto_group line (joined true lines) else (line ∷ []) ∷ joined false lines) ≡ length (line ∷ lines)
    split true one other = omega (arith, one, in_onto line (joined true lines))
    split false one other = omega (arith, other)

-- these lines stand before a line
abbrev AllBefore : ℕ → List Line → Type 0
AllBefore n lines = AllByRecursion (λ (line : Line). line.line < n) lines

row_before : (n m : ℕ) (words : List (List ℕ)) → n < m → AllBefore m (row n words)
row_before n m [] h = tt
row_before n m (word ∷ words) h = (h, tt)

-- a group has a line
abbrev AllSome : List (List (List ℕ)) → Type 0
AllSome groups = AllByRecursion (λ (group : List (List ℕ)). 0 < length group) groups

some_onto : (line : List ℕ) (groups : List (List (List ℕ))) → AllSome groups → AllSome (onto_group line groups)
some_onto line [] h = (omega arith, tt)
some_onto line (group ∷ groups) h = (omega arith, h.1)

some_joined : (continues : Bool) (lines : List (List ℕ)) → AllSome (joined continues lines)
some_joined continues [] = tt
some_joined continues (line ∷ lines) = split (goes_on continues line) (some_joined true lines) (some_joined false lines)
  where
    split : (t : Bool) → AllSome (joined true lines) → AllSome (joined false lines)
        → AllSome (if t then onto_group line (joined true lines) else (line ∷ []) ∷ joined false lines)
    split true one other = some_onto line (joined true lines) one
    split false one other = (omega arith, other)

rows_before : (n m : ℕ) (groups : List (List (List ℕ))) → AllSome groups → n + count_lines groups ≤ m → AllBefore m (rows_from n groups)
rows_before n m [] some h = tt
rows_before n m (group ∷ groups) some h =
    let words = words_of (line_text group) in
    all_append (λ (l : Line). l.line < m) (row n words) (rows_from (n + length group) groups)
    (row_before n m words (omega (arith, some.0, h)))
    (rows_before (n + length group) m groups some.1 (omega (arith, h)))

one_before : (m k : ℕ) (lines : List Line) (found : Option Line) → AllBefore m lines → 0 < m → slice_get lines k ≡ found
    → option_map_or (λ (line : Line). line.line + 1) found 1 ≤ m
one_before m k lines None all some e = omega (arith, some)
one_before m k [] (Some line) all some e = absurd cc
one_before m zero (first ∷ lines) (Some line) all some e = let same : first ≡ line = cc in rw (← same) (omega (arith, all.0))
one_before m (suc k) (first ∷ lines) (Some line) all some e = one_before m k lines (Some line) all.1 some e

pub few_lines_before : (text : List ℕ) (lines : List Line) → reads text ≡ Ok lines → line_behind lines ≤ 1 + length text
few_lines_before text lines e =
    let groups = raw_lines text in
    let rows = (unless-ok (first_lex_fault (faults_from 1 groups)) (rows_from 1 groups) lines e).1 in
    let bound : 1 + count_lines groups ≤ 1 + length text = omega (arith, in_joined false (physical_lines text), few_lines text) in
    let all : AllBefore (1 + length text) lines
    = subst (λ (found : List Line). AllBefore (1 + length text) found) rows
    (rows_before 1 (1 + length text) groups (some_joined false (physical_lines text)) bound) in
    one_before (1 + length text) (length lines - 1) lines (slice_get lines (length lines - 1)) all (omega arith) refl

same_many : (before : List DraftStatement) (lines : List Line) (more : List DraftStatement) → Says before lines more → length more ≡ length lines
same_many before [] [] h = refl
same_many before [] (s ∷ more) h = absurd h
same_many before (line ∷ lines) [] h = absurd h
same_many before (line ∷ lines) (s ∷ more) h = ap (λ n. suc n) (same_many (before ++ s ∷ []) lines more h.1)

pub few_stated : (lines : List Line) (crm : Crm) → statements_of lines ≡ Ok crm → length crm.statements ≤ length lines
few_stated lines crm e =
    let (drafts, read, same) = read_of-ok (with_lines [] lines) crm e in
    let said_all = said [] lines drafts read in
    let many : length drafts ≡ length lines = ap length said_all.added ∙ same_many [] lines said_all.more said_all.says in
    let all : length (crm_of drafts).statements ≡ length drafts = length-map drafts (statement_of (promotable_by drafts)) in
    subst (λ (c : Crm). length c.statements ≤ length lines) same (omega (arith, many, all))
