-- What is read of some logical lines before others. Whether they have faults, and which words, doesn't go by the number of the first.
use Rattle.std.proofs.Common.{arith, ◌≡◌, ◌+◌, ℕ, Bool, true, false, if◌then◌else◌, List, [], ◌∷◌, ◌++◌, length, map, append_assoc, append-nil, Ok, refl, sym, ap, subst, ◌∙◌}
use Rattle.std.specs.List.{concat}
use Rattle.std.proofs.lemmas.List.{map-append}
use Rattle.std.proofs.lemmas.List.Folds.{concat-append}
use Rattle.crm_lex.specs.LogicalLines.{all_byte_faults, byte_faults, fault_if, faults, line_text}
use Rattle.crm_lex.specs.RawLines.{goes_on, joined, onto_group, physical_lines, raw_lines}
use Rattle.crm_lex.specs.Reading.{faults_from, first_lex_fault, reads, row, rows_from}
use Rattle.crm_lex.specs.Words.{words_of}
use Rattle.crm_lex.specs.declared.fault.LexCause.{LexCause}
use Rattle.crm_lex.specs.declared.line.Line.{Line}
use Rattle.crm_lex.proofs.FaultOrder.{count_lines}
use Rattle.crm_lex.proofs.Pieces.{whole_by_pieces}
use Rattle.crm_lex.proofs.PhysicalLines.{Whole, Whole-back, Whole-front, Whole-physical, concat-lines, lines-concat}
use Rattle.faults.specs.declared.fault.Fault.{Fault}
use Rattle.faults.specs.Reading.{unless}
use Rattle.live_run.specs.SourceFollowed.{bytes_of}

pub rows_joined : (n : ℕ) (xs ys : List (List (List ℕ))) → rows_from n (xs ++ ys) ≡ rows_from n xs ++ rows_from (n + count_lines xs) ys
rows_joined n [] ys = ap (λ (m : ℕ). rows_from m ys) (let e : n ≡ n + 0 = omega arith in e)
rows_joined n (x ∷ xs) ys =
    let e : n + length x + count_lines xs ≡ n + (length x + count_lines xs) = omega arith in
    ap (λ (rows : List Line). row n (words_of (line_text x)) ++ rows)
    (rows_joined (n + length x) xs ys ∙ ap (λ (m : ℕ). rows_from (n + length x) xs ++ rows_from m ys) e)
    ∙ sym (append_assoc (row n (words_of (line_text x))) (rows_from (n + length x) xs) (rows_from (n + count_lines (x ∷ xs)) ys))

pub faults_joined : (n : ℕ) (xs ys : List (List (List ℕ))) → faults_from n (xs ++ ys) ≡ faults_from n xs ++ faults_from (n + count_lines xs) ys
faults_joined n [] ys = ap (λ (m : ℕ). faults_from m ys) (let e : n ≡ n + 0 = omega arith in e)
faults_joined n (x ∷ xs) ys =
    let e : n + length x + count_lines xs ≡ n + (length x + count_lines xs) = omega arith in
    ap (λ (found : List (Fault LexCause)). faults n x ++ found)
    (faults_joined (n + length x) xs ys ∙ ap (λ (m : ℕ). faults_from (n + length x) xs ++ faults_from m ys) e)
    ∙ sym (append_assoc (faults n x) (faults_from (n + length x) xs) (faults_from (n + count_lines (x ∷ xs)) ys))

-- nothing stands in two lists where nothing stands in both together
pub both_none : {X : Type 0} (xs ys : List X) → xs ++ ys ≡ [] → (xs ≡ []) × (ys ≡ [])
both_none [] ys e = (refl, e)
both_none (x ∷ xs) ys e = absurd (let f : ⊥ = cc in f)

no_fault : (b : Bool) (n m : ℕ) (cause : LexCause) → fault_if b n cause ≡ [] → fault_if b m cause ≡ []
no_fault true n m cause e = absurd (let f : ⊥ = cc in f)
no_fault false n m cause e = refl

-- a list that is empty stands before another
pub none_first : {X : Type 0} (xs ys : List X) → xs ≡ [] → ys ≡ [] → xs ++ ys ≡ []
none_first xs ys e f = rw (e, f) refl

bytes_clean : (n m : ℕ) (line : List ℕ) → byte_faults n line ≡ [] → byte_faults m line ≡ []
bytes_clean n m line e =
    let parts = both_none _ _ e in
    none_first _ _ (no_fault _ n m _ parts.0) (no_fault _ n m _ parts.1)

all_clean : (n m : ℕ) (lines : List (List ℕ)) → all_byte_faults n lines ≡ [] → all_byte_faults m lines ≡ []
all_clean n m [] e = refl
all_clean n m (line ∷ lines) e =
    let parts = both_none (byte_faults n line) (all_byte_faults (n + 1) lines) e in
    none_first (byte_faults m line) (all_byte_faults (m + 1) lines) (bytes_clean n m line parts.0) (all_clean (n + 1) (m + 1) lines parts.1)

pub line_clean : (n m : ℕ) (lines : List (List ℕ)) → faults n lines ≡ [] → faults m lines ≡ []
line_clean n m [] e = refl
line_clean n m (line ∷ lines) e =
    let size = both_none _ _ e in
    let bytes = both_none (byte_faults n line) _ size.1 in
    let quote = both_none _ (all_byte_faults (n + 1) lines) bytes.1 in
    none_first _ _ (no_fault _ n m _ size.0)
    (none_first (byte_faults m line) _ (bytes_clean n m line bytes.0)
    (none_first _ (all_byte_faults (m + 1) lines) (no_fault _ n m _ quote.0) (all_clean (n + 1) (m + 1) lines quote.1)))

pub lines_clean : (n m : ℕ) (groups : List (List (List ℕ))) → faults_from n groups ≡ [] → faults_from m groups ≡ []
lines_clean n m [] e = refl
lines_clean n m (group ∷ groups) e =
    let parts = both_none (faults n group) (faults_from (n + length group) groups) e in
    none_first (faults m group) (faults_from (m + length group) groups) (line_clean n m group parts.0) (lines_clean (n + length group) (m + length group) groups parts.1)

row_words : (n m : ℕ) (words : List (List ℕ)) → map (λ (l : Line). l.words) (row n words) ≡ map (λ (l : Line). l.words) (row m words)
row_words n m [] = refl
row_words n m (word ∷ words) = refl

pub same_words : (n m : ℕ) (groups : List (List (List ℕ))) → map (λ (l : Line). l.words) (rows_from n groups) ≡ map (λ (l : Line). l.words) (rows_from m groups)
same_words n m [] = refl
same_words n m (group ∷ groups) =
    let words = words_of (line_text group) in
    map-append (λ (l : Line). l.words) (row n words) (rows_from (n + length group) groups)
    ∙ (ap (λ (ws : List (List (List ℕ))). ws ++ map (λ (l : Line). l.words) (rows_from (n + length group) groups)) (row_words n m words)
    ∙ (ap (λ (ws : List (List (List ℕ))). map (λ (l : Line). l.words) (row m words) ++ ws) (same_words (n + length group) (m + length group) groups)
    ∙ sym (map-append (λ (l : Line). l.words) (row m words) (rows_from (m + length group) groups))))

-- a text that is read has no fault, and the rows of its logical lines
pub record AreRead (groups : List (List (List ℕ))) (rows : List Line) : Type 0 where
  pub clean : faults_from 1 groups ≡ []
  pub rows_are : rows_from 1 groups ≡ rows

pub are_read : (text : List ℕ) (rows : List Line) → reads text ≡ Ok rows → AreRead (raw_lines text) rows
are_read text rows e = by (faults_from 1 (raw_lines text)) refl e
  where
    by : (found : List (Fault LexCause)) → faults_from 1 (raw_lines text) ≡ found → unless (first_lex_fault found) (rows_from 1 (raw_lines text)) ≡ Ok rows → AreRead (raw_lines text) rows
    by [] is e = record { clean = is; rows_are = cc }
    by (fault ∷ found) is e = absurd (let f : ⊥ = cc in f)

pub reads_as : (text : List ℕ) (groups : List (List (List ℕ))) → raw_lines text ≡ groups → faults_from 1 groups ≡ [] → reads text ≡ Ok (rows_from 1 groups)
reads_as text groups cut clean =
    ap (λ (gs : List (List (List ℕ))). unless (first_lex_fault (faults_from 1 gs)) (rows_from 1 gs)) cut
    ∙ ap (λ (found : List (Fault LexCause)). unless (first_lex_fault found) (rows_from 1 groups)) clean

bytes_are : (groups : List (List (List ℕ))) → bytes_of groups ≡ concat (map concat groups)
bytes_are [] = refl
bytes_are (group ∷ groups) = ap (λ (bs : List ℕ). concat group ++ bs) (bytes_are groups)

pub text_bytes : (text : List ℕ) → bytes_of (raw_lines text) ≡ text
text_bytes text = bytes_are (raw_lines text) ∙ whole_by_pieces text

-- physical lines whose logical lines are these and others, are those of both
record Parted (continues : Bool) (lines : List (List ℕ)) (gs more : List (List (List ℕ))) : Type 0 where
  front : List (List ℕ)
  back : List (List ℕ)
  parts : lines ≡ front ++ back
  first : joined continues front ≡ gs
  rest : joined false back ≡ more

parted : (continues : Bool) (lines : List (List ℕ)) (g : List (List ℕ)) (gs more : List (List (List ℕ))) → joined continues lines ≡ g ∷ gs ++ more → Parted continues lines (g ∷ gs) more
parted continues [] g gs more e = absurd (let f : ⊥ = cc in f)
parted continues (line ∷ lines) g gs more e = by (goes_on continues line) refl e (λ c g gs. parted c lines g gs more)
  where
    Later : Type 0
    Later = (c : Bool) (g : List (List ℕ)) (gs : List (List (List ℕ))) → joined c lines ≡ g ∷ gs ++ more → Parted c lines (g ∷ gs) more

    behind : (gs : List (List (List ℕ))) → joined false lines ≡ gs ++ more → Later → Parted false lines gs more
    behind [] e later = record { front = []; back = lines; parts = refl; first = refl; rest = e }
    behind (g ∷ gs) e later = later false g gs e

    onto : (all : List (List (List ℕ))) → joined true lines ≡ all → goes_on continues line ≡ true → onto_group line all ≡ g ∷ gs ++ more → Later → Parted continues (line ∷ lines) (g ∷ gs) more
    onto [] is on e later =
        let none = both_none gs more (let rest : gs ++ more ≡ [] = cc in rest) in
        let one : line ∷ [] ≡ g = cc in
        let alone : (line ∷ []) ∷ [] ≡ g ∷ gs = ap (λ (x : List (List ℕ)). x ∷ []) one ∙ ap (λ (xs : List (List (List ℕ))). g ∷ xs) (sym none.0) in
        record { front = line ∷ lines; back = []; parts = sym (append-nil (line ∷ lines)); first = rw (on, is) alone; rest = sym none.1 }
    onto (next ∷ others) is on e later =
        let here : line ∷ next ≡ g = cc in
        let left : others ≡ gs ++ more = cc in
        let p = later true next gs (is ∙ ap (λ (xs : List (List (List ℕ))). next ∷ xs) left) in
        let first = p.first in
        record {
          front = line ∷ p.front;
          back = p.back;
          parts = ap (λ (ls : List (List ℕ)). line ∷ ls) p.parts;
          first = rw (on, first) (ap (λ (x : List (List ℕ)). x ∷ gs) here);
          rest = p.rest;
        }

    by : (t : Bool) → goes_on continues line ≡ t → (if t then onto_group line (joined true lines) else (line ∷ []) ∷ joined false lines) ≡ g ∷ gs ++ more → Later
        → Parted continues (line ∷ lines) (g ∷ gs) more
    by true on e later = onto (joined true lines) refl on e later
    by false on e later =
        let here : line ∷ [] ≡ g = cc in
        let p = behind gs (let left : joined false lines ≡ gs ++ more = cc in left) later in
        let first = p.first in
        record {
          front = line ∷ p.front;
          back = p.back;
          parts = ap (λ (ls : List (List ℕ)). line ∷ ls) p.parts;
          first = rw (on, first) (ap (λ (x : List (List ℕ)). x ∷ gs) here);
          rest = p.rest;
        }

-- a text of these logical lines and others: the bytes of the first, and a text of the others behind them
pub record IsCut (text : List ℕ) (gs more : List (List (List ℕ))) : Type 0 where
  pub behind : List ℕ
  pub parts : text ≡ bytes_of gs ++ behind
  pub first : raw_lines (bytes_of gs) ≡ gs
  pub rest : raw_lines behind ≡ more

pub cut_at : (text : List ℕ) (gs more : List (List (List ℕ))) → raw_lines text ≡ gs ++ more → IsCut text gs more
cut_at text [] more e = record { behind = text; parts = refl; first = refl; rest = e }
cut_at text (g ∷ gs) more e =
    let p = parted false (physical_lines text) g gs more e in
    let whole = subst Whole p.parts (Whole-physical text) in
    let first : raw_lines (concat p.front) ≡ g ∷ gs = ap (joined false) (lines-concat p.front (Whole-front p.front p.back whole)) ∙ p.first in
    let bytes : concat p.front ≡ bytes_of (g ∷ gs) = sym (text_bytes (concat p.front)) ∙ ap bytes_of first in
    record {
      behind = concat p.back;
      parts = sym (concat-lines text) ∙ (ap concat p.parts ∙ (concat-append p.front p.back ∙ ap (λ (bs : List ℕ). bs ++ concat p.back) bytes));
      first = subst (λ (bs : List ℕ). raw_lines bs ≡ g ∷ gs) bytes first;
      rest = ap (joined false) (lines-concat p.back (Whole-back p.front p.back whole)) ∙ p.rest;
    }
