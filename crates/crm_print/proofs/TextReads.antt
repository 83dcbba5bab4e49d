-- A text of lines of clean items is read as their words, line by line.
use Rattle.std.proofs.Common.{◌≡◌, ℕ, ◌+◌, nat_lt, nat_le, Bool, true, false, ◌==◌, ◌&&◌, Ok, List, [], ◌∷◌, ◌++◌, length, map, refl, sym, ap, subst, ◌∙◌, arith, append_assoc, append-nil}
use Rattle.std.proofs.lemmas.Str.{is_utf8-from_IsUtf8}
use Rattle.std.specs.List.{flat_map, list_any, list_all, AllByRecursion}
use Rattle.std.proofs.Math.Bool.{and-false}
use Rattle.std.proofs.lemmas.Bool.{and_parts, or_parts}
use Rattle.faults.specs.Reading.{unless}
use Rattle.crm_lex.specs.RawLines.{begins_comment, content, ends_in_backslash, joined, physical_lines, raw_lines}
use Rattle.crm_lex.specs.LogicalLines.{faults, is_control, line_text, with_joint}
use Rattle.crm_lex.specs.Reading.{faults_from, first_lex_fault, reads, row, rows_from}
use Rattle.crm_lex.specs.Words.{is_open, words_of}
use Rattle.crm_lex.specs.declared.line.Line.{Line}
use Rattle.crm_print.specs.PrintedAgain.{IsComment}
use Rattle.crm_print.specs.Quoting.{Item, items_line}
use Rattle.crm_print.specs.Inner.Quoting.{item_word}
use Rattle.crm_print.proofs.Clean.{Clean, EachClean}
use Rattle.crm_print.proofs.CleanTexts.{clean_line, line_begins, line_closes}
use Rattle.crm_print.proofs.Lines.{is_filled, line-closed, line-words}

-- a line that can be read: its items have parts, they are clean, and it isn't too long
pub record Readable (items : List Item) : Type 0 where
  pub first : Item
  pub others : List Item
  pub are : items ≡ first ∷ others
  pub filled : list_all is_filled (first ∷ others) ≡ true
  pub clean : EachClean (first ∷ others)
  pub short : nat_le (length (items_line (first ∷ others))) 1048576 ≡ true

-- a text that is one logical line without its line feed
record Line1 (text : List ℕ) : Type 0 where
  clean : Clean text
  begins : begins_comment text ≡ false
  closes : ends_in_backslash text ≡ false
  closed : is_open text ≡ false
  short : nat_le (length text) 1048576 ≡ true

line1 : (items : List Item) → Readable items → Line1 (items_line items)
line1 items r =
    subst (λ items. Line1 (items_line items)) (sym r.are) (
    record {
      clean = clean_line r.first r.others r.clean;
      begins = line_begins r.first r.others (and_parts (is_filled r.first) (list_all is_filled r.others) r.filled).0;
      closes = line_closes r.first r.others r.filled [];
      closed = line-closed r.first r.others;
      short = r.short;
    }
    )

no_feed : (b : ℕ) → is_control b ≡ false → ((b == 10) ≡ false) × ((b == 13) ≡ false)
no_feed b h = by (b == 10) (b == 13) refl refl
  where
    clash : {P : Type 0} → (b == 10) ≡ true → P
    clash e = let same : b ≡ 10 = grind arith in let c : is_control 10 ≡ false = subst (λ x. is_control x ≡ false) same h in cc

    clash13 : {P : Type 0} → (b == 13) ≡ true → P
    clash13 e = let same : b ≡ 13 = grind arith in let c : is_control 13 ≡ false = subst (λ x. is_control x ≡ false) same h in cc

    by : (s t : Bool) → (b == 10) ≡ s → (b == 13) ≡ t → (s ≡ false) × (t ≡ false)
    by true t e f = clash e
    by false true e f = clash13 f
    by false false e f = (refl, refl)

-- a physical line before some text
feed : (text rest : List ℕ) → list_any is_control text ≡ false → physical_lines (text ++ 10 ∷ rest) ≡ (text ++ 10 ∷ []) ∷ physical_lines rest
feed [] rest h = refl
feed (b ∷ bs) rest h =
    let n = or_parts (is_control b) (list_any is_control bs) h in
    let other = (no_feed b n.0).0 in
    let more = feed bs rest n.1 in
    rw (other, more) refl

content_is : (text : List ℕ) → list_any is_control text ≡ false → content (text ++ 10 ∷ []) ≡ text
content_is [] h = refl
content_is (b ∷ []) h =
    let n = or_parts (is_control b) false h in
    let other = (no_feed b n.0).1 in rw other refl
content_is (b ∷ d ∷ []) h =
    let n = or_parts (is_control b) (list_any is_control (d ∷ [])) h in
    ap (λ xs. b ∷ xs) (content_is (d ∷ []) n.1)
content_is (b ∷ d ∷ e ∷ es) h =
    let n = or_parts (is_control b) (list_any is_control (d ∷ e ∷ es)) h in
    ap (λ xs. b ∷ xs) (content_is (d ∷ e ∷ es) n.1)

unjoined : (text : List ℕ) → ends_in_backslash text ≡ false → with_joint [] text ≡ text
unjoined [] h = refl
unjoined (b ∷ []) h = rw h refl
unjoined (b ∷ d ∷ ds) h = ap (λ xs. b ∷ xs) (unjoined (d ∷ ds) h)

text_is : (text : List ℕ) → Line1 text → line_text ((text ++ 10 ∷ []) ∷ []) ≡ text
text_is text l =
    let same = content_is text l.clean.allowed in
    let begins = l.begins in
    let joint = unjoined text l.closes in
    rw (same, begins, joint) (append-nil text)

not_long : (most sum n : ℕ) → nat_le n most ≡ true → sum ≡ n → nat_lt most sum ≡ false
not_long most sum n h e = grind arith

-- the line has no fault
no_faults : (n : ℕ) (text : List ℕ) → Line1 text → faults n ((text ++ 10 ∷ []) ∷ []) ≡ []
no_faults n text l =
    let same = content_is text l.clean.allowed in
    let whole = text_is text l in
    let closed = l.closed in
    let utf8 = is_utf8-from_IsUtf8 text l.clean.utf8 in
    let allowed = l.clean.allowed in
    let short = not_long 1048576 (0 + length text) (length text) l.short (omega arith) in
    rw (whole, same, closed, utf8, allowed, short) refl

-- some lines with their line feeds
abbrev pub ended_lines : List (List Item) → List ℕ
ended_lines all = flat_map (λ items. items_line items ++ 10 ∷ []) all

-- the lines that are read, of which the first has this number
abbrev pub numbered : ℕ → List (List Item) → List Line
numbered n [] = []
numbered n (items ∷ more) = record { line = n; words = map item_word items } ∷ numbered (n + 1) more

-- the physical line of some items
abbrev lone : List Item → List (List ℕ)
lone items = (items_line items ++ 10 ∷ []) ∷ []

-- the physical lines of the text, each of which is a logical line, before some text
single_lines : (all : List (List Item)) (rest : List ℕ) → AllByRecursion Readable all
    → raw_lines (ended_lines all ++ rest) ≡ map lone all ++ raw_lines rest
single_lines [] rest h = refl
single_lines (items ∷ more) rest h =
    let l = line1 items h.0 in
    let later = single_lines more rest h.1 in
    let text = append_assoc (items_line items ++ 10 ∷ []) (ended_lines more) rest ∙ append_assoc (items_line items) (10 ∷ []) (ended_lines more ++ rest) in
    let fed = ap (joined false) (ap physical_lines text ∙ feed (items_line items) (ended_lines more ++ rest) l.clean.allowed) in
    let same = content_is (items_line items) l.clean.allowed in
    let closes = l.closes in
    fed ∙ rw (same, closes) (ap (λ groups. lone items ∷ groups) later)

no_faults_before : (n : ℕ) (all : List (List Item)) (groups : List (List (List ℕ))) → AllByRecursion Readable all
    → ((m : ℕ) → faults_from m groups ≡ []) → faults_from n (map lone all ++ groups) ≡ []
no_faults_before n [] groups h later = later n
no_faults_before n (items ∷ more) groups h later =
    let none = no_faults n (items_line items) (line1 items h.0) in
    let rest = no_faults_before (n + 1) more groups h.1 later in
    rw (none, rest) refl

row_of : (n : ℕ) (items : List Item) → Readable items → row n (words_of (items_line items)) ≡ record { line = n; words = map item_word items } ∷ []
row_of n items r =
    subst (λ items. row n (words_of (items_line items)) ≡ record { line = n; words = map item_word items } ∷ []) (sym r.are)
    (ap (row n) (line-words r.first r.others r.filled))

rows_before : (n : ℕ) (all : List (List Item)) (groups : List (List (List ℕ))) → AllByRecursion Readable all
    → ((m : ℕ) → rows_from m groups ≡ []) → rows_from n (map lone all ++ groups) ≡ numbered n all
rows_before n [] groups h later = later n
rows_before n (items ∷ more) groups h later =
    let whole = text_is (items_line items) (line1 items h.0) in
    let one = row_of n items h.0 in
    let rest = rows_before (n + 1) more groups h.1 later in
    rw (whole, one, rest) refl

-- a text of such lines is read as their words, where nothing is read of what stands behind them
text-reads-before : (all : List (List Item)) (rest : List ℕ) → AllByRecursion Readable all → ((m : ℕ) → faults_from m (raw_lines rest) ≡ [])
    → ((m : ℕ) → rows_from m (raw_lines rest) ≡ []) → reads (ended_lines all ++ rest) ≡ Ok (numbered 1 all)
text-reads-before all rest h clean empty =
    let groups = map lone all ++ raw_lines rest in
    ap (λ groups. unless (first_lex_fault (faults_from 1 groups)) (rows_from 1 groups)) (single_lines all rest h)
    ∙ (ap (λ faults. unless (first_lex_fault faults) (rows_from 1 groups)) (no_faults_before 1 all (raw_lines rest) h clean)
    ∙ ap Ok (rows_before 1 all (raw_lines rest) h empty))

-- a text of such lines alone
pub text-reads : (all : List (List Item)) → AllByRecursion Readable all → reads (ended_lines all) ≡ Ok (numbered 1 all)
text-reads all h = ap reads (sym (append-nil (ended_lines all))) ∙ text-reads-before all [] h (λ m. refl) (λ m. refl)

-- and before a comment
comment-lines : (text : List ℕ) → IsComment text → raw_lines (text ++ 10 ∷ []) ≡ ((text ++ 10 ∷ []) ∷ []) ∷ []
comment-lines text c =
    let same = content_is text c.allowed in
    let begins = c.begins in
    let closes : (ends_in_backslash text && false) ≡ false = and-false (ends_in_backslash text) in
    ap (joined false) (feed text [] c.allowed) ∙ rw (same, begins, closes) refl

comment-clean : (text : List ℕ) → IsComment text → (m : ℕ) → faults_from m (raw_lines (text ++ 10 ∷ [])) ≡ []
comment-clean text c m =
    let same = content_is text c.allowed in
    let begins = c.begins in
    let utf8 = c.utf8 in
    let allowed = c.allowed in
    let short = not_long 1048576 (0 + length text) (length text) c.short (omega arith) in
    ap (faults_from m) (comment-lines text c) ∙ rw (same, begins, utf8, allowed, short) refl

comment-empty : (text : List ℕ) → IsComment text → (m : ℕ) → rows_from m (raw_lines (text ++ 10 ∷ [])) ≡ []
comment-empty text c m =
    let same = content_is text c.allowed in
    let begins = c.begins in
    ap (rows_from m) (comment-lines text c) ∙ rw (same, begins) refl

pub text-reads-before-comment : (all : List (List Item)) (text : List ℕ) → AllByRecursion Readable all → IsComment text
    → reads (ended_lines all ++ (text ++ 10 ∷ [])) ≡ Ok (numbered 1 all)
text-reads-before-comment all text h c = text-reads-before all (text ++ 10 ∷ []) h (comment-clean text c) (comment-empty text c)
