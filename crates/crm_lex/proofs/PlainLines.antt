-- Lines that are read as they stand.
use Rattle.std.proofs.Common.{◌≡◌, ℕ, ◌<◌, ◌≤◌, nat_lt, nat_le, ◌==◌, ◌&&◌, not, Bool, true, false, if◌then◌else◌, Some, None, Result, Ok, Err, IfOk, IfErr, List, [], ◌∷◌, ◌++◌, length, refl, sym, ap, ◌∙◌, append-nil, arith}
use Rattle.std.proofs.lemmas.Bool.Decides.{nat_tests}
use Rattle.std.specs.List.{list_any, concat}
use Rattle.std.proofs.lemmas.Bool.{or_parts}
use Rattle.faults.specs.Reading.{unless, Gives}
use Rattle.crm_lex.specs.RawLines.{physical_lines, content, begins_comment, ends_in_backslash}
use Rattle.crm_lex.specs.Words.{is_quote, place_behind, is_open, words_of}
use Rattle.crm_lex.specs.LogicalLines.{with_joint, line_text, content_length, byte_faults, faults}
use Rattle.crm_lex.specs.Inner.Parts.{is_quote_or_backslash, is_plain_text, is_plain_line}
use Rattle.crm_lex.specs.Reading.{first_lex_fault, reads_line}
use Rattle.faults.specs.declared.fault.Fault.{Fault}
use Rattle.crm_lex.specs.declared.fault.LexCause.{LexCause}
use Rattle.faults.specs.declared.fault.Fault.TheVariants.{At, NoMemory}
use Rattle.crm_lex.specs.declared.quoting.Place.TheVariants.{Outside}
use Rattle.crm_lex.proofs.PhysicalLines.{some_lines, concat-lines}
use Rattle.crm_lex.proofs.Joints.{with_joint-none}

abbrev Bare : List ℕ → Type 0
Bare text = list_any is_quote_or_backslash text ≡ false

-- no quote opens
closed : (text : List ℕ) → Bare text → place_behind Outside text ≡ Outside
closed [] e = refl
closed (b ∷ bs) e =
    let first = or_parts (is_quote_or_backslash b) (list_any is_quote_or_backslash bs) e in
    let mark = or_parts (is_quote b) (b == 92) first.0 in
    let quote = or_parts (b == 34) (b == 39) mark.0 in
    rw (quote.0, quote.1) (closed bs first.1)

unjoined : (text : List ℕ) → Bare text → ends_in_backslash text ≡ false
unjoined [] e = refl
unjoined (b ∷ []) e = (or_parts (is_quote b) (b == 92) (or_parts (is_quote_or_backslash b) false e).0).1
unjoined (b ∷ c ∷ cs) e = unjoined (c ∷ cs) (or_parts (is_quote_or_backslash b) (list_any is_quote_or_backslash (c ∷ cs)) e).1

-- the two tests of a plain text
both : (p q : Bool) → (p && not q) ≡ true → (p ≡ true) × (q ≡ false)
both true true e = cc
both true false e = (refl, refl)
both false q e = cc

module _ (line : List ℕ) (plain : is_plain_text (content line) ≡ true) where
  bare : Bare (content line)
  bare = (both (nat_le (length (content line)) 1048576) (list_any is_quote_or_backslash (content line)) plain).1

  short : nat_lt 1048576 (content_length (line ∷ [])) ≡ false
  short = let low = (both (nat_le (length (content line)) 1048576) (list_any is_quote_or_backslash (content line)) plain).0 in grind (arith, nat_tests)

  text : line_text (line ∷ []) ≡ (if begins_comment (content line) then [] else content line)
  text = split (begins_comment (content line))
    where
      split : (t : Bool) → (if t then [] else with_joint [] (content line) ++ []) ≡ (if t then [] else content line)
      split true = refl
      split false = append-nil (with_joint [] (content line)) ∙ with_joint-none [] (content line) (unjoined (content line) bare)

  open_nowhere : is_open (line_text (line ∷ [])) ≡ false
  open_nowhere = ap is_open text ∙ split (begins_comment (content line))
    where
      split : (t : Bool) → is_open (if t then [] else content line) ≡ false
      split true = refl
      split false = rw (closed (content line) bare) refl

  fault : (n : ℕ) → first_lex_fault (faults n (line ∷ [])) ≡ first_lex_fault (byte_faults n line)
  fault n = rw (short, open_nowhere, append-nil (byte_faults n line)) refl

-- a plain line is one physical line, and its content is its text where it is no comment
abbrev pub plain_text : List ℕ → List ℕ
plain_text raw = if begins_comment (content raw) then [] else content raw

one_line : (lines : List (List ℕ)) (raw : List ℕ) → concat lines ≡ raw → is_plain_line lines ≡ true → (lines ≡ raw ∷ []) × (is_plain_text (content raw) ≡ true)
one_line [] raw e plain = cc
one_line (line ∷ []) raw e plain = let same : line ≡ raw = sym (append-nil line) ∙ e in rw (← same) (refl, plain)
one_line (line ∷ next ∷ more) raw e plain = cc

pub reads-plain : (n : ℕ) (raw : List ℕ) → is_plain_line (physical_lines raw) ≡ true → reads_line n raw ≡ unless (first_lex_fault (byte_faults n raw)) (words_of (plain_text raw))
reads-plain n raw plain =
    let one = one_line (physical_lines raw) raw (concat-lines raw) plain in
    rw (one.0, fault raw one.1 n, text raw one.1) refl

-- what is answered of a plain line
module _ (n : ℕ) (raw : List ℕ) (plain : is_plain_line (physical_lines raw) ≡ true) where
  pub plain_fault : (fault : Fault LexCause) → Some fault ≡ first_lex_fault (byte_faults n raw) → Gives (λ (words : List (List ℕ)). words) (Err fault) (reads_line n raw)
  plain_fault NoMemory e = tt
  plain_fault (At m cause) e = reads-plain n raw plain ∙ rw (← e) refl

  pub plain_comment : None ≡ first_lex_fault (byte_faults n raw) → begins_comment (content raw) ≡ true → reads_line n raw ≡ Ok []
  plain_comment clean comment = reads-plain n raw plain ∙ rw (← clean, comment) refl

  pub plain_words : (result : Result (List (List ℕ)) (Fault LexCause)) → None ≡ first_lex_fault (byte_faults n raw) → begins_comment (content raw) ≡ false
      → IfOk result (λ words. words ≡ words_of (content raw)) → IfErr result (λ fault. fault ≡ NoMemory) → Gives (λ (words : List (List ℕ)). words) result (reads_line n raw)
  plain_words (Ok words) clean comment read memory = reads-plain n raw plain ∙ rw (← clean, comment, read) refl
  plain_words (Err NoMemory) clean comment read memory = tt
  plain_words (Err (At m cause)) clean comment read memory = cc

pub short-plain : (raw : List ℕ) → is_plain_line (physical_lines raw) ≡ true → length (content raw) ≤ 1048576
short-plain raw plain =
    let one = one_line (physical_lines raw) raw (concat-lines raw) plain in
    let low = (both (nat_le (length (content raw)) 1048576) (list_any is_quote_or_backslash (content raw)) one.1).0 in
    grind (arith, nat_tests)

-- with a second line it isn't plain
pub two_lines : (line : List ℕ) (after : List ℕ) → 0 < length after → is_plain_line (line ∷ physical_lines after) ≡ false
two_lines line after some = split (physical_lines after) (some_lines after some)
  where
    split : (lines : List (List ℕ)) → 0 < length lines → is_plain_line (line ∷ lines) ≡ false
    split [] some = absurd (omega arith)
    split (next ∷ more) some = refl
