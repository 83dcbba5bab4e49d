-- Bytes that begin with a lowercase letter, and whose first physical line isn't joined to the next, begin with a whole logical line that has words.
use Rattle.std.proofs.Common.{◌≡◌, ◌≢◌, ℕ, ◌<◌, ◌≤◌, ◌==◌, ◌&&◌, ◌||◌, not, Bool, true, false, if◌then◌else◌, Option, List, [], ◌∷◌, ◌++◌, map, filter, refl, ap, sym, subst, ◌∙◌, arith}
use Rattle.std.specs.List.{list_any, slice_split, onto_first as onto_part}
use Rattle.std.proofs.lemmas.List.Splits.{slice_split-cons_no}
use Rattle.std.proofs.Math.Bool.{or-true}
use Rattle.std.proofs.lemmas.Bool.{cond-true, cond-false, eqb-true, ne_eqb, or_parts}
use Rattle.std.proofs.lemmas.List.Folds.{list_any-append}
use Rattle.cluster_io.specs.NextLine.{first_line, first_line_of, has_feed, holds_line, is_whole}
use Rattle.crm_lex.specs.LogicalLines.{joined_text, line_text, with_joint}
use Rattle.crm_lex.specs.RawLines.{begins_comment, content, ends_in, goes_on, is_blank, is_line_end, joined, onto_first, onto_group, physical_lines}
use Rattle.crm_lex.specs.Words.{first_byte, has_pieces, is_gap, is_quote, letters, mark_if, piece_at, pieces, place_after, spelled, words_of}
use Rattle.crm_lex.specs.declared.quoting.Piece.{Piece}
use Rattle.crm_lex.specs.declared.quoting.Piece.TheVariants.{Gap, Letter}
use Rattle.crm_lex.specs.declared.quoting.Place.TheVariants.{Outside}
use Rattle.live_run.specs.AnswersAtHand.{HoldsResultLine}
use Rattle.live_run.specs.Inner.PlainLines.{is_closed_line}

-- no byte of these is a backslash
abbrev HasNoBackslash : List ℕ → Type 0
HasNoBackslash text = list_any (λ b. b == 92) text ≡ false

-- the first physical line, up to its line feed
record FirstLine (text : List ℕ) : Type 0 where
  pub line : List ℕ
  pub more : List (List ℕ)
  pub is : physical_lines text ≡ (line ++ 10 ∷ []) ∷ more
  pub plain : HasNoBackslash line

no_backslash : (b : ℕ) (line : List ℕ) → (b == 92) ≡ false → HasNoBackslash line → HasNoBackslash (b ∷ line)
no_backslash b line e h = ap (λ (t : Bool). t || list_any (λ b. b == 92) line) e ∙ h

module _ (b : ℕ) (bs : List ℕ) (unfed : (b == 10) ≡ false) where
  longer_first : (b == 92) ≡ false → (f : FirstLine bs) → physical_lines (b ∷ bs) ≡ ((b ∷ f.line) ++ 10 ∷ []) ∷ f.more
  longer_first plain f =
      cond-false (b == 10) ((b ∷ []) ∷ physical_lines bs) (onto_first b (physical_lines bs)) unfed ∙ ap (onto_first b) f.is

  longer_line : (b == 92) ≡ false → FirstLine bs → FirstLine (b ∷ bs)
  longer_line plain f = record { line = b ∷ f.line; more = f.more; is = longer_first plain f; plain = no_backslash b f.line plain f.plain }

closed_first : (text : List ℕ) → is_closed_line text ≡ true → FirstLine text
closed_first [] h = cc
closed_first (b ∷ bs) h = by (b == 10) refl (b == 92) refl (closed_first bs)
  where
    at_feed : (b == 10) ≡ true → b ≡ 10
    at_feed e = eqb-true b 10 e

    by : (feed : Bool) → (b == 10) ≡ feed → (slash : Bool) → (b == 92) ≡ slash → (is_closed_line bs ≡ true → FirstLine bs) → FirstLine (b ∷ bs)
    by true e slash d on = record {
      line = [];
      more = physical_lines bs;
      is = cond-true (b == 10) ((b ∷ []) ∷ physical_lines bs) (onto_first b (physical_lines bs)) e ∙ ap (λ (n : ℕ). (n ∷ []) ∷ physical_lines bs) (at_feed e);
      plain = refl;
    }
    by false e true d on =
        let wrong : is_closed_line (b ∷ bs) ≡ false = cond-false (b == 10) true (if b == 92 then false else is_closed_line bs) e ∙ cond-true (b == 92) false (is_closed_line bs) d in
        let f : ⊥ = cc in absurd f
    by false e false d on =
        longer_line b bs e d (on (sym (cond-false (b == 10) true (if b == 92 then false else is_closed_line bs) e ∙ cond-false (b == 92) false (is_closed_line bs) d) ∙ h))

-- a line without backslashes isn't joined to the next
no_backslash_inside : (xs : List ℕ) → HasNoBackslash xs → HasNoBackslash (content xs)
no_backslash_inside [] h = refl
no_backslash_inside (b ∷ bs) h =
    let parts = or_parts (b == 92) (list_any (λ b. b == 92) bs) h in
    by (is_line_end (b ∷ bs)) refl parts.0 (no_backslash_inside bs parts.1)
  where
    by : (t : Bool) → is_line_end (b ∷ bs) ≡ t → (b == 92) ≡ false → HasNoBackslash (content bs) → HasNoBackslash (if is_line_end (b ∷ bs) then [] else b ∷ content bs)
    by true e here more = ap (list_any (λ b. b == 92)) (cond-true (is_line_end (b ∷ bs)) [] (b ∷ content bs) e)
    by false e here more =
        ap (list_any (λ b. b == 92)) (cond-false (is_line_end (b ∷ bs)) [] (b ∷ content bs) e) ∙ no_backslash b (content bs) here more

no_backslash_fed : (line : List ℕ) → HasNoBackslash line → HasNoBackslash (line ++ 10 ∷ [])
no_backslash_fed line h = list_any-append (λ b. b == 92) line (10 ∷ []) ∙ ap (λ (t : Bool). t || false) h

ends_otherwise : (text : List ℕ) → HasNoBackslash text → ends_in 92 text ≡ false
ends_otherwise [] h = refl
ends_otherwise (b ∷ []) h = (or_parts (b == 92) false h).0
ends_otherwise (b ∷ c ∷ cs) h = ends_otherwise (c ∷ cs) (or_parts (b == 92) (list_any (λ b. b == 92) (c ∷ cs)) h).1

stands_alone : (line : List ℕ) → HasNoBackslash line → goes_on false line ≡ false
stands_alone line h =
    ap (λ (t : Bool). t && (false || not (begins_comment (content line)))) (ends_otherwise (content line) (no_backslash_inside line h))

is_fed : (line : List ℕ) → has_feed (line ++ 10 ∷ []) ≡ true
is_fed [] = refl
is_fed (b ∷ bs) = ap (λ (t : Bool). (b == 10) || t) (is_fed bs) ∙ or-true (b == 10)

-- the first physical line is the first logical line, and it is whole
module _ (text : List ℕ) (f : FirstLine text) where
  abbrev fed : List ℕ
  fed = f.line ++ 10 ∷ []

  alone : goes_on false fed ≡ false
  alone = stands_alone fed (no_backslash_fed f.line f.plain)

  holds_first : holds_line text ≡ true
  holds_first =
      ap (is_whole false) f.is ∙ (cond-false (goes_on false fed) (is_whole true f.more) (has_feed fed) alone ∙ is_fed f.line)

  first_is : first_line text ≡ fed ∷ []
  first_is =
      ap (λ (ls : List (List ℕ)). first_line_of (joined false ls)) f.is
      ∙ ap first_line_of (cond-false (goes_on false fed) (onto_group fed (joined true f.more)) ((fed ∷ []) ∷ joined false f.more) alone)

-- of a lowercase letter
record IsLetter (b : ℕ) : Type 0 where
  pub feed : (b == 10) ≡ false
  pub return : (b == 13) ≡ false
  pub hash : (b == 35) ≡ false
  pub blank : is_blank b ≡ false
  pub quote : is_quote b ≡ false
  pub slash : (b == 92) ≡ false

or_false : (p q : Bool) → p ≡ false → q ≡ false → (p || q) ≡ false
or_false p q h k = ap (λ (t : Bool). t || q) h ∙ k

letter : (b : ℕ) → 97 ≤ b → b ≤ 122 → IsLetter b
letter b low high = record {
  feed = differs 10 (omega (arith, low));
  return = differs 13 (omega (arith, low));
  hash = differs 35 (omega (arith, low));
  blank = or_false (b == 9) (b == 32) (differs 9 (omega (arith, low))) (differs 32 (omega (arith, low)));
  quote = or_false (b == 34) (b == 39) (differs 34 (omega (arith, low))) (differs 39 (omega (arith, low)));
  slash = differs 92 (omega (arith, low));
}
  where
    differs : (n : ℕ) → n < b → (b == n) ≡ false
    differs n below = ne_eqb b n (λ (same : b ≡ n). (let f : ⊥ = omega (arith, same, below) in f))

module _ (b : ℕ) (is : IsLetter b) where
  no_end : (xs : List ℕ) → is_line_end (b ∷ xs) ≡ false
  no_end [] = is.feed
  no_end (d ∷ []) = ap (λ (t : Bool). t && (d == 10)) is.return
  no_end (d ∷ e ∷ es) = refl

  keeps_letter : (xs : List ℕ) → content (b ∷ xs) ≡ b ∷ content xs
  keeps_letter xs = cond-false (is_line_end (b ∷ xs)) [] (b ∷ content xs) (no_end xs)

  no_comment : (xs : List ℕ) → begins_comment (b ∷ xs) ≡ false
  no_comment xs = or_false (b == 35) (is_blank b && begins_comment xs) is.hash (ap (λ (t : Bool). t && begins_comment xs) is.blank)

  -- the text of a line begins with the byte that the line begins with
  record BeginsSo (text : List ℕ) : Type 0 where
    pub rest : List ℕ
    pub begins : text ≡ b ∷ rest

  joined_so : (xs : List ℕ) → BeginsSo (with_joint [] (b ∷ xs) ++ [])
  joined_so [] = record { rest = []; begins = ap (λ (t : List ℕ). t ++ []) (cond-false (b == 92) [] (b ∷ []) is.slash) }
  joined_so (c ∷ cs) = record { rest = with_joint [] (c ∷ cs) ++ []; begins = refl }

  text_begins : (xs : List ℕ) → BeginsSo (line_text ((b ∷ xs) ∷ []))
  text_begins xs =
      let j = joined_so (content xs) in
      record {
        rest = j.rest;
        begins = cond-false (begins_comment (content (b ∷ xs))) [] (joined_text ((b ∷ xs) ∷ []))
            (ap begins_comment (keeps_letter xs) ∙ no_comment (content xs))
            ∙ (ap (λ (t : List ℕ). with_joint [] t ++ []) (keeps_letter xs) ∙ j.begins);
      }

  piece_is : (next : Option ℕ) → piece_at Outside b next ≡ Letter b
  piece_is next = cond-false (is_blank b) Gap (mark_if (is_quote b) b) is.blank ∙ ap (λ (t : Bool). mark_if t b) is.quote

some_first : (p : Piece) (ys : List (List Piece)) → map letters (filter has_pieces (onto_part p ys)) ≡ [] → ⊥
some_first p [] e = cc
some_first p (y ∷ ys) e = cc

letter_spelled : (b : ℕ) (ps : List Piece) → spelled (Letter b ∷ ps) ≢ []
letter_spelled b ps e =
    some_first (Letter b) (slice_split is_gap ps) (sym (ap (λ (ys : List (List Piece)). map letters (filter has_pieces ys)) (slice_split-cons_no is_gap (Letter b) ps refl)) ∙ e)

-- so a text that begins with a letter has words
letter_words : (b : ℕ) → IsLetter b → (rest : List ℕ) → words_of (b ∷ rest) ≢ []
letter_words b is rest e =
    letter_spelled b (pieces (place_after Outside b (first_byte rest)) rest)
    (sym (ap (λ (p : Piece). spelled (p ∷ pieces (place_after Outside b (first_byte rest)) rest)) (piece_is b is (first_byte rest))) ∙ e)

begins_line : (b : ℕ) (bs : List ℕ) → IsLetter b → is_closed_line bs ≡ true → HoldsResultLine (b ∷ bs)
unfolding longer_line
begins_line b bs is h =
    let inner = closed_first bs h in
    let f = longer_line b bs is.feed is.slash inner in
    let begins = text_begins b is (inner.line ++ 10 ∷ []) in
    record {
      whole = holds_first (b ∷ bs) f;
      has_words = λ e.
          letter_words b is begins.rest
          (sym (ap words_of (ap line_text (first_is (b ∷ bs) f) ∙ begins.begins)) ∙ e);
    }

pub begins_result : (text : List ℕ) (b : ℕ) (bs : List ℕ) → text ≡ b ∷ bs → 97 ≤ b → b ≤ 122 → is_closed_line bs ≡ true → HoldsResultLine text
begins_result text b bs is low high h = subst HoldsResultLine (sym is) (begins_line b bs (letter b low high) h)
