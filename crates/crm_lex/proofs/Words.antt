-- The words of a text, byte by byte.
use Rattle.std.proofs.Common.{◌≡◌, ℕ, ◌+◌, ◌-◌, ◌<◌, ◌≤◌, ◌==◌, ◌||◌, Bool, true, false, Option, List, [], ◌∷◌, ◌++◌, length, map, filter, get_or, drop, slice_range, inl, inr, refl, sym, ap, ◌∙◌, append_assoc, append-nil, arith}
use Rattle.std.proofs.lemmas.List.{at_drop_more, take_more, get_or-drop, length-drop, drop_all}
use Rattle.std.specs.List.{slice_split, onto_first}
use Rattle.std.proofs.lemmas.Bool.{or_parts, cases_lt, true≢false, false≢true, true_from_ne_false}
use Rattle.crm_lex.specs.RawLines.{is_blank}
use Rattle.crm_lex.specs.Words.{first_byte, is_quote, escapes, mark_if, piece_at, place_after, pieces, is_gap, has_pieces, letters, words_of}
use Rattle.crm_lex.specs.Inner.Parts.{first_letters, later_words, word_on, words_behind, ends_plain, ends_word, PlainBetween}
use Rattle.crm_lex.specs.declared.quoting.Place.{Place}
use Rattle.crm_lex.specs.declared.quoting.Place.TheVariants.{Outside, Double, Escaped, Single}
use Rattle.crm_lex.specs.declared.quoting.Piece.{Piece}
use Rattle.crm_lex.specs.declared.quoting.Piece.TheVariants.{Gap, Mark, Letter}

letters-cons : (p : Piece) (ps : List Piece) → letters (p ∷ ps) ≡ letters (p ∷ []) ++ letters ps
letters-cons Gap ps = refl
letters-cons Mark ps = refl
letters-cons (Letter b) ps = refl

first_letters-onto : (p : Piece) (parts : List (List Piece)) → first_letters (onto_first p parts) ≡ letters (p ∷ []) ++ first_letters parts
first_letters-onto p [] = sym (append-nil (letters (p ∷ [])))
first_letters-onto p (part ∷ parts) = letters-cons p part

later_words-onto : (p : Piece) (parts : List (List Piece)) → later_words (onto_first p parts) ≡ later_words parts
later_words-onto p [] = refl
later_words-onto p (part ∷ parts) = refl

-- the piece of the first byte, and the place behind it
abbrev pub first_piece : Place → ℕ → List ℕ → Piece
first_piece place b bs = piece_at place b (first_byte bs)

abbrev pub next_place : Place → ℕ → List ℕ → Place
next_place place b bs = place_after place b (first_byte bs)

-- a word goes on with the first byte
word_on-cons : (place : Place) (b : ℕ) (bs : List ℕ) → is_gap (first_piece place b bs) ≡ false
    → word_on place (b ∷ bs) ≡ letters (first_piece place b bs ∷ []) ++ word_on (next_place place b bs) bs
word_on-cons place b bs h = rw h (first_letters-onto (first_piece place b bs) (slice_split is_gap (pieces (next_place place b bs) bs)))

words_behind-cons : (place : Place) (b : ℕ) (bs : List ℕ) → is_gap (first_piece place b bs) ≡ false → words_behind place (b ∷ bs) ≡ words_behind (next_place place b bs) bs
words_behind-cons place b bs h = rw h (later_words-onto (first_piece place b bs) (slice_split is_gap (pieces (next_place place b bs) bs)))

-- the byte at a place of a text, which is no gap: a word goes on with it
pub record Goes (place after : Place) (piece : Piece) (text : List ℕ) (at : ℕ) : Type 0 where
  pub letters_on : word_on place (drop at text) ≡ letters (piece ∷ []) ++ word_on after (drop (at + 1) text)
  pub behind : words_behind place (drop at text) ≡ words_behind after (drop (at + 1) text)

pub word_more : (place after : Place) (piece : Piece) (next : Option ℕ) (text : List ℕ) (at : ℕ) → at < length text
    → next ≡ first_byte (drop (at + 1) text) → piece ≡ piece_at place (get_or text at 0) next → after ≡ place_after place (get_or text at 0) next
    → false ≡ is_gap piece → Goes place after piece text at
word_more place after piece next text at within n p a g =
    let b = get_or text at 0 in
    let rest = drop (at + 1) text in
    let gap : is_gap (first_piece place b rest) ≡ false = cc in
    let same_piece : first_piece place b rest ≡ piece = cc in
    let same_place : next_place place b rest ≡ after = cc in
    record {
      letters_on = at_drop_more (word_on place) text at 0 within ∙ (word_on-cons place b rest gap ∙ rw (same_piece, same_place) refl);
      behind = at_drop_more (words_behind place) text at 0 within ∙ (words_behind-cons place b rest gap ∙ rw same_place refl);
    }

pub plain_here : (text : List ℕ) (from : ℕ) → PlainBetween text from from
plain_here text from = let none : from - from ≡ 0 = omega arith in record { letters = rw none refl; behind = refl }

plain_word : (text : List ℕ) (at : ℕ) → at < length text → ends_plain (get_or text at 0) ≡ false → Goes Outside Outside (Letter (get_or text at 0)) text at
plain_word text at within e =
    let b = get_or text at 0 in
    let no_blank = or_parts (is_blank b) (is_quote b) e in
    let no_quote = or_parts (b == 34) (b == 39) no_blank.1 in
    word_more Outside Outside (Letter b) (first_byte (drop (at + 1) text)) text at within refl (rw (no_blank.0, no_quote.0, no_quote.1) refl) (rw (no_quote.0, no_quote.1) refl) refl

pub plain_more : (text : List ℕ) (from at : ℕ) → from ≤ at → at < length text → ends_plain (get_or text at 0) ≡ false → PlainBetween text from at → PlainBetween text from (at + 1)
plain_more text from at low within e plain =
    let b = get_or text at 0 in
    let goes = plain_word text at within e in
    let rest = word_on Outside (drop (at + 1) text) in
    let size : at + 1 - from ≡ at - from + 1 = omega arith in
    let place : from + (at - from) ≡ at = omega arith in
    let last : get_or (drop from text) (at - from) 0 ≡ b = get_or-drop from text (at - from) 0 ∙ rw place refl in
    let more : slice_range text from (at + 1) ≡ slice_range text from at ++ b ∷ [] =
    rw size (take_more (drop from text) (at - from) 0 (omega (arith, length-drop from text)) ∙ rw last refl) in
    record {
      letters = plain.letters ∙ (ap (λ xs. slice_range text from at ++ xs) goes.letters_on ∙ (sym (append_assoc (slice_range text from at) (b ∷ []) rest) ∙ ap (λ xs. xs ++ rest) (sym more)));
      behind = plain.behind ∙ goes.behind;
    }

-- a text that begins with no blank, and one before which a word ends
words_first : (p : Piece) (parts : List (List Piece)) → map letters (filter has_pieces (onto_first p parts)) ≡ first_letters (onto_first p parts) ∷ later_words (onto_first p parts)
words_first p [] = refl
words_first p (part ∷ parts) = refl

words_begin : (text : List ℕ) → 0 < length text → is_blank (get_or text 0 0) ≡ false → words_of text ≡ word_on Outside text ∷ words_behind Outside text
words_begin [] some e = absurd (omega arith)
words_begin (b ∷ bs) some e = split (is_quote b) refl (slice_split is_gap (pieces (place_after Outside b (first_byte bs)) bs)) refl
  where
    split : (t : Bool) → is_quote b ≡ t → (rest : List (List Piece)) → rest ≡ slice_split is_gap (pieces (place_after Outside b (first_byte bs)) bs)
        → words_of (b ∷ bs) ≡ word_on Outside (b ∷ bs) ∷ words_behind Outside (b ∷ bs)
    split true q rest is = rw (e, q, ← is) (words_first Mark rest)
    split false q rest is = rw (e, q, ← is) (words_first (Letter b) rest)

word_ends : (text : List ℕ) → ends_word (first_byte text) ≡ true → (word_on Outside text ≡ []) × (words_behind Outside text ≡ words_of text)
word_ends [] e = (refl, refl)
word_ends (b ∷ bs) e = rw e (refl, refl)

-- a text from a place on, where it begins with no blank
words_from : (text : List ℕ) (from : ℕ) → from < length text → is_blank (get_or text from 0) ≡ false → words_of (drop from text) ≡ word_on Outside (drop from text) ∷ words_behind Outside (drop from text)
words_from text from within begins =
    let place : from + 0 ≡ from = omega arith in
    let first : is_blank (get_or (drop from text) 0 0) ≡ false = ap is_blank (get_or-drop from text 0 0) ∙ (rw place begins) in
    words_begin (drop from text) (omega (arith, length-drop from text)) first

-- a word of bytes that stand for themselves, and the words behind it
pub plain_first : (text : List ℕ) (from to : ℕ) → from < length text → is_blank (get_or text from 0) ≡ false → ends_word (first_byte (drop to text)) ≡ true → PlainBetween text from to
    → words_of (drop from text) ≡ slice_range text from to ∷ words_of (drop to text)
plain_first text from to within begins ends plain =
    let here = word_ends (drop to text) ends in
    let word : word_on Outside (drop from text) ≡ slice_range text from to = plain.letters ∙ (rw here.0 (append-nil (slice_range text from to))) in
    words_from text from within begins ∙ rw (word, plain.behind, here.1) refl

mark_no_gap : (mark : Bool) (b : ℕ) → is_gap (mark_if mark b) ≡ false
mark_no_gap true b = refl
mark_no_gap false b = refl

-- a gap is a blank outside quotes
gap_outside : (place : Place) (b : ℕ) (next : Option ℕ) → is_gap (piece_at place b next) ≡ true → (place ≡ Outside) × (is_blank b ≡ true)
gap_outside Outside b next g = (refl, true_from_ne_false (is_blank b) (λ e. true≢false (sym g ∙ rw e (mark_no_gap (is_quote b) b))))
gap_outside Double b next g = absurd (true≢false (sym g ∙ mark_no_gap (b == 34 || escapes b next) b))
gap_outside Escaped b next g = absurd (false≢true g)
gap_outside Single b next g = absurd (true≢false (sym g ∙ mark_no_gap (b == 39) b))

before_blank : (text : List ℕ) (from at : ℕ) → from ≤ at → is_blank (get_or text from 0) ≡ false → is_blank (get_or text at 0) ≡ true → from < at
before_blank text from at low begins blank = elim (cases_lt from at) [
  | inl less ↦ less
  | inr more ↦ let same : at ≡ from = omega arith in absurd (true≢false (sym blank ∙ rw same begins))
]

-- the word that begins at the one place is over at the other, and this is the place there
pub record Over (place : Place) (text : List ℕ) (from at : ℕ) : Type 0 where
  pub low : from < at
  pub letters : word_on place (drop at text) ≡ []
  pub words : words_of (drop from text) ≡ word_on Outside (drop from text) ∷ words_of (drop at text)

pub over_at_gap : (place : Place) (piece : Piece) (next : Option ℕ) (text : List ℕ) (from at : ℕ) → from ≤ at → at < length text → is_blank (get_or text from 0) ≡ false
    → piece ≡ piece_at place (get_or text at 0) next → true ≡ is_gap piece → words_behind Outside (drop from text) ≡ words_behind place (drop at text) → Over place text from at
over_at_gap place piece next text from at low within begins p g behind =
    let gap = gap_outside place (get_or text at 0) next (ap is_gap (sym p) ∙ sym g) in
    let here = word_ends (drop at text) (at_drop_more (λ (xs : List ℕ). ends_word (first_byte xs)) text at 0 within ∙ gap.1) in
    let others : words_behind place (drop at text) ≡ words_of (drop at text) = rw gap.0 here.1 in
    record {
      low = before_blank text from at low begins gap.1;
      letters = rw gap.0 here.0;
      words = words_from text from (omega arith) begins ∙ ap (λ ws. word_on Outside (drop from text) ∷ ws) (behind ∙ others);
    }

pub over_at_end : (place : Place) (text : List ℕ) (from at : ℕ) → from < length text → at ≡ length text → is_blank (get_or text from 0) ≡ false
    → words_behind Outside (drop from text) ≡ words_behind place (drop at text) → Over place text from at
over_at_end place text from at within all begins behind =
    let none : drop at text ≡ [] = drop_all at text (omega arith) in
    let others : words_behind place (drop at text) ≡ words_of (drop at text) = rw none refl in
    record {
      low = omega arith;
      letters = rw none refl;
      words = words_from text from within begins ∙ ap (λ ws. word_on Outside (drop from text) ∷ ws) (behind ∙ others);
    }
