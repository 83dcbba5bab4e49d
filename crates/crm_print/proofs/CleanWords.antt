-- The words of a text that has no fault are clean.
use Rattle.std.proofs.Common.{◌≡◌, ℕ, ◌<◌, Bool, true, false, ◌&&◌, ◌||◌, ◌==◌, if◌then◌else◌, Option, Some, None, List, [], ◌∷◌, ◌++◌, map, filter, refl, sym, ap, subst, arith, append_assoc, append-nil}
use Rattle.std.specs.List.{slice_split, onto_first, AllByRecursion}
use Rattle.lemmas.proofs.Booleans.{either}
use Rattle.crm_lex.specs.RawLines.{is_blank}
use Rattle.crm_lex.specs.Words.{escapes, first_byte, has_pieces, is_gap, letters, mark_if, piece_at, pieces, place_after, words_of}
use Rattle.crm_lex.specs.declared.quoting.Piece.{Piece}
use Rattle.crm_lex.specs.declared.quoting.Piece.TheVariants.{Gap, Mark, Letter}
use Rattle.crm_lex.specs.declared.quoting.Place.{Place}
use Rattle.crm_lex.specs.declared.quoting.Place.TheVariants.{Outside, Double, Escaped, Single}
use Rattle.crm_print.proofs.Clean.{AllClean, Clean, clean-append, clean-before, clean-behind}

-- what a piece says of its byte: a letter is the byte, and a gap or a mark is an ASCII byte
abbrev Says : ℕ → Piece → Type 0
Says b Gap = b < 128
Says b Mark = b < 128
Says b (Letter c) = c ≡ b

says_mark : (t : Bool) (b : ℕ) → (t ≡ true → b < 128) → Says b (mark_if t b)
says_mark true b h = h refl
says_mark false b h = refl

says_gap : (t : Bool) (b : ℕ) (piece : Piece) → (t ≡ true → b < 128) → Says b piece → Says b (if t then Gap else piece)
says_gap true b piece h s = h refl
says_gap false b piece h s = s

escapes_ascii : (b : ℕ) (next : Option ℕ) → escapes b next ≡ true → b < 128
escapes_ascii b None h = cc
escapes_ascii b (Some n) h = by (b == 92) (n == 34 || n == 92) refl h
  where
    by : (t u : Bool) → (b == 92) ≡ t → (t && u) ≡ true → b < 128
    by true u e h = grind arith
    by false u e h = cc

piece_says : (place : Place) (b : ℕ) (next : Option ℕ) → Says b (piece_at place b next)
piece_says Outside b next =
    says_gap (is_blank b) b (mark_if (b == 34 || b == 39) b) (λ h. either (b == 9) (b == 32) h (λ e. grind arith) (λ e. grind arith))
    (says_mark (b == 34 || b == 39) b (λ h. either (b == 34) (b == 39) h (λ e. grind arith) (λ e. grind arith)))
piece_says Double b next = says_mark (b == 34 || escapes b next) b (λ h. either (b == 34) (escapes b next) h (λ e. grind arith) (λ e. escapes_ascii b next e))
piece_says Escaped b next = refl
piece_says Single b next = says_mark (b == 39) b (λ e. grind arith)

-- some parts of pieces: the letters of the first one behind some bytes are clean, and those of each other part
record Parts (run : List ℕ) (parts : List (List Piece)) : Type 0 where
  first : List Piece
  others : List (List Piece)
  are : parts ≡ first ∷ others
  first_clean : Clean (run ++ letters first)
  others_clean : AllByRecursion (λ part. Clean (letters part)) others

parts_of : (place : Place) (text run : List ℕ) → Clean (run ++ text) → Parts run (slice_split is_gap (pieces place text))
parts_of place [] run c = record { first = []; others = []; are = refl; first_clean = c; others_clean = tt }
parts_of place (b ∷ bs) run c =
    step (piece_at place b (first_byte bs)) (piece_says place b (first_byte bs))
    (λ r d. parts_of (place_after place b (first_byte bs)) bs r d)
  where
    rest : List (List Piece)
    rest = slice_split is_gap (pieces (place_after place b (first_byte bs)) bs)

    -- an ASCII byte: what stands before and behind it is clean
    marked : Parts [] rest → b < 128 → Parts run (onto_first Mark rest)
    marked p h =
        record {
          first = Mark ∷ p.first;
          others = p.others;
          are = ap (onto_first Mark) p.are;
          first_clean = clean-append run (letters p.first) (clean-before run b bs h c) p.first_clean;
          others_clean = p.others_clean;
        }

    step : (piece : Piece) → Says b piece → ((r : List ℕ) → Clean (r ++ bs) → Parts r rest) → Parts run (if is_gap piece then [] ∷ rest else onto_first piece rest)
    step Gap h more =
        let p = more [] (clean-behind run b bs h c) in
        record {
          first = [];
          others = rest;
          are = refl;
          first_clean = subst Clean (sym (append-nil run)) (clean-before run b bs h c);
          others_clean = subst (AllByRecursion (λ part. Clean (letters part))) (sym p.are) (p.first_clean, p.others_clean);
        }
    step Mark h more = marked (more [] (clean-behind run b bs h c)) h
    step (Letter d) e more =
        let p = more (run ++ b ∷ []) (subst Clean (sym (append_assoc run (b ∷ []) bs)) c) in
        record {
          first = Letter d ∷ p.first;
          others = p.others;
          are = ap (onto_first (Letter d)) p.are;
          first_clean = subst (λ x. Clean (run ++ x ∷ letters p.first)) (sym e) (subst Clean (append_assoc run (b ∷ []) (letters p.first)) p.first_clean);
          others_clean = p.others_clean;
        }

some_letters : (parts : List (List Piece)) → AllByRecursion (λ part. Clean (letters part)) parts → AllClean (map letters (filter has_pieces parts))
some_letters [] h = tt
some_letters ([] ∷ parts) h = some_letters parts h.1
some_letters ((p ∷ ps) ∷ parts) h = (h.0, some_letters parts h.1)

-- the words of a clean text are clean
pub clean-words : (text : List ℕ) → Clean text → AllClean (words_of text)
clean-words text c =
    let p = parts_of Outside text [] c in
    subst (λ parts. AllClean (map letters (filter has_pieces parts))) (sym p.are) (some_letters (p.first ∷ p.others) (p.first_clean, p.others_clean))
