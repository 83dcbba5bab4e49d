-- What is written for a word reads as the word.
use Rattle.std.proofs.Common.{◌≡◌, ℕ, ◌==◌, Bool, true, false, not, ◌&&◌, ◌||◌, if◌then◌else◌, Option, Some, None, List, [], ◌∷◌, ◌++◌, length, refl, sym, ap, ◌∙◌, append_assoc, append-nil}
use Rattle.std.specs.List.{flat_map, list_any}
use Rattle.crm_lex.specs.Words.{escapes, first_byte, is_gap, letters, pieces, place_after, place_behind}
use Rattle.crm_lex.specs.declared.quoting.Piece.{Piece}
use Rattle.crm_lex.specs.declared.quoting.Piece.TheVariants.{Gap, Mark, Letter}
use Rattle.crm_lex.specs.declared.quoting.Place.{Place}
use Rattle.crm_lex.specs.declared.quoting.Place.TheVariants.{Outside, Double}
use Rattle.crm_print.specs.Quoting.{Item, begins_with_hash, escaped, is_plain, item_text, needs_quotes, quoted}
use Rattle.crm_print.specs.Inner.Quoting.{item_word}

-- a text that stands at one place, with a place behind it, has these pieces whatever follows: they have no gap, and their letters are the word
pub record Spells (place behind : Place) (text word : List ℕ) : Type 0 where
  pub spelled_by : List Piece
  pub letters_are : letters spelled_by ≡ word
  pub gapless : list_any is_gap spelled_by ≡ false
  pub pieces_are : (rest : List ℕ) → pieces place (text ++ rest) ≡ spelled_by ++ pieces behind rest
  pub place_is : (rest : List ℕ) → place_behind place (text ++ rest) ≡ place_behind behind rest

letters-append : (ps qs : List Piece) → letters (ps ++ qs) ≡ letters ps ++ letters qs
letters-append [] qs = refl
letters-append (Gap ∷ ps) qs = letters-append ps qs
letters-append (Mark ∷ ps) qs = letters-append ps qs
letters-append (Letter b ∷ ps) qs = ap (λ bs. b ∷ bs) (letters-append ps qs)

gapless-append : (ps qs : List Piece) → list_any is_gap ps ≡ false → list_any is_gap qs ≡ false → list_any is_gap (ps ++ qs) ≡ false
gapless-append [] qs g h = h
gapless-append (Gap ∷ ps) qs g h = cc
gapless-append (Mark ∷ ps) qs g h = gapless-append ps qs g h
gapless-append (Letter b ∷ ps) qs g h = gapless-append ps qs g h

-- no text
pub nothing : (place : Place) → Spells place place [] []
nothing place = record { spelled_by = []; letters_are = refl; gapless = refl; pieces_are = λ rest. refl; place_is = λ rest. refl }

-- one text behind another
pub followed : (a b c : Place) (text word other more : List ℕ) → Spells a b text word → Spells b c other more → Spells a c (text ++ other) (word ++ more)
followed a b c text word other more s t =
    record {
      spelled_by = s.spelled_by ++ t.spelled_by;
      letters_are = letters-append s.spelled_by t.spelled_by ∙ rw (s.letters_are, t.letters_are) refl;
      gapless = gapless-append s.spelled_by t.spelled_by s.gapless t.gapless;
      pieces_are = λ rest. ap (pieces a) (append_assoc text other rest) ∙ (s.pieces_are (other ++ rest) ∙ (ap (λ ps. s.spelled_by ++ ps) (t.pieces_are rest) ∙ sym (append_assoc s.spelled_by t.spelled_by (pieces c rest))));
      place_is = λ rest. ap (place_behind a) (append_assoc text other rest) ∙ (s.place_is (other ++ rest) ∙ t.place_is rest);
    }

-- a byte that needs no quotes, outside of quotes
letter_outside : (b : ℕ) → needs_quotes b ≡ false → Spells Outside Outside (b ∷ []) (b ∷ [])
letter_outside b h = by (b == 9) (b == 32) (b == 34) (b == 39) (b == 92) refl refl refl refl refl h
  where
    by : (t s d q e : Bool) → (b == 9) ≡ t → (b == 32) ≡ s → (b == 34) ≡ d → (b == 39) ≡ q → (b == 92) ≡ e
        → ((t || s) || d || q || e) ≡ false → Spells Outside Outside (b ∷ []) (b ∷ [])
    by true s d q e ht hs hd hq he h = cc
    by false true d q e ht hs hd hq he h = cc
    by false false true q e ht hs hd hq he h = cc
    by false false false true e ht hs hd hq he h = cc
    by false false false false e ht hs hd hq he h =
        record {
          spelled_by = Letter b ∷ [];
          letters_are = refl;
          gapless = refl;
          pieces_are = λ rest. rw (ht, hs, hd, hq) refl;
          place_is = λ rest. rw (place_behind, place_after, hd, hq) refl;
        }

outside : (word : List ℕ) → list_any needs_quotes word ≡ false → Spells Outside Outside word word
outside [] h = nothing Outside
outside (b ∷ bs) h = split (needs_quotes b) refl h (outside bs)
  where
    split : (t : Bool) → needs_quotes b ≡ t → (t || list_any needs_quotes bs) ≡ false
        → (list_any needs_quotes bs ≡ false → Spells Outside Outside bs bs) → Spells Outside Outside (b ∷ bs) (b ∷ bs)
    split true e h more = cc
    split false e h more = followed Outside Outside Outside (b ∷ []) (b ∷ []) bs bs (letter_outside b e) (more h)

not_escaping : (b : ℕ) (next : Option ℕ) → (b == 92) ≡ false → escapes b next ≡ false
not_escaping b None h = refl
not_escaping b (Some n) h = rw h refl

-- a byte between double quotes
between_one : (b : ℕ) → Spells Double Double (escaped b) (b ∷ [])
between_one b = by (b == 34) (b == 92) refl refl
  where
    by : (d e : Bool) → (b == 34) ≡ d → (b == 92) ≡ e → Spells Double Double (if d || e then 92 ∷ b ∷ [] else b ∷ []) (b ∷ [])
    by true e hd he =
        record {
          spelled_by = Mark ∷ Letter b ∷ [];
          letters_are = refl;
          gapless = refl;
          pieces_are = λ rest. rw hd refl;
          place_is = λ rest. rw hd refl;
        }
    by false true hd he =
        record {
          spelled_by = Mark ∷ Letter b ∷ [];
          letters_are = refl;
          gapless = refl;
          pieces_are = λ rest. rw (hd, he) refl;
          place_is = λ rest. rw (hd, he) refl;
        }
    by false false hd he =
        record {
          spelled_by = Letter b ∷ [];
          letters_are = refl;
          gapless = refl;
          pieces_are = λ rest. let e = not_escaping b (first_byte rest) he in rw (e, hd) refl;
          place_is = λ rest. let e = not_escaping b (first_byte rest) he in rw (e, hd) refl;
        }

between : (word : List ℕ) → Spells Double Double (flat_map escaped word) word
between [] = nothing Double
between (b ∷ bs) = followed Double Double Double (escaped b) (b ∷ []) (flat_map escaped bs) bs (between_one b) (between bs)

-- between two double quotes
around : (word : List ℕ) → Spells Outside Outside (34 ∷ (flat_map escaped word ++ 34 ∷ [])) word
around word = let s = between word in
    record {
      spelled_by = Mark ∷ (s.spelled_by ++ Mark ∷ []);
      letters_are = letters-append s.spelled_by (Mark ∷ []) ∙ (append-nil (letters s.spelled_by) ∙ s.letters_are);
      gapless = gapless-append s.spelled_by (Mark ∷ []) s.gapless refl;
      pieces_are = λ rest. ap (λ ps. Mark ∷ ps) (ap (pieces Double) (append_assoc (flat_map escaped word) (34 ∷ []) rest) ∙ (s.pieces_are (34 ∷ rest) ∙ sym (append_assoc s.spelled_by (Mark ∷ []) (pieces Outside rest))));
      place_is = λ rest. ap (place_behind Double) (append_assoc (flat_map escaped word) (34 ∷ []) rest) ∙ s.place_is (34 ∷ rest);
    }

plain_needs_none : (empty hash any : Bool) → (not empty && not hash && not any) ≡ true → any ≡ false
plain_needs_none true hash any h = cc
plain_needs_none false true any h = cc
plain_needs_none false false true h = cc
plain_needs_none false false false h = refl

pub quoted-spells : (word : List ℕ) → Spells Outside Outside (quoted word) word
unfolding is_plain
quoted-spells word = split (is_plain word) refl
  where
    split : (t : Bool) → is_plain word ≡ t → Spells Outside Outside (if t then word else 34 ∷ (flat_map escaped word ++ 34 ∷ [])) word
    split true e = outside word (plain_needs_none (length word == 0) (begins_with_hash word) (list_any needs_quotes word) e)
    split false e = around word

-- what is written for an item
pub item-spells : (item : Item) → Spells Outside Outside (item_text item) (item_word item)
item-spells [] = nothing Outside
item-spells (part ∷ parts) = followed Outside Outside Outside (quoted part) part (item_text parts) (item_word parts) (quoted-spells part) (item-spells parts)
