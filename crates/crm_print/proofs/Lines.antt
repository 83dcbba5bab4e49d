-- A line of items is read as their words.
use Rattle.std.proofs.Common.{◌≡◌, ℕ, Bool, true, false, if◌then◌else◌, List, [], ◌∷◌, ◌++◌, map, refl, ap, ◌∙◌, append-nil}
use Rattle.std.specs.List.{flat_map, list_any, list_all, slice_split, onto_first}
use Rattle.std.proofs.lemmas.Bool.{and_parts}
use Rattle.crm_lex.specs.Words.{has_pieces, is_gap, is_inside, is_open, letters, pieces, place_behind, spelled, words_of}
use Rattle.crm_lex.specs.declared.quoting.Piece.{Piece}
use Rattle.crm_lex.specs.declared.quoting.Piece.TheVariants.{Gap, Mark, Letter}
use Rattle.crm_lex.specs.declared.quoting.Place.TheVariants.{Outside}
use Rattle.crm_print.specs.Quoting.{Item, escaped, is_plain, item_text, items_line, quoted, spaced}
use Rattle.crm_print.specs.Inner.Quoting.{item_word}
use Rattle.crm_print.proofs.WrittenText.{Spells, item-spells}

-- an item has a part
abbrev pub is_filled : Item → Bool
is_filled [] = false
is_filled (part ∷ parts) = true

abbrev has_bytes : List ℕ → Bool
has_bytes [] = false
has_bytes (b ∷ bs) = true

-- pieces without a gap are one part
one_part : (ps : List Piece) → list_any is_gap ps ≡ false → slice_split is_gap ps ≡ ps ∷ []
one_part [] g = refl
one_part (Gap ∷ ps) g = cc
one_part (Mark ∷ ps) g = ap (onto_first Mark) (one_part ps g)
one_part (Letter b ∷ ps) g = ap (onto_first (Letter b)) (one_part ps g)

-- and so they are before a gap
part_before : (ps qs : List Piece) → list_any is_gap ps ≡ false → slice_split is_gap (ps ++ Gap ∷ qs) ≡ ps ∷ slice_split is_gap qs
part_before [] qs g = refl
part_before (Gap ∷ ps) qs g = cc
part_before (Mark ∷ ps) qs g = ap (onto_first Mark) (part_before ps qs g)
part_before (Letter b ∷ ps) qs g = ap (onto_first (Letter b)) (part_before ps qs g)

-- how a word is written is never empty
some_quoted : (word : List ℕ) → has_bytes (quoted word) ≡ true
unfolding is_plain
some_quoted [] = refl
some_quoted (b ∷ bs) = split (is_plain (b ∷ bs))
  where
    split : (t : Bool) → has_bytes (if t then b ∷ bs else 34 ∷ (flat_map escaped (b ∷ bs) ++ 34 ∷ [])) ≡ true
    split true = refl
    split false = refl

some_more : (xs ys : List ℕ) → has_bytes xs ≡ true → has_bytes (xs ++ ys) ≡ true
some_more [] ys h = cc
some_more (x ∷ xs) ys h = refl

some_item : (item : Item) → is_filled item ≡ true → has_bytes (item_text item) ≡ true
some_item [] h = cc
some_item (part ∷ parts) h = some_more (quoted part) (item_text parts) (some_quoted part)

-- a text that isn't empty has pieces
some_pieces : (text word : List ℕ) → (s : Spells Outside Outside text word) → has_bytes text ≡ true → has_pieces s.spelled_by ≡ true
some_pieces [] word s h = cc
some_pieces (b ∷ bs) word s h = by s.spelled_by (s.pieces_are [])
  where
    by : (ps : List Piece) → pieces Outside ((b ∷ bs) ++ []) ≡ ps ++ pieces Outside [] → has_pieces ps ≡ true
    by [] e = cc
    by (p ∷ ps) e = refl

-- the words of a part before some others
spelled_before : (ps qs : List Piece) → list_any is_gap ps ≡ false → has_pieces ps ≡ true → spelled (ps ++ Gap ∷ qs) ≡ letters ps ∷ spelled qs
spelled_before ps qs g h = rw (part_before ps qs g, h) refl

spelled_alone : (ps : List Piece) → list_any is_gap ps ≡ false → has_pieces ps ≡ true → spelled ps ≡ letters ps ∷ []
spelled_alone ps g h = rw (one_part ps g, h) refl

-- the words of a text that spells a word, before a blank and some more text
word-before : (text word more : List ℕ) → Spells Outside Outside text word → has_bytes text ≡ true → words_of (text ++ 32 ∷ more) ≡ word ∷ words_of more
word-before text word more s h =
    ap spelled (s.pieces_are (32 ∷ more))
    ∙ (spelled_before s.spelled_by (pieces Outside more) s.gapless (some_pieces text word s h) ∙ ap (λ letters. letters ∷ words_of more) s.letters_are)

word-alone : (text word : List ℕ) → Spells Outside Outside text word → has_bytes text ≡ true → words_of (text ++ []) ≡ word ∷ []
word-alone text word s h =
    ap spelled (s.pieces_are [])
    ∙ (ap spelled (append-nil s.spelled_by) ∙ (spelled_alone s.spelled_by s.gapless (some_pieces text word s h) ∙ ap (λ letters. letters ∷ []) s.letters_are))

-- a line of items is read as their words
pub line-words : (item : Item) (items : List Item) → list_all is_filled (item ∷ items) ≡ true → words_of (items_line (item ∷ items)) ≡ map item_word (item ∷ items)
line-words item [] h =
    let fits = and_parts (is_filled item) true h in
    word-alone (item_text item) (item_word item) (item-spells item) (some_item item fits.0)
line-words item (next ∷ items) h =
    let fits = and_parts (is_filled item) (list_all is_filled (next ∷ items)) h in
    word-before (item_text item) (item_word item) (items_line (next ∷ items)) (item-spells item) (some_item item fits.0)
    ∙ ap (λ words. item_word item ∷ words) (line-words next items fits.1)

-- and no quote is open at its end
closed_behind : (items : List Item) → place_behind Outside (flat_map spaced items) ≡ Outside
closed_behind [] = refl
closed_behind (item ∷ items) = (item-spells item).place_is (flat_map spaced items) ∙ closed_behind items

pub line-closed : (item : Item) (items : List Item) → is_open (items_line (item ∷ items)) ≡ false
line-closed item items = ap is_inside ((item-spells item).place_is (flat_map spaced items) ∙ closed_behind items)
