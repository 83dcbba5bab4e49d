-- What the private functions say: a text as its first word and the words behind it, and lines that are read as they stand.
use Rattle.std.specs.Prelude.{◌≡◌, ℕ, nat_le, ◌==◌, ◌&&◌, ◌||◌, not, Bool, true, false, Option, Some, None, List, [], ◌∷◌, ◌++◌, length, drop, slice_range, map, filter}
use Rattle.std.specs.List.{list_any, slice_split}
use Rattle.crm_lex.specs.RawLines.{is_blank, content}
use Rattle.crm_lex.specs.Words.{is_quote, pieces, is_gap, has_pieces, letters}
use Rattle.crm_lex.specs.declared.quoting.Place.{Place}
use Rattle.crm_lex.specs.declared.quoting.Place.TheVariants.{Outside}
use Rattle.crm_lex.specs.declared.quoting.Piece.{Piece}

-- the letters of the first part, and the words of the others
abbrev pub first_letters : List (List Piece) → List ℕ
first_letters [] = []
first_letters (part ∷ parts) = letters part

abbrev pub later_words : List (List Piece) → List (List ℕ)
later_words [] = []
later_words (part ∷ parts) = map letters (filter has_pieces parts)

-- the letters up to the first gap in a text whose first byte stands at this place
abbrev pub word_on : Place → List ℕ → List ℕ
word_on place text = first_letters (slice_split is_gap (pieces place text))

-- the words behind that gap
abbrev pub words_behind : Place → List ℕ → List (List ℕ)
words_behind place text = later_words (slice_split is_gap (pieces place text))

-- outside quotes a byte stands for itself in its word, if it is no blank and no quote
abbrev pub ends_plain : ℕ → Bool
ends_plain b = is_blank b || is_quote b

-- outside quotes a word ends before this byte, or at the end of the text
abbrev pub ends_word : Option ℕ → Bool
ends_word None = true
ends_word (Some b) = is_blank b

-- a word that begins at the one place of a text is on at the other, outside quotes, and has the bytes between
pub record PlainBetween (text : List ℕ) (from to : ℕ) : Type 0 where
  pub letters : word_on Outside (drop from text) ≡ slice_range text from to ++ word_on Outside (drop to text)
  pub behind : words_behind Outside (drop from text) ≡ words_behind Outside (drop to text)

-- a byte that may stand for something else than itself
abbrev pub is_quote_or_backslash : ℕ → Bool
is_quote_or_backslash b = is_quote b || b == 92

-- a text that stands for itself: it isn't too long, and has no quote and no backslash
abbrev pub is_plain_text : List ℕ → Bool
is_plain_text text = nat_le (length text) 1048576 && not (list_any is_quote_or_backslash text)

-- these physical lines are one line, whose content stands for itself
abbrev pub is_plain_line : List (List ℕ) → Bool
is_plain_line [] = false
is_plain_line (line ∷ []) = is_plain_text (content line)
is_plain_line (line ∷ next ∷ more) = false
