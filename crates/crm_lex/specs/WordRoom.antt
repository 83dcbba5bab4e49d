-- The room of a buffer of words, and the words in it.
use Rattle.std.specs.Prelude.{◌≡◌, ℕ, ◌≤◌, min, List, length, map, slice_range}
use Rattle.std.specs.List.{AllByRecursion}
use Rattle.crm_lex.specs.declared.span.Span.{Span}

-- the words that stand at these places
abbrev pub words_at : List ℕ → List Span → List (List ℕ)
words_at letters spans = map (λ span. slice_range letters span.start span.end) spans

-- each place is one of these bytes, of which there are this many
abbrev pub AllWithin : ℕ → List Span → Type 0
AllWithin n spans = AllByRecursion (λ span. (span.start ≤ span.end) × (span.end ≤ n)) spans

-- a buffer has room for the longest text, for its words and for the places of the first eight, of which it has as many as there are words
pub record Room (text_room letters_room spans_room : ℕ) (letters : List ℕ) (spans : List Span) (count : ℕ) : Type 0 where
  pub text : 1048576 ≤ text_room
  pub words : 1048576 ≤ letters_room
  pub places : 8 ≤ spans_room
  pub within : AllWithin (length letters) spans
  pub all : length spans ≡ min 8 count
