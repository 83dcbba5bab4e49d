-- The words of a text, and whether a quote is open at its end (crmsh manual, quoting; which bytes a backslash escapes is a rule of this project).
use Rattle.std.specs.Prelude.{ℕ, ◌==◌, ◌&&◌, ◌||◌, Bool, true, false, if◌then◌else◌, Option, Some, None, List, [], ◌∷◌, map, filter}
use Rattle.std.specs.List.{slice_split}
use Rattle.crm_lex.specs.RawLines.{is_blank}
use Rattle.crm_lex.specs.declared.quoting.Place.{Place}
use Rattle.crm_lex.specs.declared.quoting.Place.TheVariants.{Outside, Double, Escaped, Single}
use Rattle.crm_lex.specs.declared.quoting.Piece.{Piece}
use Rattle.crm_lex.specs.declared.quoting.Piece.TheVariants.{Gap, Mark, Letter}

-- the first byte, if there is one
abbrev pub first_byte : List ℕ → Option ℕ
first_byte [] = None
first_byte (b ∷ bs) = Some b

-- a quote, double or single
abbrev pub is_quote : ℕ → Bool
is_quote b = b == 34 || b == 39

-- between double quotes a backslash escapes a double quote or a backslash that follows it
abbrev pub escapes : ℕ → Option ℕ → Bool
escapes b None = false
escapes b (Some next) = b == 92 && (next == 34 || next == 92)

abbrev pub mark_if : Bool → ℕ → Piece
mark_if true b = Mark
mark_if false b = Letter b

-- what a byte at a place is, before the next byte: a gap between words, a mark of quoting, or a letter of its word
abbrev pub piece_at : Place → ℕ → Option ℕ → Piece
piece_at Outside b next = if is_blank b then Gap else mark_if (is_quote b) b
piece_at Double b next = mark_if (b == 34 || escapes b next) b
piece_at Escaped b next = Letter b
piece_at Single b next = mark_if (b == 39) b

-- the place behind it
abbrev pub place_after : Place → ℕ → Option ℕ → Place
place_after Outside b next = if b == 34 then Double else (if b == 39 then Single else Outside)
place_after Double b next = if b == 34 then Outside else (if escapes b next then Escaped else Double)
place_after Escaped b next = Double
place_after Single b next = if b == 39 then Outside else Single

-- what the bytes of a text are, of which the first stands at this place
abbrev pub pieces : Place → List ℕ → List Piece
pieces place [] = []
pieces place (b ∷ bs) = piece_at place b (first_byte bs) ∷ pieces (place_after place b (first_byte bs)) bs

-- the place behind the text
abbrev pub place_behind : Place → List ℕ → Place
place_behind place [] = place
place_behind place (b ∷ bs) = place_behind (place_after place b (first_byte bs)) bs

abbrev pub is_inside : Place → Bool
is_inside Outside = false
is_inside _ = true

-- a quote is open at the end of the text
abbrev pub is_open : List ℕ → Bool
is_open text = is_inside (place_behind Outside text)

abbrev pub is_gap : Piece → Bool
is_gap Gap = true
is_gap _ = false

abbrev pub has_pieces : List Piece → Bool
has_pieces [] = false
has_pieces (p ∷ ps) = true

-- the letters
abbrev pub letters : List Piece → List ℕ
letters [] = []
letters (Letter b ∷ ps) = b ∷ letters ps
letters (_ ∷ ps) = letters ps

-- the words that some pieces make: the letters of each part between gaps that has pieces. So `""` is an empty word
abbrev pub spelled : List Piece → List (List ℕ)
spelled ps = map letters (filter has_pieces (slice_split is_gap ps))

-- the words of a text
abbrev pub words_of : List ℕ → List (List ℕ)
words_of text = spelled (pieces Outside text)
