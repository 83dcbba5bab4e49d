-- Which bytes of a text make a logical line: its physical lines, and which of them are joined (crmsh manual, continuation lines and comments; the
-- details are a rule of this project).
use Rattle.std.specs.Prelude.{ℕ, ◌==◌, ◌&&◌, ◌||◌, not, Bool, true, false, if◌then◌else◌, List, [], ◌∷◌}

-- a blank parts words: a tab or a space
abbrev pub is_blank : ℕ → Bool
is_blank b = b == 9 || b == 32

-- the byte stands before what comes first in some lines
abbrev pub onto_first : ℕ → List (List ℕ) → List (List ℕ)
onto_first b [] = (b ∷ []) ∷ []
onto_first b (line ∷ lines) = (b ∷ line) ∷ lines

-- the physical lines of a text, each with its line feed. The last one has none where the text doesn't end in one
abbrev pub physical_lines : List ℕ → List (List ℕ)
physical_lines [] = []
physical_lines (b ∷ bs) = if b == 10 then (b ∷ []) ∷ physical_lines bs else onto_first b (physical_lines bs)

-- a line end: a line feed, or a carriage return and a line feed
abbrev pub is_line_end : List ℕ → Bool
is_line_end (b ∷ []) = b == 10
is_line_end (b ∷ d ∷ []) = b == 13 && d == 10
is_line_end _ = false

-- a physical line without its line end
abbrev pub content : List ℕ → List ℕ
content [] = []
content (b ∷ bs) = if is_line_end (b ∷ bs) then [] else b ∷ content bs

-- the first byte that isn't a blank is `#`
abbrev pub begins_comment : List ℕ → Bool
begins_comment [] = false
begins_comment (b ∷ bs) = b == 35 || is_blank b && begins_comment bs

-- the last byte is this one
abbrev pub ends_in : ℕ → List ℕ → Bool
ends_in byte [] = false
ends_in byte (b ∷ []) = b == byte
ends_in byte (b ∷ bs) = ends_in byte bs

abbrev pub ends_in_backslash : List ℕ → Bool
ends_in_backslash text = ends_in 92 text

-- a physical line goes on with the next one: it ends in a backslash, and it is no comment. A line that continues another is no comment
abbrev pub goes_on : Bool → List ℕ → Bool
goes_on continues line = ends_in_backslash (content line) && (continues || not (begins_comment (content line)))

-- the line stands at the front of what comes first in some groups of lines
abbrev pub onto_group : List ℕ → List (List (List ℕ)) → List (List (List ℕ))
onto_group line [] = (line ∷ []) ∷ []
onto_group line (group ∷ groups) = (line ∷ group) ∷ groups

-- the physical lines of each logical line, of some physical lines of which the first continues another or doesn't
abbrev pub joined : Bool → List (List ℕ) → List (List (List ℕ))
joined continues [] = []
joined continues (line ∷ lines) =
    if goes_on continues line then onto_group line (joined true lines) else (line ∷ []) ∷ joined false lines

-- the physical lines of each logical line of a text
abbrev pub raw_lines : List ℕ → List (List (List ℕ))
raw_lines text = joined false (physical_lines text)
