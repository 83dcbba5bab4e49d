-- The next line of a source, and what a reader of lines answers (crmsh manual, continuation lines and comments; the bounds are a rule of this project).
use Rattle.std.specs.Prelude.{◌≡◌, ℕ, ◌+◌, ◌-◌, nat_lt, nat_le, ◌==◌, min, Bool, false, true, if◌then◌else◌, List, [], ◌∷◌, ◌++◌, length}
use Rattle.std.specs.List.{concat, list_any}
use Rattle.crm_lex.specs.RawLines.{physical_lines, content, goes_on, raw_lines}
use Rattle.cluster_io.specs.declared.line_step.LineStep.{LineStep}
use Rattle.cluster_io.specs.declared.line_step.LineStep.TheVariants.{Line, End, TooLong, TooLarge}

-- the first of the logical lines of a text, none where there is none
abbrev pub first_line_of : List (List (List ℕ)) → List (List ℕ)
first_line_of [] = []
first_line_of (line ∷ lines) = line

-- the physical lines of the first logical line of a text
abbrev pub first_line : List ℕ → List (List ℕ)
first_line text = first_line_of (raw_lines text)

-- how many of the first `room` bytes of some physical lines belong to no line end
abbrev pub content_within : ℕ → List (List ℕ) → ℕ
content_within room [] = 0
content_within room (line ∷ lines) = min room (length (content line)) + content_within (room - length line) lines

-- the answer to a line of these physical lines: it is too long by the bytes within the room alone, and it has to lie within the room
abbrev pub line_answer : ℕ → ℕ → List (List ℕ) → LineStep
line_answer room longest lines =
    if nat_lt longest (content_within room lines) then TooLong
    else if nat_le (length (concat lines)) room then Line else TooLarge

-- the answer of a reader before this text, of which the first `room` bytes lie within its limit
abbrev pub reader_answer : ℕ → ℕ → List ℕ → LineStep
reader_answer room longest [] = End
reader_answer room longest (b ∷ bs) = line_answer room longest (first_line (b ∷ bs))

-- these bytes give no answer yet: whichever answer the reader might give, some bytes to follow would have it give another
abbrev pub IsUndecided : ℕ → ℕ → List ℕ → Type 0
IsUndecided room longest held = (step : LineStep) → ((rest : List ℕ) → reader_answer room longest (held ++ rest) ≡ step) → ⊥

-- a byte is a line feed
abbrev pub has_feed : List ℕ → Bool
has_feed text = list_any (λ b. b == 10) text

-- the first logical line of these physical lines is whole: the last of its own has a line feed and doesn't go on. A line before these may go on into them (the
-- truth says so)
abbrev pub is_whole : Bool → List (List ℕ) → Bool
is_whole continues [] = false
is_whole continues (line ∷ lines) = if goes_on continues line then is_whole true lines else has_feed line

-- the first logical line of a text is whole
abbrev pub holds_line : List ℕ → Bool
holds_line text = is_whole false (physical_lines text)
