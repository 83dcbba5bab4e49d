-- The text of a logical line, its words and its faults, by its physical lines (crmsh manual, continuation lines and comments; the details and the
-- faults are a rule of this project).
use Rattle.std.specs.Prelude.{ℕ, ◌+◌, ◌==◌, ◌&&◌, ◌||◌, not, nat_lt, Bool, true, false, if◌then◌else◌, List, [], ◌∷◌, ◌++◌, length, sum_by}
use Rattle.std.specs.List.{list_any}
use Rattle.std.specs.Str.{is_utf8}
use Rattle.crm_lex.specs.RawLines.{content, begins_comment}
use Rattle.crm_lex.specs.Words.{is_open}
use Rattle.crm_lex.specs.declared.fault.LexCause.{LexCause}
use Rattle.crm_lex.specs.declared.fault.LexCause.TheVariants.{NotUtf8, ControlByte, OpenQuote, LineTooLong}
use Rattle.faults.specs.declared.fault.Fault.{Fault}
use Rattle.faults.specs.declared.fault.Fault.TheVariants.{At}

-- what a backslash at the end of a physical line becomes before these lines: a space, and nothing at the end of the input
abbrev pub joint : List (List ℕ) → List ℕ
joint [] = []
joint (line ∷ lines) = 32 ∷ []

-- a content with these bytes in place of a backslash at its end
abbrev pub with_joint : List ℕ → List ℕ → List ℕ
with_joint bytes [] = []
with_joint bytes (b ∷ []) = if b == 92 then bytes else b ∷ []
with_joint bytes (b ∷ bs) = b ∷ with_joint bytes bs

-- the contents of physical lines, joined
abbrev pub joined_text : List (List ℕ) → List ℕ
joined_text [] = []
joined_text (line ∷ lines) = with_joint (joint lines) (content line) ++ joined_text lines

abbrev pub is_comment : List (List ℕ) → Bool
is_comment [] = false
is_comment (line ∷ lines) = begins_comment (content line)

-- the text of the logical line that has these physical lines. A comment has none
abbrev pub line_text : List (List ℕ) → List ℕ
line_text lines = if is_comment lines then [] else joined_text lines

-- how many bytes a logical line has without its line ends
abbrev pub content_length : List (List ℕ) → ℕ
content_length lines = sum_by (λ line. length (content line)) lines

-- a byte that no line may have: below 32 and no tab, or 127
abbrev pub is_control : ℕ → Bool
is_control b = nat_lt b 32 && not (b == 9) || b == 127

-- the fault at this line where the test says so
abbrev pub fault_if : Bool → ℕ → LexCause → List (Fault LexCause)
fault_if true n cause = At n cause ∷ []
fault_if false n cause = []

-- the faults of the bytes of a physical line, which has this number
abbrev pub byte_faults : ℕ → List ℕ → List (Fault LexCause)
byte_faults n line = fault_if (not (is_utf8 (content line))) n NotUtf8 ++ fault_if (list_any is_control (content line)) n ControlByte

-- the faults of the bytes of physical lines, of which the first has this number
abbrev pub all_byte_faults : ℕ → List (List ℕ) → List (Fault LexCause)
all_byte_faults n [] = []
all_byte_faults n (line ∷ lines) = byte_faults n line ++ all_byte_faults (n + 1) lines

-- the faults of the logical line that has these physical lines, of which the first has this number: by their lines, and on one line in their order
abbrev pub faults : ℕ → List (List ℕ) → List (Fault LexCause)
faults n [] = []
faults n (line ∷ lines) =
    fault_if (nat_lt 1048576 (content_length (line ∷ lines))) n LineTooLong ++ (byte_faults n line
    ++ (fault_if (is_open (line_text (line ∷ lines))) n OpenQuote ++ all_byte_faults (n + 1) lines))
