-- The sections of a text: the configuration; after it the status, from a line `%status` on; and last the results or the trace, from a line
-- `%results` or `%trace` on. Each of the two lines may be missing, and holds one word (rule of this project).
use Rattle.std.specs.Prelude.{ℕ, ◌==◌, ◌&&◌, ◌||◌, not, min, Bool, false, if◌then◌else◌, List, [], ◌∷◌, ◌++◌, length, codes, Option, Some, None, Result, Ok, Err}
use Rattle.std.specs.List.{list_any, position_or_len}
use Rattle.crm_lex.specs.Names.{is}
use Rattle.crm_lex.specs.declared.line.Line.{Line}
use Rattle.crm_parse.specs.declared.fault.ParseCause.TheVariants.{UnknownStatement}
use Rattle.faults.specs.declared.fault.Fault.{Fault}
use Rattle.faults.specs.declared.fault.Fault.TheVariants.{At}
use Rattle.crm_parse.specs.declared.fault.ParseCause.{ParseCause}
use Rattle.crm_parse.specs.declared.marks.AuditMarks.{AuditMarks}
use Rattle.crm_parse.specs.declared.marks.SectionMarks.{SectionMarks}

-- the first word of a line
abbrev pub first_word : List (List ℕ) → List ℕ
first_word [] = []
first_word (word ∷ words) = word

-- the first word of the line is this one
abbrev pub begins_with : List ℕ → Line → Bool
begins_with word line = is (first_word line.words) word

-- the first byte is a percent sign (37)
abbrev pub has_percent : List ℕ → Bool
has_percent [] = false
has_percent (b ∷ bs) = b == 37

-- the line stands for a section: its first word begins with a percent sign
abbrev pub is_mark : Line → Bool
is_mark line = has_percent (first_word line.words)

-- a section line is in its place, after the lines before it: it has one word, which is `%status` where no section has begun, or the name of
-- the last section (`%results`, `%trace`) where that one has not begun
abbrev pub is_in_place : List ℕ → List Line → Line → Bool
is_in_place last before line =
    (length line.words == 1)
    && (begins_with (codes "%status") line && not (list_any is_mark before)
    || begins_with last line && not (list_any (begins_with last) before))

-- the number of the first section line that isn't in its place, after some lines before it
abbrev pub misplaced : List ℕ → List Line → List Line → Option ℕ
misplaced last before [] = None
misplaced last before (line ∷ lines) =
    if is_mark line && not (is_in_place last before line) then Some line.line else misplaced last (before ++ line ∷ []) lines

-- where the last section begins, and the end of the lines where it isn't there
abbrev pub last_at : List ℕ → List Line → ℕ
last_at last lines = position_or_len (begins_with last) lines

-- where the status begins, and where the last section does where it isn't there
abbrev pub status_at : List ℕ → List Line → ℕ
status_at last lines = min (position_or_len (begins_with (codes "%status")) lines) (last_at last lines)

-- the sections, unless a section line is out of its place
abbrev pub marks_unless : {Marks : Type 0} → Option ℕ → Marks → Result Marks (Fault ParseCause)
marks_unless None marks = Ok marks
marks_unless (Some line) marks = Err (At line UnknownStatement)

-- the sections of an input with results
abbrev pub sections_of : List Line → Result SectionMarks (Fault ParseCause)
sections_of lines =
    let last = codes "%results" in
    marks_unless (misplaced last [] lines) (record { status_at = status_at last lines; results_at = last_at last lines; end = length lines })

-- the sections of an input with a trace
abbrev pub audit_sections_of : List Line → Result AuditMarks (Fault ParseCause)
audit_sections_of lines =
    let last = codes "%trace" in
    marks_unless (misplaced last [] lines) (record { status_at = status_at last lines; trace_at = last_at last lines; end = length lines })
