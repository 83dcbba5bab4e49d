-- An input that is read line by line, as the word `replay` reads it, beside one that is read whole, as the other words read it (rule of this project).
use Rattle.std.specs.Prelude.{◌≡◌, ℕ, false, Some, None, List, drop, length, Ok}
use Rattle.std.specs.List.{list_any}
use Rattle.crm_lex.specs.Reading.{reads}
use Rattle.crm_lex.specs.declared.fault.LexCause.{LexCause}
use Rattle.crm_lex.specs.declared.line.Line.{Line}
use Rattle.crm_parse.specs.Marks.{is_mark}
use Rattle.input_reading.specs.declared.history_fault.ResultCause.{ResultCause}
use Rattle.input_reading.specs.declared.input.cause.InputCause.{InputCause}
use Rattle.input_reading.specs.declared.input.cause.InputCause.TheVariants.{Results, Words}
use Rattle.input_reading.specs.declared.input.reading.Head.{Head}
use Rattle.input_reading.specs.declared.input.reading.Input.{Input}
use Rattle.live_run.specs.Heads as heads
use Rattle.live_run.specs.declared.line_stop.LineCause.TheVariants as cause
use Rattle.live_run.specs.declared.line_stop.LineStop.TheVariants.{Refused}
use Rattle.sim_core.specs.Replay.{IsHeadRead, IsHeadFault, coming_behind, head_in}

-- the head of the input is that of this one, and behind it come its answers, and no line that is refused or goes past the limit
pub record ComesLineByLine (input : List ℕ) (whole : Input) : Type 0 where
  pub bytes : List ℕ
  pub next : ℕ
  pub room : ℕ
  pub begun : IsHeadRead input bytes whole.head next room
  pub all : coming_behind input bytes whole.head next room ≡ record { results = whole.results; stop = None }

-- a line of the input is refused: one of its head; or behind that one which can't be cut into words, or is no answer
pub data IsRefusedByLine (input : List ℕ) : ℕ → InputCause → Type 0 where
  in_head : (line : ℕ) (why : InputCause) → IsHeadFault input line why → IsRefusedByLine input line why
  line_isnt_cut : (bytes : List ℕ) (head : Head) (next room line : ℕ) (why : LexCause) → IsHeadRead input bytes head next room
      → (coming_behind input bytes head next room).stop ≡ Some (Refused line (cause.Words why)) → IsRefusedByLine input line (Words why)
  line_isnt_answer : (bytes : List ℕ) (head : Head) (next room line : ℕ) (why : ResultCause) → IsHeadRead input bytes head next room
      → (coming_behind input bytes head next room).stop ≡ Some (Refused line (cause.Form why)) → IsRefusedByLine input line (Results why)

pub record HasRefusedLine (input : List ℕ) : Type 0 where
  pub line : ℕ
  pub why : InputCause
  pub refused : IsRefusedByLine input line why

-- each line of a text can be cut into words, and none begins with a percent sign
pub record HasPlainLines (text : List ℕ) : Type 0 where
  pub lines : List Line
  pub are : reads text ≡ Ok lines
  pub unmarked : list_any is_mark lines ≡ false

-- so it is with the lines behind the head of the input, if that ends
abbrev pub HasPlainRest : List ℕ → Type 0
HasPlainRest input = (bytes : List ℕ) (next room : ℕ) → head_in input ≡ heads.taken bytes next room → HasPlainLines (drop (length bytes) input)
