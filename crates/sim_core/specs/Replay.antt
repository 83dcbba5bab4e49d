-- What is written by the word `replay`. The head of its input is read first, and then one result line each time that the run asks for one (Pacemaker
-- Administration, "Transitions"; the sections, the result lines and the ends of a run are rules of this project).
use Rattle.std.specs.Prelude.{◌≡◌, ◌⊎◌, ℕ, List, [], drop, length, Ok, Err}
use Rattle.crm_lex.specs.RawLines.{raw_lines}
use Rattle.faults.specs.declared.fault.Fault.TheVariants.{At}
use Rattle.cluster_types.specs.declared.cluster.Cluster.{Cluster}
use Rattle.cluster_types.specs.declared.journal.Journal.{Journal}
use Rattle.cluster_types.specs.Journals.{moment_of}
use Rattle.live_run.specs.AnswersToCome.{Coming, coming}
use Rattle.live_run.specs.Heads as heads
use Rattle.live_run.specs.Ends.{IsBoundedText, IsCutText, IsRefusedText, IsWholeText}
use Rattle.input_reading.specs.declared.input.cause.InputCause.{InputCause}
use Rattle.input_reading.specs.declared.input.reading.Head.{Head}
use Rattle.sim_core.specs.declared.status.Status.{Status}
use Rattle.sim_core.specs.declared.status.Status.TheVariants.{Done, Refused, TooLarge, Unexpected}
use Rattle.sim_core.specs.Outputs.{IsRefusal}
use Rattle.input_reading.specs.Reading.{longest_line, most_bytes, lone_head_of}

-- the head of an input: its logical lines up to the one that begins the results, or all where none does
abbrev pub head_in : List ℕ → heads.HeadFound
head_in input = heads.head_found longest_line most_bytes 1 [] (raw_lines input)

-- the head of an input is read: it has these bytes, and says this. The line behind it has this number, and so many of the bytes behind it lie within the
-- limit
pub record IsHeadRead (input bytes : List ℕ) (head : Head) (next room : ℕ) : Type 0 where
  pub is : head_in input ≡ heads.taken bytes next room
  pub says : lone_head_of bytes ≡ Ok head

-- what is to come behind a head of these bytes, which says this: the answers of the result lines, up to the first that is refused or goes past the limit
abbrev pub coming_behind : List ℕ → List ℕ → Head → ℕ → ℕ → Coming
coming_behind input bytes head next room =
    coming head.cluster longest_line room (record { moment = moment_of head.journal.events; before = 0; line = next }) (raw_lines (drop (length bytes) input))

-- the head has a fault: its first line that can't be cut into words; or, where there is none, the first fault of its text
pub data IsHeadFault (input : List ℕ) : ℕ → InputCause → Type 0 where
  words_refused : (line : ℕ) (why : InputCause) → head_in input ≡ heads.refused line why → IsHeadFault input line why
  head_refused : (bytes : List ℕ) (next room line : ℕ) (why : InputCause) → head_in input ≡ heads.taken bytes next room → lone_head_of bytes ≡ Err (At line why)
      → IsHeadFault input line why

-- a line of the head goes past the limit of bytes, and nothing is written
pub record IsHeadTooLarge (input text : List ℕ) : Type 0 where
  pub is : head_in input ≡ heads.too_large
  pub printed : text ≡ []

-- the text is one that this says of the run that follows from the head, over all that is to come behind it
pub record IsTextOfRun (Says : Cluster → Journal → Coming → List ℕ → Type 0) (input text : List ℕ) : Type 0 where
  pub bytes : List ℕ
  pub head : Head
  pub next : ℕ
  pub room : ℕ
  pub begun : IsHeadRead input bytes head next room
  pub says : Says head.cluster head.journal (coming_behind input bytes head next room) text

-- an input of this content gets this status and this text
abbrev pub IsReplayOutput : List ℕ → Status → List ℕ → Type 0
IsReplayOutput input Done text = IsTextOfRun IsWholeText input text
IsReplayOutput input Unexpected text = IsTextOfRun IsCutText input text
IsReplayOutput input Refused text = IsRefusal (IsHeadFault input) text ⊎ IsTextOfRun IsRefusedText input text
IsReplayOutput input TooLarge text = IsHeadTooLarge input text ⊎ IsTextOfRun IsBoundedText input text
IsReplayOutput input _ text = ⊥
