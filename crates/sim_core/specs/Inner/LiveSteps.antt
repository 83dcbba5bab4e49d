-- The steps of the word `replay`: the head of its input, and the run behind it. No public clause cites this module (rule of this project).
use Rattle.std.specs.Prelude.{◌≡◌, ℕ, ◌<◌, false, Option, Some, None, List, [], ◌++◌, length}
use Rattle.cluster_io.specs.Readings.{Reading}
use Rattle.cluster_io.specs.Streams.{Adds, AddsPrefix}
use Rattle.live_run.specs.Heads as heads
use Rattle.live_run.specs.declared.head.HeadStop.{HeadStop}
use Rattle.live_run.specs.declared.head.HeadStop.TheVariants as stop
use Rattle.live_run.specs.declared.live_end.LiveEnd.{LiveEnd}
use Rattle.live_run.specs.declared.live_end.LiveEnd.TheVariants as end
use Rattle.input_reading.specs.declared.input.cause.InputCause.{InputCause}
use Rattle.input_reading.specs.declared.input.reading.Head.{Head}
use Rattle.sim_core.specs.declared.status.Status.{Status}
use Rattle.sim_core.specs.declared.status.Status.TheVariants.{Done, NoMemory, ReadFault, WriteFault, Refused, Unexpected, TooLarge}
use Rattle.input_reading.specs.Causes.{refusal_text}
use Rattle.input_reading.specs.Reading.{longest_line, most_bytes}
use Rattle.sim_core.specs.LiveAnswers.{IsAmidHead}
use Rattle.sim_core.specs.Replay.{IsHeadRead, IsHeadFault, head_in}

-- a reader from which nothing was read yet
abbrev pub fresh : Reading
fresh = record { held = []; raw = []; number = 0; next = 1; room = most_bytes; longest = longest_line; stop = None; ended = false }

-- the head was read to its end, and says this. Behind it the reader holds some bytes, and the source has the others
pub record IsBehind (input : List ℕ) (head : Head) (reading : Reading) (left : Option (List ℕ)) : Type 0 where
  pub bytes : List ℕ
  pub unread : List ℕ
  pub begun : IsHeadRead input bytes head reading.next reading.room
  pub left_is : left ≡ Some unread
  pub parts : input ≡ bytes ++ (reading.held ++ unread)
  pub short : length reading.held < 4096
  pub longest : reading.longest ≡ longest_line

-- why the run isn't begun
abbrev pub StopsBy : List ℕ → Option (List ℕ) → HeadStop → Type 0
StopsBy input left (stop.Refused line why) = IsHeadFault input line why
StopsBy input left stop.TooLarge = head_in input ≡ heads.too_large
StopsBy input left stop.ReadFault = IsAmidHead input left
StopsBy input left stop.NoMemory = Unit {0}

-- what was written of a fault of the head
abbrev pub WritesFault : ℕ → InputCause → Option (List ℕ) → Option (List ℕ) → Status → Type 0
WritesFault line why before after Refused = Adds before (refusal_text line why) after
WritesFault line why before after WriteFault = AddsPrefix (refusal_text line why) before after
WritesFault line why before after NoMemory = after ≡ before
WritesFault line why before after _ = ⊥

-- the status that a run has by its end
abbrev pub status_of : LiveEnd → Status
status_of end.Done = Done
status_of end.Unexpected = Unexpected
status_of end.Refused = Refused
status_of end.TooLarge = TooLarge
status_of end.ReadFault = ReadFault
status_of end.WriteFault = WriteFault
status_of end.NoMemory = NoMemory
