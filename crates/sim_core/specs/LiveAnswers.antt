-- What an answer to the word `replay` says of its input and of what was written; with 0, 3 and 4 also of what was read, since reading and writing go on
-- together (rules of this project).
use Rattle.std.specs.Prelude.{◌≡◌, ℕ, ◌-◌, ◌<◌, Option, List, [], ◌++◌, length, IfSome}
use Rattle.cluster_io.specs.Readings.{Reading}
use Rattle.cluster_io.specs.Streams.{Adds, AddsPrefix}
use Rattle.cluster_types.specs.declared.cluster.Cluster.{Cluster}
use Rattle.cluster_types.specs.declared.journal.Journal.{Journal}
use Rattle.live_run.specs.SourceFollowed.{bytes_of}
use Rattle.live_run.specs.Heads as heads
use Rattle.live_run.specs.RunReached.{GivesNoAnswer, HasNoMemory, HasReadFailed, HasSinkFailed, HasWholeLinesTaken}
use Rattle.input_reading.specs.declared.input.cause.InputCause.{InputCause}
use Rattle.input_reading.specs.declared.input.reading.Head.{Head}
use Rattle.sim_core.specs.declared.status.Status.{Status}
use Rattle.sim_core.specs.declared.status.Status.TheVariants.{Done, NoMemory, Usage, ReadFault, WriteFault, Refused, Unexpected, TooLarge, NotLawful}
use Rattle.input_reading.specs.Causes.{refusal_text}
use Rattle.input_reading.specs.Reading.{longest_line, most_bytes}
use Rattle.sim_core.specs.Replay.{IsHeadRead, IsHeadFault, IsReplayOutput}

-- reading stopped amid the head: behind each of the lines that were taken whole the head goes on, and what is held gives no answer yet
pub record IsAmidHead (input : List ℕ) (left : Option (List ℕ)) : Type 0 where
  pub whole : HasWholeLinesTaken input left
  pub goes_on : heads.AllGoOnBehind longest_line most_bytes 1 whole.lines
  pub no_answer : GivesNoAnswer longest_line (most_bytes - length (bytes_of whole.lines)) whole.held

-- what the sink holds before and after
module _ (input : List ℕ) (left_now written_then written_now : Option (List ℕ)) where
  -- the whole text was written that comes with this status
  pub record HasWrittenReplay (status : Status) : Type 0 where
    pub text : List ℕ
    pub due : IsReplayOutput input status text
    pub added : Adds written_then text written_now

  -- the whole run of the input was written; and if the source tells what it has left, that is nothing
  pub record IsReplayDone : Type 0 where
    pub at_end : IfSome left_now (λ bytes. bytes ≡ [])
    pub written : HasWrittenReplay Done

  -- the head was taken whole, and this became of the run that follows from it. Behind the head fewer than 4,096 bytes are held, and the source had the
  -- others left
  pub record IsBehindHead (Became : Cluster → Journal → Reading → List ℕ → Option (List ℕ) → Option (List ℕ) → Option (List ℕ) → Type 0) : Type 0 where
    pub bytes : List ℕ
    pub head : Head
    pub reading : Reading
    pub unread : List ℕ
    pub begun : IsHeadRead input bytes head reading.next reading.room
    pub longest : reading.longest ≡ longest_line
    pub parts : input ≡ bytes ++ (reading.held ++ unread)
    pub short : length reading.held < 4096
    pub became : Became head.cluster head.journal reading unread left_now written_then written_now

  -- the sink failed while the fault of the head was written
  pub record IsCutInRefusal : Type 0 where
    pub line : ℕ
    pub why : InputCause
    pub fault : IsHeadFault input line why
    pub front : AddsPrefix (refusal_text line why) written_then written_now

  -- the source failed, amid the head, where nothing was written, or behind it
  pub data HasReadFault : Type 0 where
    amid_head : IsAmidHead input left_now → written_now ≡ written_then → HasReadFault
    behind_head : IsBehindHead HasReadFailed → HasReadFault

  -- the sink failed
  pub data HasWriteFault : Type 0 where
    of_head : IsCutInRefusal → HasWriteFault
    of_run : IsBehindHead HasSinkFailed → HasWriteFault

  -- memory ran out before anything was written, or between two transitions
  pub data RanOutOfMemory : Type 0 where
    at_first : written_now ≡ written_then → RanOutOfMemory
    between_two : IsBehindHead HasNoMemory → RanOutOfMemory

  -- what each status says
  abbrev pub SaysLive : Status → Type 0
  SaysLive Done = IsReplayDone
  SaysLive NoMemory = RanOutOfMemory
  SaysLive Usage = ⊥
  SaysLive ReadFault = HasReadFault
  SaysLive WriteFault = HasWriteFault
  SaysLive Refused = HasWrittenReplay Refused
  SaysLive Unexpected = HasWrittenReplay Unexpected
  SaysLive TooLarge = HasWrittenReplay TooLarge
  SaysLive NotLawful = ⊥
