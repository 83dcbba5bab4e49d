-- What the top call answers, what it has read and written by then, and what the answer has to be.
use Rattle.std.specs.Prelude.{◌≡◌, ◌≢◌, ◌↔◌, ◌⊎◌, ℕ, ◌<◌, ◌≤◌, Bool, true, false, Option, Some, None, List, [], length, IfSome}
use Rattle.cluster_io.specs.Streams.{Adds, AddsPrefix}
use Rattle.sim_core.specs.declared.status.Status.{Status}
use Rattle.sim_core.specs.declared.status.Status.TheVariants.{Done, NoMemory, Usage, ReadFault, WriteFault, Refused, Unexpected, TooLarge, NotLawful}
use Rattle.sim_core.specs.declared.words.Command.{Command}
use Rattle.sim_core.specs.LiveAnswers.{SaysLive}
use Rattle.input_reading.specs.Reading.{most_bytes}
use Rattle.sim_core.specs.Commands.{Intake, nothing, whole_input, live, intake, takes_memory, Gets}

-- the input was read to its end, and had room
pub record IsReadWhole (input : List ℕ) (left : Option (List ℕ)) : Type 0 where
  pub room : length input ≤ most_bytes
  pub at_end : left ≡ Some []

-- what each status says of the input of a word that reads it to its end, and of what is left of it. The line of `Usage` is never used: `SaysOfSink`
-- says that no such word ends so
abbrev pub SaysOfWholeInput : List ℕ → Option (List ℕ) → Status → Type 0
SaysOfWholeInput input left Done = IsReadWhole input left
SaysOfWholeInput input left NoMemory = Unit {0}
SaysOfWholeInput input left Usage = IsReadWhole input left
SaysOfWholeInput input left ReadFault = Unit {0}
SaysOfWholeInput input left WriteFault = IsReadWhole input left
SaysOfWholeInput input left Refused = IsReadWhole input left
SaysOfWholeInput input left Unexpected = IsReadWhole input left
SaysOfWholeInput input left TooLarge = most_bytes < length input
SaysOfWholeInput input left NotLawful = IsReadWhole input left

-- with a word that reads nothing no read fails, and no input is too large
abbrev pub SaysOfNoInput : Status → Type 0
SaysOfNoInput Done = Unit {0}
SaysOfNoInput NoMemory = Unit {0}
SaysOfNoInput Usage = Unit {0}
SaysOfNoInput ReadFault = ⊥
SaysOfNoInput WriteFault = Unit {0}
SaysOfNoInput Refused = Unit {0}
SaysOfNoInput Unexpected = Unit {0}
SaysOfNoInput TooLarge = ⊥
SaysOfNoInput NotLawful = Unit {0}

-- what a status says of the input, and of what is left of it. Of a live word this is said together with what is written
abbrev pub SaysOfInput : Intake → List ℕ → Option (List ℕ) → Status → Type 0
SaysOfInput nothing input left status = SaysOfNoInput status
SaysOfInput whole_input input left status = SaysOfWholeInput input left status
SaysOfInput live input left status = Unit {0}

-- where the input gets these statuses with these texts
module _ (Due : Status → List ℕ → Type 0) where
  -- its whole text was written
  pub record IsWritten (status : Status) (before after : Option (List ℕ)) : Type 0 where
    pub text : List ℕ
    pub due : Due status text
    pub added : Adds before text after

  -- writing its text was cut short
  pub record IsCutShort (before after : Option (List ℕ)) : Type 0 where
    pub status : Status
    pub text : List ℕ
    pub due : Due status text
    pub part : AddsPrefix text before after

  -- the input gets this status
  pub record IsStatusDue (status : Status) : Type 0 where
    pub text : List ℕ
    pub due : Due status text

  -- what a status says of what the sink holds before and after
  abbrev pub SaysOfSink : Option (List ℕ) → Option (List ℕ) → Status → Type 0
  SaysOfSink before after Done = IsWritten Done before after
  SaysOfSink before after NoMemory = (status : Status) (text : List ℕ) → Due status text → AddsPrefix text before after
  SaysOfSink before after Usage = ⊥
  SaysOfSink before after ReadFault = after ≡ before
  SaysOfSink before after WriteFault = IsCutShort before after
  SaysOfSink before after Refused = IsWritten Refused before after
  SaysOfSink before after Unexpected = IsWritten Unexpected before after
  SaysOfSink before after TooLarge = after ≡ before
  SaysOfSink before after NotLawful = IsWritten NotLawful before after

-- for a word with this intake, which gives an input a status and a text
module _ (kind : Intake) (Output : List ℕ → Status → List ℕ → Type 0) where
  -- what the answer says of an input, of what is left of it, and of what the sink holds before and after
  pub record SaysOf (input : List ℕ) (left before after : Option (List ℕ)) (status : Status) : Type 0 where
    pub taken : SaysOfInput kind input left status
    pub written : SaysOfSink (Output input) before after status

  -- some input that has room gets this status
  pub record SomeInput (status : Status) : Type 0 where
    pub input : List ℕ
    pub room : length input ≤ most_bytes
    pub due : IsStatusDue (Output input) status

-- the input of a word, where it is told: all bytes that the source has left; with a word that reads nothing it is told, and has no bytes
abbrev pub told_input : Intake → Option (List ℕ) → Option (List ℕ)
told_input nothing left = Some []
told_input whole_input left = left
told_input live left = left

-- what the answer to a word with this intake says of its input
abbrev pub SaysBy : Intake → Command → List ℕ → Option (List ℕ) → Option (List ℕ) → Option (List ℕ) → Status → Type 0
SaysBy nothing word input left before after status = SaysOf nothing (Gets word) input left before after status
SaysBy whole_input word input left before after status = SaysOf whole_input (Gets word) input left before after status
SaysBy live word input left before after status = SaysLive input left before after status

-- what the answer to a word says, where its input is told
abbrev pub WordAnswers : Command → Option (List ℕ) → Option (List ℕ) → Option (List ℕ) → Option (List ℕ) → Status → Type 0
WordAnswers word told left before after status =
    IfSome (told_input (intake word) told) (λ input. SaysBy (intake word) word input left before after status)

-- a word that reads an input to its end before it writes gives a text of one that has room. A live word gives one of each input
abbrev pub InputHasRoom : Intake → List ℕ → Type 0
InputHasRoom nothing input = length input ≤ most_bytes
InputHasRoom whole_input input = length input ≤ most_bytes
InputHasRoom live input = Unit {0}

-- where the input has room, each answer but out of memory is the one that the input gets (run says this where no count rose)
abbrev pub IsCompleteAnswer : Command → Option (List ℕ) → Status → Type 0
IsCompleteAnswer word told status = IfSome (told_input (intake word) told) (λ input. InputHasRoom (intake word) input → status ≢ NoMemory
    → (due : Status) → (status ≡ due) ↔ IsStatusDue (Gets word input) due)

abbrev pub reads_some : Intake → Bool
reads_some nothing = false
reads_some whole_input = true
reads_some live = true

-- a word may have this status with its text: some input gets it. Of a live word nothing is asked here
abbrev pub MayGiveStatus : Intake → (List ℕ → Status → List ℕ → Type 0) → Status → Type 0
MayGiveStatus nothing Output status = SomeInput nothing Output status
MayGiveStatus whole_input Output status = SomeInput whole_input Output status
MayGiveStatus live Output status = Unit {0}

-- a word may find that a run isn't lawful: some input gets this. A live word judges none
abbrev pub MayJudge : Intake → (List ℕ → Status → List ℕ → Type 0) → Type 0
MayJudge nothing Output = SomeInput nothing Output NotLawful
MayJudge whole_input Output = SomeInput whole_input Output NotLawful
MayJudge live Output = ⊥

-- a status that a call may have whatever its source and its sink tell: it may fail to read, to write or for memory, or find the input too large; and it may
-- have a status with a text that some input gets
abbrev pub MayAnswer : Bool → Intake → (List ℕ → Status → List ℕ → Type 0) → Status → Type 0
MayAnswer memory kind Output Done = MayGiveStatus kind Output Done
MayAnswer memory kind Output NoMemory = memory ≡ true
MayAnswer memory kind Output Usage = ⊥
MayAnswer memory kind Output ReadFault = reads_some kind ≡ true
MayAnswer memory kind Output WriteFault = Unit {0}
MayAnswer memory kind Output Refused = MayGiveStatus kind Output Refused
MayAnswer memory kind Output Unexpected = MayGiveStatus kind Output Unexpected
MayAnswer memory kind Output TooLarge = reads_some kind ≡ true
MayAnswer memory kind Output NotLawful = MayJudge kind Output

-- a status of a word
abbrev pub IsStatusOf : Command → Status → Type 0
IsStatusOf word status = MayAnswer (takes_memory word) (intake word) (Gets word) status

-- a status that comes before anything is written, with a word that reads an input to its end
abbrev pub IsEarly : Status → Type 0
IsEarly status = (status ≡ ReadFault) ⊎ ((status ≡ TooLarge) ⊎ (status ≡ NoMemory))

-- the words are those of a word that reads an input to its end
abbrev pub ReadsWhole : Option Command → Type 0
ReadsWhole None = ⊥
ReadsWhole (Some word) = intake word ≡ whole_input

-- the words are those of a word that reads line by line while it writes
abbrev pub ReadsLive : Option Command → Type 0
ReadsLive None = ⊥
ReadsLive (Some word) = intake word ≡ live

-- the words are those of a word that reads, whole or line by line
abbrev pub ReadsSomething : Option Command → Type 0
ReadsSomething None = ⊥
ReadsSomething (Some word) = reads_some (intake word) ≡ true

-- the words are those of a word that reads nothing, or no form
abbrev pub ReadsNothing : Option Command → Type 0
ReadsNothing None = Unit {0}
ReadsNothing (Some word) = intake word ≡ nothing
