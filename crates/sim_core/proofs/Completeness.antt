-- Where no count rose and the input has room, each answer but out of memory is the one that the input gets.
use Rattle.std.proofs.Common.{◌≡◌, ◌≢◌, ◌↔◌, ℕ, ◌≤◌, Option, Some, None, List, length, refl, subst, IfSome, arith}
use Rattle.cluster_io.specs.Streams.{Rose}
use Rattle.sim_core.specs.declared.status.Status.{Status}
use Rattle.sim_core.specs.declared.status.Status.TheVariants.{Done, NoMemory, Usage, ReadFault, WriteFault, TooLarge, NotLawful}
use Rattle.sim_core.specs.declared.words.Command.{Command}
use Rattle.sim_core.specs.declared.words.Command.TheVariants.{Replay, Gen, Help, Version}
use Rattle.sim_core.specs.Answers.{WordAnswers, InputHasRoom, IsCompleteAnswer, IsStatusDue, IsWritten, SaysBy, SaysOf, SaysOfInput, SaysOfSink, told_input}
use Rattle.sim_core.specs.LiveAnswers.{SaysLive, HasWrittenReplay}
use Rattle.input_reading.specs.Reading.{most_bytes}
use Rattle.sim_core.specs.Replay.{IsReplayOutput}
use Rattle.sim_core.specs.Commands.{Intake, nothing, whole_input, intake, Gets}
use Rattle.sim_core.proofs.OneOutput.{gets_one}

-- the answer is one that the input gets
module _ (Due : Status → List ℕ → Type 0) (input : List ℕ) (left before after : Option (List ℕ)) where
  written_due : (status : Status) → IsWritten Due status before after → IsStatusDue Due status
  written_due status written = record { text = written.text; due = written.due }

  -- it isn't too large
  abbrev NotLarge : Intake → Type 0
  NotLarge kind = SaysOfInput kind input left TooLarge → ⊥

  is_due : (kind : Intake) → NotLarge kind → (status : Status) → SaysOfInput kind input left status → SaysOfSink Due before after status
      → status ≢ NoMemory → status ≢ ReadFault → status ≢ WriteFault → IsStatusDue Due status
  is_due kind not_large NoMemory taken written memory read write = absurd (memory refl)
  is_due kind not_large ReadFault taken written memory read write = absurd (read refl)
  is_due kind not_large WriteFault taken written memory read write = absurd (write refl)
  is_due kind not_large TooLarge taken written memory read write = absurd (not_large taken)
  is_due kind not_large Usage taken written memory read write = absurd written
  is_due kind not_large status taken written memory read write = written_due status written

-- and so is that of a live word
module _ (input : List ℕ) (left before after : Option (List ℕ)) where
  live_written : (status : Status) → HasWrittenReplay input left before after status → IsStatusDue (IsReplayOutput input) status
  live_written status written = record { text = written.text; due = written.due }

  live_due : (status : Status) → SaysLive input left before after status → status ≢ NoMemory → status ≢ ReadFault → status ≢ WriteFault
      → IsStatusDue (IsReplayOutput input) status
  live_due Done says memory read write = live_written Done says.written
  live_due NotLawful says memory read write = absurd says
  live_due NoMemory says memory read write = absurd (memory refl)
  live_due ReadFault says memory read write = absurd (read refl)
  live_due WriteFault says memory read write = absurd (write refl)
  live_due Usage says memory read write = absurd says
  live_due status says memory read write = live_written status says

-- with each word
module _ (input : List ℕ) (left before after : Option (List ℕ)) (status : Status) (memory : status ≢ NoMemory) (read : status ≢ ReadFault) (write : status ≢ WriteFault) where
  -- one that reads its input to its end
  whole_due : (word : Command) → length input ≤ most_bytes → SaysOf whole_input (Gets word) input left before after status → IsStatusDue (Gets word input) status
  whole_due word room says =
      is_due (Gets word input) input left before after whole_input (λ taken. omega (arith, taken, room)) status says.taken says.written memory read write

  -- one that reads nothing
  free_due : (word : Command) → SaysOf nothing (Gets word) input left before after status → IsStatusDue (Gets word input) status
  free_due word says = is_due (Gets word input) input left before after nothing (λ taken. taken) status says.taken says.written memory read write

  word_due : (word : Command) → InputHasRoom (intake word) input → SaysBy (intake word) word input left before after status → IsStatusDue (Gets word input) status
  word_due Replay room says = live_due input left before after status says memory read write
  word_due (Gen number) room says = free_due (Gen number) says
  word_due Help room says = free_due Help says
  word_due Version room says = free_due Version says
  word_due word room says = whole_due word room says

-- and it is the only one
only_due : (word : Command) (input : List ℕ) (status : Status) → IsStatusDue (Gets word input) status → (due : Status) → (status ≡ due) ↔ IsStatusDue (Gets word input) due
only_due word input status is due =
    (λ same. subst (λ s. IsStatusDue (Gets word input) s) same is, λ other. (gets_one word input is.text other.text status due is.due other.due).0)

with_told : (word : Command) (found left before after : Option (List ℕ)) (status : Status)
    → IfSome found (λ input. SaysBy (intake word) word input left before after status) → status ≢ ReadFault → status ≢ WriteFault
    → IfSome found (λ input. InputHasRoom (intake word) input → status ≢ NoMemory → (due : Status) → (status ≡ due) ↔ IsStatusDue (Gets word input) due)
with_told word None left before after status says read write = tt
with_told word (Some input) left before after status says read write = λ room memory.
    only_due word input status (word_due input left before after status memory read write word room says)

pub complete : (word : Command) (told left before after : Option (List ℕ)) (status : Status) (reads_before reads_after writes_before writes_after : ℕ)
    → WordAnswers word told left before after status
    → (status ≡ ReadFault → Rose reads_before reads_after) → (status ≡ WriteFault → Rose writes_before writes_after)
    → ¬ Rose reads_before reads_after → ¬ Rose writes_before writes_after → IsCompleteAnswer word told status
complete word told left before after status _ _ _ _ says read_cause write_cause reads_quiet writes_quiet =
    with_told word (told_input (intake word) told) left before after status says (λ e. reads_quiet (read_cause e)) (λ e. writes_quiet (write_cause e))
