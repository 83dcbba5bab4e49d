-- Which statuses come with a text of their own (rule of this project).
use Rattle.sim_core.specs.declared.status.Status.{Status}
use Rattle.sim_core.specs.declared.status.Status.TheVariants.{Done, NoMemory, Usage, ReadFault, WriteFault, Refused, Unexpected, TooLarge, NotLawful}

-- a status that comes with a text of its own
abbrev pub IsOutcome : Status → Type 0
IsOutcome Done = Unit {0}
IsOutcome NoMemory = ⊥
IsOutcome Usage = ⊥
IsOutcome ReadFault = ⊥
IsOutcome WriteFault = ⊥
IsOutcome Refused = Unit {0}
IsOutcome Unexpected = Unit {0}
IsOutcome TooLarge = ⊥
IsOutcome NotLawful = Unit {0}
