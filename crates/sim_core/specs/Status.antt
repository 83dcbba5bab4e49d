-- The exit statuses of the program.
use Rattle.std.specs.Prelude.{ℕ}
use Rattle.sim_core.specs.declared.status.Status.{Status}
use Rattle.sim_core.specs.declared.status.Status.TheVariants.{Done, NoMemory, Usage, ReadFault, WriteFault, Refused, Unexpected, TooLarge, NotLawful}

-- the number with which the program exits
abbrev pub code_of : Status → ℕ
code_of Done = 0
code_of NoMemory = 1
code_of Usage = 2
code_of ReadFault = 3
code_of WriteFault = 4
code_of Refused = 5
code_of Unexpected = 6
code_of TooLarge = 7
code_of NotLawful = 8
