-- The order of faults: by their lines, and on one line by their causes (rule of this project).
use Rattle.std.specs.Prelude.{◌≡◌, ℕ, ◌<◌, ◌≤◌, ◌⊎◌}
use Rattle.crm_lex.specs.declared.fault.LexCause.{LexCause}
use Rattle.crm_lex.specs.declared.fault.LexCause.TheVariants.{NotUtf8, ControlByte, OpenQuote, LineTooLong}
use Rattle.faults.specs.declared.fault.Fault.{Fault}
use Rattle.faults.specs.declared.fault.Fault.TheVariants.{At, NoMemory}

abbrev pub fault_rank : LexCause → ℕ
fault_rank LineTooLong = 0
fault_rank NotUtf8 = 1
fault_rank ControlByte = 2
fault_rank OpenQuote = 3

-- a fault at this line of this cause doesn't come after that one
abbrev pub NotAfter : ℕ → LexCause → Fault LexCause → Type 0
NotAfter n cause (At m other) = (n < m) ⊎ ((n ≡ m) × (fault_rank cause ≤ fault_rank other))
NotAfter n cause NoMemory = ⊥
