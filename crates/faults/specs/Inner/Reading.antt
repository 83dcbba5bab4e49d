-- What a call says of what is read within a line.
use Rattle.std.specs.Prelude.{◌≡◌, Result, Ok, Err}
use Rattle.faults.specs.declared.fault.Fault.TheVariants.{NoMemory}
use Rattle.faults.specs.declared.stop.Stop.{Stop}
use Rattle.faults.specs.declared.stop.Stop.TheVariants as stop

-- what stopped it is the cause that is read, unless memory ran out
abbrev pub IsCause : {A C : Type 0} → Stop C → Result A C → Type 0
IsCause (stop.Cause cause) read = read ≡ Err cause
IsCause stop.NoMemory read = Unit {0}

-- what was returned, seen by view, is what is read, where the definition says causes alone
abbrev pub GivesInLine : {A B C : Type 0} → (A → B) → Result A (Stop C) → Result B C → Type 0
GivesInLine view (Ok x) read = read ≡ Ok (view x)
GivesInLine view (Err stop) read = IsCause stop read
