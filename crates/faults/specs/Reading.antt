-- What is read of an input, step by step, and what a call says of it.
use Rattle.std.specs.Prelude.{◌≡◌, ℕ, Option, Some, None, Result, Ok, Err}
use Rattle.faults.specs.declared.fault.Fault.{Fault}
use Rattle.faults.specs.declared.fault.Fault.TheVariants.{At, NoMemory}
use Rattle.faults.specs.declared.stop.Stop.{Stop}
use Rattle.faults.specs.declared.stop.Stop.TheVariants as stop

-- one step after another: the first that fails decides
infixl 10 ◌>>=◌
abbrev pub ◌>>=◌ : {A B E : Type 0} → Result A E → (A → Result B E) → Result B E
(Ok x) >>= f = f x
(Err error) >>= f = Err error

-- the answer, unless there is an error
abbrev pub unless : {A E : Type 0} → Option E → A → Result A E
unless None answer = Ok answer
unless (Some error) answer = Err error

-- a cause, at a line
abbrev pub on_line : {A C : Type 0} → ℕ → Result A C → Result A (Fault C)
on_line line (Ok x) = Ok x
on_line line (Err cause) = Err (At line cause)

-- the fault of a line, if it has a cause, and else a later one
abbrev pub fault_at : {C : Type 0} → ℕ → Option C → Option (Fault C) → Option (Fault C)
fault_at line (Some cause) later = Some (At line cause)
fault_at line None later = later

-- the fault of a line whose words aren't read
abbrev pub as_fault : {C : Type 0} → ℕ → Stop C → Fault C
as_fault line (stop.Cause cause) = At line cause
as_fault line stop.NoMemory = NoMemory

-- the same with each cause as another one
abbrev pub caused : {C D : Type 0} → (C → D) → Fault C → Fault D
caused cause_of (At line cause) = At line (cause_of cause)
caused cause_of NoMemory = NoMemory

abbrev pub faulting : {A C D : Type 0} → (C → D) → Result A (Fault C) → Result A (Fault D)
faulting cause_of (Ok x) = Ok x
faulting cause_of (Err fault) = Err (caused cause_of fault)

-- the second fault is the first with another cause, where this relation holds between the two causes
abbrev pub IsCaused : {C D : Type 0} → (C → D → Type 0) → Fault C → Fault D → Type 0
IsCaused Stands (At line cause) (At other why) = (line ≡ other) × Stands cause why
IsCaused Stands (At line cause) NoMemory = ⊥
IsCaused Stands NoMemory (At other why) = ⊥
IsCaused Stands NoMemory NoMemory = Unit {0}

-- what was returned, seen by view, is what is read
abbrev pub Reads : {A B E : Type 0} → (A → B) → Result A E → Result B E → Type 0
Reads view (Ok x) read = read ≡ Ok (view x)
Reads view (Err error) read = read ≡ Err error

-- this holds, unless memory ran out
abbrev pub UnlessMemory : {C : Type 0} → Fault C → Type 0 → Type 0
UnlessMemory (At line cause) holds = holds
UnlessMemory NoMemory holds = Unit {0}

-- what was returned is as the definition says, unless memory ran out
abbrev pub IsAsSaid : {A C : Type 0} → (Result A (Fault C) → Type 0) → Result A (Fault C) → Type 0
IsAsSaid says (Ok x) = says (Ok x)
IsAsSaid says (Err fault) = UnlessMemory fault (says (Err fault))

-- the same of a definition that computes: what was returned, seen by view, is what is read
abbrev pub Gives : {A B C : Type 0} → (A → B) → Result A (Fault C) → Result B (Fault C) → Type 0
Gives view given read = IsAsSaid (λ answer. Reads view answer read) given
