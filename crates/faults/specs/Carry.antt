-- What becomes of a value that is carried past a step that may fail, by what was answered.
use Rattle.std.specs.Prelude.{◌≡◌, Result, Ok, Err}

-- the value beside what the step gave, or the step's error
abbrev pub IsWith : {A B E : Type 0} → A → Result B E → Result (A × B) E → Type 0
IsWith value step (Ok both) = (both.0 ≡ value) × (step ≡ Ok both.1)
IsWith value step (Err error) = step ≡ Err error

-- the value, where the step is done, or the step's error
abbrev pub IsDone : {A E : Type 0} → A → Result (Unit {0}) E → Result A E → Type 0
IsDone value step (Ok same) = (same ≡ value) × (step ≡ Ok tt)
IsDone value step (Err error) = step ≡ Err error
