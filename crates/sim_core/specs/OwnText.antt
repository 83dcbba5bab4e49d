-- What is written by a word that writes a text of the program's own.
use Rattle.std.specs.Prelude.{◌≡◌, ℕ, List}
use Rattle.sim_core.specs.declared.status.Status.{Status}
use Rattle.sim_core.specs.declared.status.Status.TheVariants.{Done}

-- the text is this one of the program's own, with the status of a word that has done its work
abbrev pub IsOwnText : List ℕ → Status → List ℕ → Type 0
IsOwnText own status text = (status ≡ Done) × (text ≡ own)
