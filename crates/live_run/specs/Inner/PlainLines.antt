-- Lines that aren't joined to the next one. No public clause cites this module.
use Rattle.std.specs.Prelude.{◌==◌, if◌then◌else◌, Bool, true, false, List, [], ◌∷◌, ℕ}

-- a line feed comes, and no backslash before the first one
abbrev pub is_closed_line : List ℕ → Bool
is_closed_line [] = false
is_closed_line (b ∷ bs) = if b == 10 then true else if b == 92 then false else is_closed_line bs
