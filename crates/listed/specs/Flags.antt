-- Lists of flags, one for each place (rule of this project).
use Rattle.std.specs.Prelude.{ℕ, Bool, false, List, slice_index_or}

-- the flag of the place is set. Past the end none is
abbrev pub is_marked : List Bool → ℕ → Bool
is_marked marks x = slice_index_or marks x false
