-- What names stand for: rows in the order in which they are given. The first row of a name counts.
use Rattle.std.specs.Prelude.{ℕ, List, Option}
use Rattle.std.specs.Map as std_map
use Rattle.crm_lex.specs.Names.{is}

-- what a name stands for
abbrev pub lookup : {V : Type 0} → List (List ℕ × V) → List ℕ → Option V
lookup rows name = std_map.lookup (is name) rows
