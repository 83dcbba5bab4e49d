-- Sets of names, name by name.
use Rattle.std.specs.Prelude.{ℕ, List, ◌∷◌, ◌++◌, if◌then◌else◌, []}
use Rattle.std.specs.List.{list_any}
use Rattle.crm_lex.specs.Names.{is}

-- one more name goes last, if it isn't one of them
abbrev pub with_name : List (List ℕ) → List ℕ → List (List ℕ)
with_name names name = if list_any (is name) names then names else names ++ name ∷ []
