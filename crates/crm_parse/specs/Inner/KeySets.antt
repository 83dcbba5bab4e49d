-- Keys in a set, beside the list that they come from.
use Rattle.std.specs.Prelude.{◌≡◌, ℕ, List}
use Rattle.std.specs.List.{list_any}
use Rattle.crm_lex.specs.Names.{is}
use Rattle.crm_lex.specs.NameSets.{has_name}
use Rattle.crm_parse.specs.declared.pair.Kv.{Kv}

-- the set has the keys of the pairs, and no other
abbrev pub HasKeysOf : List (List ℕ) → List Kv → Type 0
HasKeysOf keys pairs = (key : List ℕ) → has_name keys key ≡ list_any (λ pair. is pair.key key) pairs

-- the set has these names, and no other
abbrev pub HasNamesOf : List (List ℕ) → List (List ℕ) → Type 0
HasNamesOf known names = (name : List ℕ) → has_name known name ≡ list_any (λ each. is each name) names
