-- The meta attributes of a resource that have effect (Pacemaker Explained, "Resource Meta-Attributes"). A value that isn't one of its kind
-- counts as none; a configuration that was parsed has no such value (rule of this project).
use Rattle.std.specs.Prelude.{ℕ, List, Option, None, [], ◌∷◌}
use Rattle.std.specs.Option.{option_and_then, option_or}
use Rattle.crm_parse.specs.declared.pair.Kv.{Kv}
use Rattle.crm_parse.specs.Operations.{value_of}

-- what a key is given as, by a reader of its values
abbrev pub read_as : {V : Type 0} → (List ℕ → Option V) → List ℕ → List Kv → Option V
read_as reader key pairs = option_and_then reader (value_of key pairs)

-- what the first of these that gives a key gives, by a reader of its values
abbrev pub first_given : {V : Type 0} → (List ℕ → Option V) → List ℕ → List (List Kv) → Option V
first_given reader key [] = None
first_given reader key (pairs ∷ others) = option_or (read_as reader key pairs) (first_given reader key others)
