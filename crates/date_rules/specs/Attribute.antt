-- The attributes of a node.
use Rattle.std.specs.Prelude.{ℕ, nat_eq, Bool, if◌then◌else◌, List, Option, Some, codes, find}
use Rattle.std.specs.Cmp.Lexicographic.{pointwise}
use Rattle.std.specs.Option.{option_map}
use Rattle.date_rules.specs.declared.rule.Pair.{Pair}

-- two texts are the same, byte by byte
abbrev pub is_same_text : List ℕ → List ℕ → Bool
is_same_text = pointwise nat_eq

-- the value of a node's attribute: `#uname` is always the node's name, and of the written ones the first of each name counts
-- (Pacemaker Explained, "Node Attribute Expressions" and "Built-in Node Attributes"; the first of a name is a rule of this project)
abbrev pub attribute_value : List ℕ → List ℕ → List Pair → Option (List ℕ)
attribute_value name uname attributes =
    if is_same_text name (codes "#uname") then Some uname
    else option_map (λ pair. pair.value) (find (λ pair. is_same_text pair.name name) attributes)
