-- When a rule holds.
use Rattle.std.specs.Prelude.{ℕ, Bool, false, ◌&&◌, if◌then◌else◌, is_some, is_none, int_lt, int_le, pos, List}
use Rattle.std.specs.List.{list_all, list_any}
use Rattle.std.specs.Option.{option_map_or}
use Rattle.date_rules.specs.declared.rule.Compare.{Compare}
use Rattle.date_rules.specs.declared.rule.Kind.{Kind}
use Rattle.date_rules.specs.declared.rule.Pair.{Pair}
use Rattle.date_rules.specs.declared.rule.Test.{Test}
use Rattle.date_rules.specs.declared.rule.Test.TheVariants.{Attribute, Defined, NotDefined, Before, After, Within}
use Rattle.date_rules.specs.declared.rule.Rule.{Rule}
use Rattle.date_rules.specs.Attribute.{attribute_value}
use Rattle.date_rules.specs.Compare.{meets, value_order}

-- a value passes the comparison; two values that can't be compared so don't
abbrev pub compares : Compare → Kind → List ℕ → List ℕ → Bool
compares compare kind value wanted = option_map_or (meets compare) (value_order kind value wanted) false

-- a test passes at a node and a moment; a comparison with an attribute that the node doesn't have does not
-- (Pacemaker Explained, "Node Attribute Expressions" and "Date/Time Expressions")
abbrev pub passes : Test → List ℕ → List Pair → ℕ → Bool
passes (Attribute name compare kind wanted) uname attributes moment =
    option_map_or (λ value. compares compare kind value wanted) (attribute_value name uname attributes) false
passes (Defined name) uname attributes moment = is_some (attribute_value name uname attributes)
passes (NotDefined name) uname attributes moment = is_none (attribute_value name uname attributes)
passes (Before at) uname attributes moment = int_lt (pos moment) at
passes (After at) uname attributes moment = int_lt at (pos moment)
passes (Within start end) uname attributes moment = int_le start (pos moment) && int_le (pos moment) end

-- a rule holds at a node and a moment: all tests pass where it joins them by "and", else one does
-- (Pacemaker Explained, "Rule Properties")
unfoldable pub holds : Rule → List ℕ → List Pair → ℕ → Bool
holds rule uname attributes moment =
    if rule.all then list_all (λ test. passes test uname attributes moment) rule.tests
    else list_any (λ test. passes test uname attributes moment) rule.tests
