-- How two values are compared.
use Rattle.std.specs.Prelude.{ℕ, Bool, List, Option, Some, unwrap_or}
use Rattle.std.specs.Option.{option_map, option_and_then}
use Rattle.std.specs.declared.cmp.Ordering.{Ordering}
use Rattle.std.specs.Ordering.{nat_cmp, int_cmp, is_lt, is_gt, is_le, is_ge, is_eq, is_ne}
use Rattle.std.specs.Cmp.Lexicographic.{slice_cmp}
use Rattle.date_rules.specs.declared.rule.Compare.{Compare}
use Rattle.date_rules.specs.declared.rule.Compare.TheVariants.{Lt, Gt, Lte, Gte, Eq, Ne}
use Rattle.date_rules.specs.declared.rule.Kind.{Kind}
use Rattle.date_rules.specs.declared.rule.Kind.TheVariants.{Auto, Number, Word}
use Rattle.date_rules.specs.WholeNumber.{whole_number}

-- a value that stands so to the wanted one passes
abbrev pub meets : Compare → Ordering → Bool
meets Lt order = is_lt order
meets Gt order = is_gt order
meets Lte order = is_le order
meets Gte order = is_ge order
meets Eq order = is_eq order
meets Ne order = is_ne order

-- the order of two texts as whole numbers, where both are
abbrev pub number_order : List ℕ → List ℕ → Option Ordering
number_order value wanted =
    option_and_then (λ n. option_map (λ m. int_cmp n m) (whole_number wanted)) (whole_number value)

-- the order of two texts as words, byte by byte
abbrev pub word_order : List ℕ → List ℕ → Ordering
word_order value wanted = slice_cmp nat_cmp value wanted

-- the order of a node's value and the wanted one, where they can be compared so
-- (Pacemaker Explained, "Node Attribute Expressions"; that Auto takes numbers first is a rule of this project)
abbrev pub value_order : Kind → List ℕ → List ℕ → Option Ordering
value_order Number value wanted = number_order value wanted
value_order Word value wanted = Some (word_order value wanted)
value_order Auto value wanted = Some (unwrap_or (number_order value wanted) (word_order value wanted))
