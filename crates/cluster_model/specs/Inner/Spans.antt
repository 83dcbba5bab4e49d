-- The spans as the code makes them: by a table of the numbers of leaves, and one of the ends of groups.
use Rattle.std.specs.Prelude.{ℕ, ◌+◌, ◌-◌, List, [], ◌∷◌, length, slice_get, unwrap_or, Option}
use Rattle.std.specs.List.{flat_map}
use Rattle.std.specs.Option.{option_map_or}
use Rattle.crm_parse.specs.declared.form.Form.{Form}
use Rattle.crm_parse.specs.declared.form.Form.TheVariants as form
use Rattle.crm_parse.specs.declared.statement.Statement.{Statement}
use Rattle.cluster_types.specs.declared.leaf.Leaf.{Leaf}
use Rattle.cluster_model.specs.declared.expansion.leaves.Span.{Span}
use Rattle.cluster_model.specs.declared.expansion.spans.Ends.{Ends}
use Rattle.cluster_model.specs.Inner.Tables.{lookup}

-- the name of each leaf with its number, counted on from one
abbrev pub numbers_from : ℕ → List Leaf → List (List ℕ × ℕ)
numbers_from n [] = []
numbers_from n (leaf ∷ leaves) = (leaf.name, n) ∷ numbers_from (n + 1) leaves

abbrev pub numbers_of : List Leaf → List (List ℕ × ℕ)
numbers_of leaves = numbers_from 0 leaves

abbrev pub number : List (List ℕ × ℕ) → List ℕ → ℕ
number numbers name = unwrap_or (lookup numbers name) 0

abbrev pub number_of : List (List ℕ × ℕ) → Option (List ℕ) → ℕ
number_of numbers name = option_map_or (number numbers) name 0

-- the first and the last member of a group
abbrev pub ends_of : List (List ℕ × ℕ) → List (List ℕ) → Ends
ends_of numbers members = record {
  first = number_of numbers (slice_get members 0);
  last = number_of numbers (slice_get members (length members - 1));
}

abbrev pub group_ends_in : List (List ℕ × ℕ) → Form → List (List ℕ × Ends)
group_ends_in numbers (form.Group id members description params meta) = (id, ends_of numbers members) ∷ []
group_ends_in numbers _ = []

-- each group with its ends
abbrev pub ends_by : List (List ℕ × ℕ) → List Statement → List (List ℕ × Ends)
ends_by numbers statements = flat_map (λ s. group_ends_in numbers s.form) statements

-- the ends of a group, or of a primitive, which is its own first and last leaf
abbrev pub ends_named : List (List ℕ × ℕ) → List (List ℕ × Ends) → List ℕ → Ends
ends_named numbers groups name =
    unwrap_or (lookup groups name) (record { first = number numbers name; last = number numbers name })

abbrev pub span : List ℕ → Ends → Span
span name ends = record { name = name; first = ends.first; last = ends.last }

abbrev pub span_in : List (List ℕ × ℕ) → List (List ℕ × Ends) → Form → List Span
span_in numbers groups (form.Primitive id agent description params meta utilization operations ops) =
    span id (ends_named numbers groups id) ∷ []
span_in numbers groups (form.Group id members description params meta) = span id (ends_named numbers groups id) ∷ []
span_in numbers groups (form.Cloned id child ms description params meta) = span id (ends_named numbers groups child) ∷ []
span_in numbers groups _ = []

abbrev pub spans_in : List (List ℕ × ℕ) → List (List ℕ × Ends) → List Statement → List Span
spans_in numbers groups statements = flat_map (λ s. span_in numbers groups s.form) statements

-- each resource has a span, in the order of the text
unfoldable pub spans_of : List Leaf → List Statement → List Span
spans_of leaves statements =
    let numbers = numbers_of leaves in spans_in numbers (ends_by numbers statements) statements
