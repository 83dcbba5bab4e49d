-- What the names in a rule stand for (crmsh manual, location, colocation and order; Pacemaker Explained, "Clones", interleave). What isn't there has
-- number 0; a rule that names it is at fault (rule of this project).
use Rattle.std.specs.Prelude.{ℕ, nat_lt, ◌&&◌, ◌||◌, if◌then◌else◌, Bool, false, List, length, find, slice_get, is_none, unwrap_or, Option, Some, None}
use Rattle.std.specs.List.{flat_map, list_any, position_from}
use Rattle.std.specs.Option.{option_and_then, option_map_or}
use Rattle.crm_lex.specs.Names.{is}
use Rattle.crm_parse.specs.declared.statement.Statement.{Statement}
use Rattle.cluster_types.specs.declared.leaf.Leaf.{Leaf}
use Rattle.cluster_model.specs.declared.expansion.leaves.Leaves.{Leaves}
use Rattle.cluster_model.specs.declared.expansion.leaves.Span.{Span}
use Rattle.cluster_model.specs.Resources.{Group, all_groups}
use Rattle.cluster_model.specs.Settings.{node_names_in}

-- the place of a node among the nodes, which is its number
abbrev pub place_of_node : List Statement → List ℕ → Option ℕ
place_of_node statements name = position_from (is name) 0 (flat_map (λ s. node_names_in s.form) statements)

-- its number, and 0 where it isn't there
abbrev pub node_number : List Statement → List ℕ → ℕ
node_number statements name = unwrap_or (place_of_node statements name) 0

-- the span is among these leaves, as it always is in what `expand` gives
abbrev pub has_leaves : Leaves → Span → Bool
has_leaves leaves span = nat_lt span.first (length leaves.leaves) && nat_lt span.last (length leaves.leaves)

-- a resource with its first and its last leaf
abbrev pub span_named : Leaves → List ℕ → Option Span
span_named leaves resource =
    option_and_then (λ (span : Span). if has_leaves leaves span then Some span else None) (find (λ (span : Span). is resource span.name) leaves.spans)

abbrev pub is_missing : Leaves → List ℕ → Bool
is_missing leaves resource = is_none (span_named leaves resource)

-- the first leaf of a resource, which for a clone is that of its child; and the last
abbrev pub first_leaf : Leaves → List ℕ → ℕ
first_leaf leaves resource = option_map_or (λ (span : Span). span.first) (span_named leaves resource) 0

abbrev pub last_leaf : Leaves → List ℕ → ℕ
last_leaf leaves resource = option_map_or (λ (span : Span). span.last) (span_named leaves resource) 0

-- the leaf is there and may be promoted
abbrev pub promotes : Leaves → ℕ → Bool
promotes leaves number = option_map_or (λ (leaf : Leaf). leaf.promotable) (slice_get leaves.leaves number) false

-- both are members of one group: the first group that has the one or the other has both
abbrev pub in_one_group : List Statement → List ℕ → List ℕ → Bool
in_one_group statements one other =
    option_map_or (λ (group : Group). list_any (is one) group.members && list_any (is other) group.members)
    (find (λ (group : Group). list_any (is one) group.members || list_any (is other) group.members) (all_groups statements)) false

-- an order of two cloned leaves is local, so joins the copies on one node, where the later one interleaves, or where both are in one group
abbrev pub is_local_between : List Statement → Option Leaf → Option Leaf → Bool
is_local_between statements (Some first) (Some later) =
    first.cloned && later.cloned && (later.interleave || in_one_group statements first.name later.name)
is_local_between statements _ _ = false

-- the same of two leaves by their numbers
abbrev pub is_local : Leaves → List Statement → ℕ → ℕ → Bool
is_local leaves statements first later = is_local_between statements (slice_get leaves.leaves first) (slice_get leaves.leaves later)
