-- The directory that the code keeps: tables of what the names in a rule stand for.
use Rattle.std.specs.Prelude.{ℕ, ◌+◌, ◌==◌, nat_lt, ◌&&◌, ◌||◌, if◌then◌else◌, Bool, false, List, [], ◌∷◌, ◌++◌, length, map, slice_get, is_none, Option, Some, None}
use Rattle.std.specs.List.{flat_map}
use Rattle.std.specs.Option.{option_and_then, option_map_or}
use Rattle.crm_parse.specs.declared.form.Form.{Form}
use Rattle.crm_parse.specs.declared.form.Form.TheVariants as form
use Rattle.crm_parse.specs.declared.statement.Statement.{Statement}
use Rattle.cluster_types.specs.declared.leaf.Leaf.{Leaf}
use Rattle.cluster_model.specs.declared.expansion.leaves.Leaves.{Leaves}
use Rattle.cluster_model.specs.declared.expansion.leaves.Span.{Span}
use Rattle.cluster_model.specs.Settings.{node_names_in}
use Rattle.cluster_model.specs.Inner.Tables.{lookup}
use Rattle.cluster_model.specs.declared.resolution.directory.Directory.{Directory}
use Rattle.cluster_model.specs.declared.expansion.spans.Ends.{Ends}
use Rattle.cluster_model.specs.declared.resolution.directory.Traits.{Traits}
use Rattle.cluster_model.specs.Inner.Spans.{span}

-- names with their numbers, counted on from one
abbrev pub numbered_from : ℕ → List (List ℕ) → List (List ℕ × ℕ)
numbered_from n [] = []
numbered_from n (name ∷ names) = (name, n) ∷ numbered_from (n + 1) names

-- each node with its number, in the order of the text
abbrev pub nodes_of : List Statement → List (List ℕ × ℕ)
nodes_of statements = numbered_from 0 (flat_map (λ s. node_names_in s.form) statements)

abbrev pub span_ends : Span → Ends
span_ends span = record { first = span.first; last = span.last }

-- each resource with its first and its last leaf
abbrev pub resources_of : List Span → List (List ℕ × Ends)
resources_of spans = map (λ span. (span.name, span_ends span)) spans

abbrev pub members_in : Form → List (List ℕ)
members_in (form.Group id members description params meta) = members
members_in _ = []

-- the members of the groups of statements, each with the number of its statement, counted on from one
abbrev pub grouped_from : ℕ → List Statement → List (List ℕ × ℕ)
grouped_from n [] = []
grouped_from n (s ∷ statements) = map (λ member. (member, n)) (members_in s.form) ++ grouped_from (n + 1) statements

-- each member of a group, with the number of the statement of its group
abbrev pub groups_of : List Statement → List (List ℕ × ℕ)
groups_of statements = grouped_from 0 statements

abbrev pub traits_of : List (List ℕ × ℕ) → Leaf → Traits
traits_of groups leaf = record {
  promotable = leaf.promotable;
  cloned = leaf.cloned;
  interleave = leaf.interleave;
  group = lookup groups leaf.name;
}

-- who is who in a configuration
unfoldable pub directory_of : Leaves → List Statement → Directory
directory_of leaves statements = record {
  nodes = nodes_of statements;
  resources = resources_of leaves.spans;
  leaves = map (traits_of (groups_of statements)) leaves.leaves;
}

-- both ends are leaves
abbrev pub are_there : Directory → Ends → Bool
are_there d ends = nat_lt ends.first (length d.leaves) && nat_lt ends.last (length d.leaves)

-- the ends of a resource. One whose leaves aren't there isn't there itself (that happens only where the leaves are those of another configuration)
abbrev pub if_there : Directory → Ends → Option Ends
if_there d ends = if are_there d ends then Some ends else None

abbrev pub ends_in_directory : Directory → List ℕ → Option Ends
ends_in_directory d resource = option_and_then (if_there d) (lookup d.resources resource)

-- the names that aren't there
abbrev pub is_unknown : Directory → List ℕ → Bool
is_unknown d resource = is_none (ends_in_directory d resource)

abbrev pub is_unknown_node : Directory → List ℕ → Bool
is_unknown_node d node = is_none (lookup d.nodes node)

-- the number of a node, of the first leaf of a resource, and of its last. A name that isn't there would stand for number 0
abbrev pub node_named : Directory → List ℕ → ℕ
node_named d node = option_map_or (λ n. n) (lookup d.nodes node) 0

abbrev pub first_named : Directory → List ℕ → ℕ
first_named d resource = option_map_or (λ (ends : Ends). ends.first) (ends_in_directory d resource) 0

abbrev pub last_named : Directory → List ℕ → ℕ
last_named d resource = option_map_or (λ (ends : Ends). ends.last) (ends_in_directory d resource) 0

-- the leaf is there and may be promoted
abbrev pub may_promote : Directory → ℕ → Bool
may_promote d leaf = option_map_or (λ (traits : Traits). traits.promotable) (slice_get d.leaves leaf) false

-- both are members of one group
abbrev pub is_one_group : Option ℕ → Option ℕ → Bool
is_one_group (Some one) (Some other) = one == other
is_one_group _ _ = false

-- an order of two cloned leaves joins the copies on one node where the later one interleaves, or where both are in one group
abbrev pub joins_copies : Traits → Traits → Bool
joins_copies first later = first.cloned && later.cloned && (later.interleave || is_one_group first.group later.group)

abbrev pub are_joined : Option Traits → Option Traits → Bool
are_joined (Some first) (Some later) = joins_copies first later
are_joined _ _ = false

abbrev pub is_local_by : Directory → ℕ → ℕ → Bool
is_local_by d first later = are_joined (slice_get d.leaves first) (slice_get d.leaves later)
