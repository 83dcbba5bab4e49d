-- Where everything goes: the target of each leaf on each node, and what role it holds by it (Pacemaker Explained, "Promotable Clones": what is promoted
-- is started too; the scope of an order is that of "interleave" there).
use Rattle.std.specs.Prelude.{ℕ, ◌&&◌, ◌+◌, ◌*◌, nat_lt, ◌==◌, if◌then◌else◌, ◌||◌, Bool, true, false, not, unwrap_or, length, slice_get, count_by}
use Rattle.std.specs.List.{range_with_len}
use Rattle.cluster_types.specs.declared.cluster.Cluster.{Cluster}
use Rattle.cluster_types.specs.declared.leaf.Role.{Role}
use Rattle.cluster_types.specs.declared.leaf.Role.TheVariants as role
use Rattle.cluster_types.specs.declared.placement.Table.{Table}
use Rattle.cluster_types.specs.declared.placement.Target.{Target}
use Rattle.cluster_types.specs.declared.placement.Target.TheVariants as target
use Rattle.cluster_types.specs.declared.rules.Order.{Order}

-- the target of leaf r on node n
abbrev pub Targets : Type 0
Targets = ℕ → ℕ → Target

-- what a table keeps, leaf by leaf and node by node. A cell that it doesn't have has no target
abbrev pub targets_of : Table → Targets
targets_of table r n = if nat_lt n table.nodes then unwrap_or (slice_get table.targets (r * table.nodes + n)) target.Nowhere else target.Nowhere

abbrev pub is_somewhere : Target → Bool
is_somewhere target.Nowhere = false
is_somewhere _ = true

abbrev pub is_promoted_target : Target → Bool
is_promoted_target target.Promoted = true
is_promoted_target _ = false

-- a leaf with this target holds the role: Started wherever it has one, and Promoted where it is to be promoted
abbrev pub target_holds : Target → Role → Bool
target_holds goal role.Started = is_somewhere goal
target_holds goal role.Promoted = is_promoted_target goal

-- the leaf holds the role on the node
abbrev pub holds_role : Targets → ℕ → Role → ℕ → Bool
holds_role table r role n = target_holds (table r n) role

-- the table with this target at one cell
abbrev pub with_cell : Targets → ℕ → ℕ → Target → Targets
with_cell table r n goal s m = if s == r && m == n then goal else table s m

-- how many leaves have a target on the node
abbrev pub load_of : Cluster → Targets → ℕ → ℕ
load_of c table n = count_by (λ r. is_somewhere (table r n)) (range_with_len 0 (length c.leaves))

-- node m is in the scope of an order at node n: any node, or of a local order the same
abbrev pub is_in_scope : Order → ℕ → ℕ → Bool
is_in_scope o n m = not o.local || n == m
