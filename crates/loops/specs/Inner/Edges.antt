-- The needs and the links of a cluster as edges between positions (rule of this project).
use Rattle.std.specs.Prelude.{ℕ, ◌+◌, ◌*◌, ◌&&◌, Bool, List, length, map, filter, ◌++◌}
use Rattle.std.specs.List.{range_with_len}
use Rattle.edges.specs.declared.edge.Edge.{Edge}
use Rattle.cluster_types.specs.declared.cluster.Cluster.{Cluster}
use Rattle.cluster_types.specs.declared.leaf.Op.{Op}
use Rattle.cluster_types.specs.declared.leaf.Op.TheVariants as op
use Rattle.cluster_types.specs.declared.placement.Decision.{Decision}
use Rattle.cluster_types.specs.declared.placement.Decision.TheVariants.{Place, Promote}
use Rattle.cluster_types.specs.declared.rules.Colocation.{Colocation}
use Rattle.cluster_types.specs.Decisions.{decision_of}
use Rattle.loops.specs.FirstLoops.{with_first_orders}
use Rattle.cluster_types.specs.Numbers.{Link, LeafStep, is_step, is_within_phase, links}

-- two positions a leaf
abbrev pub decision_position : Decision → ℕ
decision_position (Promote r) = 2 * r
decision_position (Place r) = 2 * r + 1

abbrev pub need_edge : Decision → Decision → Edge
need_edge d e = record { before = decision_position d; after = decision_position e }

abbrev pub leaf_edge : ℕ → Edge
leaf_edge r = need_edge (Promote r) (Place r)

abbrev pub leaf_edges : ℕ → List Edge
leaf_edges leaves = map leaf_edge (range_with_len 0 leaves)

abbrev pub colocation_edge : Colocation → Edge
colocation_edge col = need_edge (decision_of col.dependent col.dependent_role) (decision_of col.primary col.primary_role)

-- the edges of all needs: one a leaf, and then one a colocation
abbrev pub need_edges : Cluster → List Edge
need_edges c = leaf_edges (length c.leaves) ++ map colocation_edge c.colocations

-- four positions a leaf. A monitor is no step
abbrev pub op_number : Op → ℕ
op_number op.Demote = 0
op_number op.Stop = 1
op_number op.Start = 2
op_number op.Promote = 3
op_number op.Monitor = 0

abbrev pub step_position : LeafStep → ℕ
step_position s = 4 * s.leaf + op_number s.what

abbrev pub link_edge : Link → Edge
link_edge l = record { before = step_position l.before; after = step_position l.after }

-- the link counts
abbrev pub counts_link : Cluster → Link → Bool
counts_link c l = is_within_phase l && is_step c l.before && is_step c l.after

-- the edges of those of some links that count
abbrev pub edges_of : Cluster → List Link → List Edge
edges_of c some = map link_edge (filter (counts_link c) some)

-- the edges of all links
abbrev pub step_edges : Cluster → List Edge
step_edges c = map link_edge (links c)

-- how many edges of links there are with the first order, with the first two, and so on
abbrev pub order_ends : Cluster → List ℕ
order_ends c = map (λ k. length (step_edges (with_first_orders c (k + 1)))) (range_with_len 0 (length c.orders))
