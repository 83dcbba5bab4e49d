-- Which nodes a decision chooses (Pacemaker Explained, "Allocation Details"; the order among equals is a rule of this project).
use Rattle.std.specs.Prelude.{ℕ, min, nat_lt, nat_le, ◌==◌, ◌&&◌, ◌||◌, Bool, true, false, not, if◌then◌else◌, ℤ, pos, int_lt, int_le, List, [], ◌∷◌, length, map, filter, fold, count_by}
use Rattle.std.specs.List.{list_all, range_with_len}
use Rattle.std.specs.Ordering.{int_eq}
use Rattle.score.specs.Total.{infinity, total_of, minus_infinity}
use Rattle.cluster_types.specs.declared.cluster.Cluster.{Cluster}
use Rattle.cluster_types.specs.declared.journal.Event.{Event}
use Rattle.cluster_types.specs.declared.journal.Promotion.{Promotion}
use Rattle.cluster_types.specs.declared.leaf.TargetRole.{TargetRole}
use Rattle.cluster_types.specs.declared.leaf.TargetRole.TheVariants as target_role
use Rattle.cluster_types.specs.declared.placement.Decision.{Decision}
use Rattle.cluster_types.specs.declared.placement.Decision.TheVariants.{Place, Promote}
use Rattle.cluster_types.specs.declared.placement.Target.{Target}
use Rattle.cluster_types.specs.declared.placement.Target.TheVariants as target
use Rattle.cluster_types.specs.declared.rules.Colocation.{Colocation}
use Rattle.cluster_types.specs.declared.states.CellState.{CellState}
use Rattle.cluster_types.specs.declared.states.CellState.TheVariants as cell
use Rattle.cluster_types.specs.CellStates.{cell_state}
use Rattle.cluster_types.specs.Decisions.{leaf_of, is_same_decision, decision_of}
use Rattle.cluster_types.specs.Each.{implies}
use Rattle.cluster_types.specs.Failures.{is_fail_stopped}
use Rattle.cluster_types.specs.Fields.{copies, promoted_copies, target_role_of}
use Rattle.cluster_types.specs.NodeStates.{is_usable}
use Rattle.cluster_types.specs.Rights.{may_start, may_keep}
use Rattle.cluster_types.specs.Tables.{Targets, holds_role, is_somewhere, load_of}
use Rattle.cluster_types.specs.Terms.{active_count, base}

-- the decision gives the dependent of the colocation its role
abbrev pub is_dependent : Decision → Colocation → Bool
is_dependent d col = is_same_decision d (decision_of col.dependent col.dependent_role)

-- the decision gives the primary its role
abbrev pub is_primary : Decision → Colocation → Bool
is_primary d col = is_same_decision d (decision_of col.primary col.primary_role)

-- of INFINITY (Pacemaker calls one of -INFINITY mandatory too; here that is a separation)
abbrev pub is_mandatory : Colocation → Bool
is_mandatory col = int_eq col.score infinity

abbrev pub is_separation : Colocation → Bool
is_separation col = int_eq col.score minus_infinity

abbrev pub is_finite_colocation : Colocation → Bool
is_finite_colocation col = not (is_mandatory col) && not (is_separation col)

-- what runs may stay in its cell, by the state of the cell
abbrev pub is_kept_by : Decision → CellState → Bool
is_kept_by (Place r) cell.On = true
is_kept_by (Place r) cell.Promoted = true
is_kept_by (Promote r) cell.Promoted = true
is_kept_by _ _ = false

abbrev pub is_stopped_role : TargetRole → Bool
is_stopped_role target_role.Stopped = true
is_stopped_role _ = false

abbrev pub is_unpromoted_role : TargetRole → Bool
is_unpromoted_role target_role.Unpromoted = true
is_unpromoted_role _ = false

-- how many nodes a decision chooses at most: the copies of the leaf, or for a promotion its promoted copies if they are fewer; none where target-role
-- forbids the role, or, for a place, where a failure keeps the leaf stopped everywhere (Pacemaker Explained, "target-role", "clone-max", "promoted-max")
abbrev pub cap_of : Cluster → List Event → Decision → ℕ
cap_of c es (Place r) = if is_stopped_role (target_role_of c r) || is_fail_stopped c r es then 0 else copies c r
cap_of c es (Promote r) =
    if is_stopped_role (target_role_of c r) || is_unpromoted_role (target_role_of c r) then 0 else min (copies c r) (promoted_copies c r)

-- what one colocation says, with the table so far
module _ (table : Targets) where
  -- the decision gives the dependent of the colocation its role on the node, where the primary holds its own
  abbrev pub would_join_primary : Decision → ℕ → Colocation → Bool
  would_join_primary d n col = is_dependent d col && holds_role table col.primary col.primary_role n

  -- it gives the primary its role on the node, where the dependent holds its own
  abbrev pub would_join_dependent : Decision → ℕ → Colocation → Bool
  would_join_dependent d n col = is_primary d col && holds_role table col.dependent col.dependent_role n

-- what all colocations say
module _ (c : Cluster) (table : Targets) where
  -- the total of the finite colocations of a decision whose primary holds its role on the node
  abbrev pub preference : Decision → ℕ → ℤ
  preference d n =
      total_of (map (λ (col : Colocation). col.score) (filter (λ col. is_finite_colocation col && is_dependent d col && holds_role table col.primary col.primary_role n) c.colocations))

  -- the primary of each mandatory colocation of the decision holds its role on the node
  abbrev pub has_primaries : Decision → ℕ → Bool
  has_primaries d n =
      list_all (λ col. implies (is_mandatory col && is_dependent d col) (holds_role table col.primary col.primary_role n)) c.colocations

  -- for each separation, the decision gives neither side its role where the other has its own
  abbrev pub is_apart : Decision → ℕ → Bool
  is_apart d n = list_all (λ col. implies (is_separation col) (not (would_join_primary table d n col) && not (would_join_dependent table d n col))) c.colocations

-- a leaf is promoted only where it is placed
abbrev pub is_placed_for : Targets → Decision → ℕ → Bool
is_placed_for table (Place r) n = true
is_placed_for table (Promote r) n = is_somewhere (table r n)

-- the cluster may start resources; or it may keep what runs, the cell has the role already, and its leaf is active in no more cells than it has copies
-- (Pacemaker Explained, "no-quorum-policy"; the bound by copies is a rule of this project)
abbrev pub is_permitted : Cluster → List Event → Decision → ℕ → Bool
is_permitted c es d n =
    may_start c es
    || may_keep c es && is_kept_by d (cell_state c (leaf_of d) n es) && nat_le (active_count c es (leaf_of d)) (copies c (leaf_of d))

module _ (c : Cluster) (es : List Event) (promotions : List Promotion) (table : Targets) where
  -- the total of a decision on a node, with the table so far: that of two totals (rule of this project)
  abbrev pub total_on : Decision → ℕ → ℤ
  total_on d n = total_of (base c es promotions d n ∷ preference c table d n ∷ [])

  -- the node may be chosen
  abbrev pub is_candidate : Decision → ℕ → Bool
  is_candidate d n =
      is_usable c n es && is_permitted c es d n && int_le (pos 0) (total_on d n) && has_primaries c table d n && is_apart c table d n
      && is_placed_for table d n

  -- node n is better than node m: a greater total, then fewer leaves with a target there so far, then the earlier node
  abbrev pub is_better : Decision → ℕ → ℕ → Bool
  is_better d n m =
      int_lt (total_on d m) (total_on d n)
      || int_eq (total_on d n) (total_on d m)
      && (nat_lt (load_of c table n) (load_of c table m) || load_of c table n == load_of c table m && nat_lt n m)

  -- the node is chosen: it is a candidate, and fewer candidates than the cap go before it
  abbrev pub is_chosen : Decision → ℕ → Bool
  is_chosen d n =
      is_candidate d n
      && nat_lt (count_by (λ m. is_candidate d m && is_better d m n) (range_with_len 0 (length c.nodes))) (cap_of c es d)

-- what a decision makes of a chosen cell
abbrev pub target_by : Decision → Target
target_by (Place r) = target.Started
target_by (Promote r) = target.Promoted

-- the table after one more decision, and after some
abbrev pub after_decision : Cluster → List Event → List Promotion → Targets → Decision → Targets
after_decision c es promotions table d r n =
    if r == leaf_of d && nat_lt n (length c.nodes) && is_chosen c es promotions table d n then target_by d else table r n

abbrev pub after_decisions : Cluster → List Event → List Promotion → Targets → List Decision → Targets
after_decisions c es promotions table ds = fold (after_decision c es promotions) table ds
