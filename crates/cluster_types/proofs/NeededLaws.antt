-- What is needed, turned round: where each thing that must be done comes from.
use Rattle.std.proofs.Common.{◌≡◌, inl, inr, ℕ, ◌<◌, true, false, List, [], subst}
use Rattle.std.specs.Prelude.{length, nat_lt, Contains}
use Rattle.lemmas.proofs.Searches.{of_none}
use Rattle.cluster_types.specs.declared.cluster.Cluster.{Cluster}
use Rattle.cluster_types.specs.declared.journal.Action.{Action}
use Rattle.cluster_types.specs.declared.journal.Action.TheVariants.{Fence, Probe, Operation}
use Rattle.cluster_types.specs.declared.journal.Event.{Event}
use Rattle.cluster_types.specs.declared.leaf.Monitor.{Monitor as MonitorOf}
use Rattle.cluster_types.specs.declared.leaf.Op.{Op}
use Rattle.cluster_types.specs.declared.leaf.Op.TheVariants.{Monitor}
use Rattle.cluster_types.specs.declared.leaf.Role.{Role}
use Rattle.cluster_types.specs.declared.leaf.Role.TheVariants as role
use Rattle.cluster_types.specs.declared.rules.Order.{Order}
use Rattle.cluster_types.specs.CellStates.{cell_state}
use Rattle.cluster_types.specs.Fields.{copies, may_migrate, monitors}
use Rattle.cluster_types.specs.NeededActions.{Cycled, by_copies, by_order, by_cycled, can_cycle, steps_at, GetsStep, NeedsMonitor, NeededBeforeMigration, fence, probe, step, monitor, Migrates, Needed, kept, sent, taken_in}
use Rattle.cluster_types.specs.Pins.{is_unprobed_state}
use Rattle.cluster_types.specs.Rights.{is_to_be_fenced}
use Rattle.cluster_types.specs.Tables.{Targets}
use Rattle.cluster_types.specs.Terms.{active_count}

-- what has no monitors has none of whatever kind
pub unwatched : (c : Cluster) → ((r : ℕ) → monitors c r ≡ []) → (X : Type 0) (r : ℕ) (m : MonitorOf) → Contains (monitors c r) m → X
unwatched c f X r m k = of_none (λ m. X) m (subst (λ ms. Contains ms m) (f r) k)

module _ (c : Cluster) (es : List Event) (targets : Targets) where
  -- only what can be cycled is cycled
  pub can_be_cycled : (r n : ℕ) → Cycled c es targets r n → can_cycle c es targets r n ≡ true
  can_be_cycled _ _ (by_copies r n h l can over) = can
  can_be_cycled _ _ (by_order o n m may d) = may.can_be_cycled
  can_be_cycled _ _ (by_cycled o n m may y d) = may.can_be_cycled

  -- without orders a cell is cycled only where its leaf is active in more cells than it has copies
  pub is_never_cycled : ((o : Order) → Contains c.orders o → ⊥) → ((r : ℕ) → r < length c.leaves → nat_lt (copies c r) (active_count c es r) ≡ false)
      → (r n : ℕ) → Cycled c es targets r n → ⊥
  is_never_cycled unordered few r _ (by_copies _ n h l can over) = let fewer = few r h in cc
  is_never_cycled unordered few _ _ (by_order o n m may d) = unordered o may.present
  is_never_cycled unordered few _ _ (by_cycled o n m may y d) = unordered o may.present

  -- a cell that isn't cycled gets the steps of its state and target
  pub step_of_uncycled : (r n : ℕ) (o : Op) → (Cycled c es targets r n → ⊥) → GetsStep c es targets r n o → Contains (steps_at c es targets r n false) o
  step_of_uncycled r n o still (inl g) = absurd (still g.0)
  step_of_uncycled r n o still (inr g) = g.1

  -- what is done to a cell is of a leaf and a node of the cluster
  pub bounds_of_first : (o : Op) (r n i : ℕ) (given : Role) → NeededBeforeMigration c es targets (Operation o r n i given) → (r < length c.leaves) × (n < length c.nodes)
  bounds_of_first _ _ _ _ _ (step r n o h l g) = (h, l)
  bounds_of_first _ _ _ _ _ (monitor r n m h l k g) = (h, l)

  -- a leaf that may not migrate doesn't
  pub is_never_sent : ((r : ℕ) → may_migrate c r ≡ false) → (r n m : ℕ) → Migrates c es targets r n m → ⊥
  is_never_sent f r n m g = let allowed = g.allowed in let not_allowed = f r in cc

  -- what is needed where no leaf migrates is a fence, a probe, a step of a cell or a monitor
  module _ (P : Action → Type 0) (fenced : (n : ℕ) → n < length c.nodes → is_to_be_fenced c n es ≡ true → P (Fence n))
      (asked : (r n : ℕ) → r < length c.leaves → n < length c.nodes → is_unprobed_state (cell_state c r n es) ≡ true → P (Probe r n))
      (changed : (r n : ℕ) (o : Op) → r < length c.leaves → n < length c.nodes → GetsStep c es targets r n o → P (Operation o r n 0 role.Started))
      (watched : (r n : ℕ) (m : MonitorOf) → r < length c.leaves → n < length c.nodes → Contains (monitors c r) m → NeedsMonitor c es targets r n m
      → P (Operation Monitor r n m.interval_ms m.role)) where
    pub of_first_set : (a : Action) → NeededBeforeMigration c es targets a → P a
    of_first_set _ (fence n h e) = fenced n h e
    of_first_set _ (probe r n h l e) = asked r n h l e
    of_first_set _ (step r n o h l g) = changed r n o h l g
    of_first_set _ (monitor r n m h l k g) = watched r n m h l k g

    pub of_needed : ((r n m : ℕ) → Migrates c es targets r n m → ⊥) → (a : Action) → Needed c es targets a → P a
    of_needed none a (kept _ f k) = of_first_set a f
    of_needed none _ (sent r n m g) = absurd (none r n m g)
    of_needed none _ (taken_in r n m g) = absurd (none r n m g)
