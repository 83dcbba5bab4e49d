-- What has to be done: fences, probes, the steps of each cell, monitors (Pacemaker Explained, "Monitoring Resources for Failure", and recovery;
-- which steps a state and a target need is this project's table).
use Rattle.std.specs.Prelude.{◌≡◌, ◌≢◌, ◌⊎◌, ℕ, ◌<◌, nat_lt, ◌&&◌, Bool, true, false, not, if◌then◌else◌, List, [], ◌∷◌, length, Contains}
use Rattle.std.specs.List.{list_any}
use Rattle.cluster_types.specs.declared.cluster.Cluster.{Cluster}
use Rattle.cluster_types.specs.declared.journal.Action.{Action}
use Rattle.cluster_types.specs.declared.journal.Action.TheVariants.{Fence, Probe, Operation, MigrateTo, MigrateFrom}
use Rattle.cluster_types.specs.declared.journal.Event.{Event}
use Rattle.cluster_types.specs.declared.leaf.Monitor.{Monitor as MonitorOf}
use Rattle.cluster_types.specs.declared.leaf.Op.{Op}
use Rattle.cluster_types.specs.declared.leaf.Op.TheVariants as op
use Rattle.cluster_types.specs.declared.leaf.Role.{Role}
use Rattle.cluster_types.specs.declared.leaf.Role.TheVariants as role
use Rattle.cluster_types.specs.declared.placement.Target.{Target}
use Rattle.cluster_types.specs.declared.placement.Target.TheVariants as target
use Rattle.cluster_types.specs.declared.rules.Colocation.{Colocation}
use Rattle.cluster_types.specs.declared.rules.Order.{Order}
use Rattle.cluster_types.specs.declared.rules.OrderKind.TheVariants as kind
use Rattle.cluster_types.specs.declared.states.CellState.{CellState}
use Rattle.cluster_types.specs.declared.states.CellState.TheVariants as cell
use Rattle.cluster_types.specs.CellStates.{cell_state, is_monitor_running}
use Rattle.cluster_types.specs.Choice.{is_separation}
use Rattle.cluster_types.specs.Fields.{copies, monitors, is_cloned, is_promotable, may_migrate}
use Rattle.cluster_types.specs.May.{may_be_running}
use Rattle.cluster_types.specs.Pins.{is_pinned, is_unprobed_state}
use Rattle.cluster_types.specs.Rights.{is_to_be_fenced, may_start}
use Rattle.cluster_types.specs.Terms.{active_count}
use Rattle.cluster_types.specs.Tables.{Targets, holds_role, is_in_scope, is_somewhere}
use Rattle.cluster_types.specs.Precedence.{is_giving, is_same_op, role_given, takers}

-- the steps that bring a cell from its state to its target. A cycled cell is stopped and started again on the way. A cell that is as its target says and isn't
-- cycled needs none; nor does an Off or Unprobed cell without a target, one that is Away (it has no target), or one that is Blocked (its leaf is pinned)
abbrev pub steps_of : CellState → Target → Bool → List Op
steps_of cell.Unprobed target.Started cycled = op.Start ∷ []
steps_of cell.Unprobed target.Promoted cycled = op.Start ∷ op.Promote ∷ []
steps_of cell.Off target.Started cycled = op.Start ∷ []
steps_of cell.Off target.Promoted cycled = op.Start ∷ op.Promote ∷ []
steps_of cell.On target.Nowhere cycled = op.Stop ∷ []
steps_of cell.On target.Started cycled = if cycled then op.Stop ∷ op.Start ∷ [] else []
steps_of cell.On target.Promoted cycled = if cycled then op.Stop ∷ op.Start ∷ op.Promote ∷ [] else op.Promote ∷ []
steps_of cell.Promoted target.Nowhere cycled = op.Demote ∷ op.Stop ∷ []
steps_of cell.Promoted target.Started cycled = if cycled then op.Demote ∷ op.Stop ∷ op.Start ∷ [] else op.Demote ∷ []
steps_of cell.Promoted target.Promoted cycled = if cycled then op.Demote ∷ op.Stop ∷ op.Start ∷ op.Promote ∷ [] else []
steps_of cell.Failed target.Nowhere cycled = op.Stop ∷ []
steps_of cell.Failed target.Started cycled = op.Stop ∷ op.Start ∷ []
steps_of cell.Failed target.Promoted cycled = op.Stop ∷ op.Start ∷ op.Promote ∷ []
steps_of _ _ cycled = []

-- only what runs can be cycled
abbrev pub runs : CellState → Bool
runs cell.On = true
runs cell.Promoted = true
runs _ = false

-- by the order's word for its first: the word gives a role, and the step gives it anew or takes it away
abbrev pub disturbs : Op → Op → Bool
disturbs word step = is_giving word && list_any (is_same_op step) (word ∷ takers word)

abbrev pub has_disturbing : Op → List Op → Bool
has_disturbing word steps = list_any (disturbs word) steps

-- the role of a monitor is that of the target
abbrev pub is_monitor_for : Role → Target → Bool
is_monitor_for role.Started target.Started = true
is_monitor_for role.Promoted target.Promoted = true
is_monitor_for _ _ = false

module _ (c : Cluster) (es : List Event) (targets : Targets) where
  -- the cell can be cycled: its leaf isn't pinned, runs there and has a target there, and the cluster may start
  abbrev pub can_cycle : ℕ → ℕ → Bool
  can_cycle r n = may_start c es && not (is_pinned c es r) && runs (cell_state c r n es) && is_somewhere (targets r n)

  abbrev pub steps_at : ℕ → ℕ → Bool → List Op
  steps_at r n cycled = if is_pinned c es r then [] else steps_of (cell_state c r n es) (targets r n) cycled

  -- a symmetrical mandatory order of starts or promotes has its then, on node n, wait for what is done to its first on node m, in
  -- scope. The then is to have its role on node n, in a cell that can be cycled
  pub record OrderCanCycle (o : Order) (n m : ℕ) : Type 0 where
    pub present : Contains c.orders o
    pub mandatory : o.kind ≡ kind.Mandatory
    pub both_ways : o.symmetrical ≡ true
    pub first_gives : is_giving o.first_op ≡ true
    pub then_gives : is_giving o.then_op ≡ true
    pub within : n < length c.nodes
    pub first_within : m < length c.nodes
    pub in_scope : is_in_scope o n m ≡ true
    pub can_be_cycled : can_cycle o.then_leaf n ≡ true
    pub in_role : holds_role targets o.then_leaf (role_given o.then_op) n ≡ true

  -- the cells that are cycled: the leaf runs there and has a target there, and is stopped and started again all the same. (What has failed is stopped and
  -- started again by `steps_of`.) By three rules and nothing else: a cell that can be cycled, of a leaf that is active in more cells than it has copies; and the
  -- then of an order that can cycle it, where the first is disturbed in scope, by the steps that it needs itself or by those that it gets as a cycled cell
  pub data Cycled : ℕ → ℕ → Type 0 where
    by_copies : (r n : ℕ) → r < length c.leaves → n < length c.nodes → can_cycle r n ≡ true → nat_lt (copies c r) (active_count c es r) ≡ true → Cycled r n
    by_order : (o : Order) (n m : ℕ) → OrderCanCycle o n m
        → has_disturbing o.first_op (steps_at o.first m false) ≡ true → Cycled o.then_leaf n
    by_cycled : (o : Order) (n m : ℕ) → OrderCanCycle o n m → Cycled o.first m
        → has_disturbing o.first_op (steps_at o.first m true) ≡ true → Cycled o.then_leaf n

  -- the cell gets the step
  abbrev pub GetsStep : ℕ → ℕ → Op → Type 0
  GetsStep r n step =
      (Cycled r n × Contains (steps_at r n true) step) ⊎ ((¬ Cycled r n) × Contains (steps_at r n false) step)

  -- the cell gets a step of any kind
  abbrev pub GetsAnyStep : ℕ → ℕ → Type 0
  GetsAnyStep r n = (step : Op) × GetsStep r n step

  -- the monitor is needed: the leaf isn't pinned and has a target of the monitor's role there; and the monitor isn't running, or the cell gets a step
  abbrev pub NeedsMonitor : ℕ → ℕ → MonitorOf → Type 0
  NeedsMonitor r n m =
      (is_pinned c es r ≡ false) × (is_monitor_for m.role (targets r n) ≡ true)
      × ((is_monitor_running r n m.interval_ms es ≡ false) ⊎ GetsAnyStep r n)

  -- what has to be done, before live migration. What is no monitor has interval 0 and role Started (see Action)
  pub data NeededBeforeMigration : Action → Type 0 where
    fence : (n : ℕ) → n < length c.nodes → is_to_be_fenced c n es ≡ true → NeededBeforeMigration (Fence n)
    probe : (r n : ℕ) → r < length c.leaves → n < length c.nodes → is_unprobed_state (cell_state c r n es) ≡ true → NeededBeforeMigration (Probe r n)
    step : (r n : ℕ) (o : Op) → r < length c.leaves → n < length c.nodes → GetsStep r n o → NeededBeforeMigration (Operation o r n 0 role.Started)
    monitor : (r n : ℕ) (m : MonitorOf) → r < length c.leaves → n < length c.nodes → Contains (monitors c r) m → NeedsMonitor r n m
        → NeededBeforeMigration (Operation op.Monitor r n m.interval_ms m.role)

  -- the leaf gets a step anywhere
  abbrev pub GetsStepAnywhere : ℕ → Type 0
  GetsStepAnywhere r = (n : ℕ) × (n < length c.nodes) × GetsAnyStep r n

  -- an order leaves a migration of r be, on whichever side r stands. An order of r with itself is judged by its first alone
  pub record IsHarmlessOrder (r : ℕ) (o : Order) : Type 0 where
    -- r is its first, by a start, and it isn't Serialize; or the other leaf gets no step
    pub as_first : o.first ≡ r → ((o.kind ≢ kind.Serialize) × (o.first_op ≡ op.Start)) ⊎ (¬ GetsStepAnywhere o.then_leaf)
    -- r is its then: the other leaf gets no step
    pub as_then : o.then_leaf ≡ r → o.first ≢ r → ¬ GetsStepAnywhere o.first

  -- a colocation leaves it be: where it is a separation of r from another leaf, that one gets no step
  pub record IsHarmlessColocation (r : ℕ) (col : Colocation) : Type 0 where
    pub as_dependent : is_separation col ≡ true → col.dependent ≡ r → ¬ GetsStepAnywhere col.primary
    pub as_primary : is_separation col ≡ true → col.primary ≡ r → ¬ GetsStepAnywhere col.dependent

  -- the leaf migrates live from n to m (Pacemaker Explained, "Migrating Resources"; when a rule is harmless is a rule of this project)
  pub record Migrates (r n m : ℕ) : Type 0 where
    pub allowed : may_migrate c r ≡ true
    pub uncloned : is_cloned c r ≡ false
    pub not_promotable : is_promotable c r ≡ false
    pub not_pinned : is_pinned c es r ≡ false
    pub running : cell_state c r n es ≡ cell.On
    pub nowhere_else : (k : ℕ) → k < length c.nodes → k ≢ n → may_be_running c r k es ≡ false
    pub elsewhere : m ≢ n
    pub stopped : NeededBeforeMigration (Operation op.Stop r n 0 role.Started)
    pub started : NeededBeforeMigration (Operation op.Start r m 0 role.Started)
    pub orders : (o : Order) → Contains c.orders o → IsHarmlessOrder r o
    pub colocations : (col : Colocation) → Contains c.colocations col → IsHarmlessColocation r col

  -- what has to be done: where a leaf migrates, it is sent and taken in instead of started
  pub data Needed : Action → Type 0 where
    kept : (a : Action) → NeededBeforeMigration a → ((r n m : ℕ) → Migrates r n m → a ≢ Operation op.Start r m 0 role.Started) → Needed a
    sent : (r n m : ℕ) → Migrates r n m → Needed (MigrateTo r n m)
    taken_in : (r n m : ℕ) → Migrates r n m → Needed (MigrateFrom r n m)
