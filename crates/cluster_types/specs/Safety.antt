-- What must hold of the events of a transition, whatever answers come and in whatever order: the promises on which a cluster relies (rules of this
-- project, on what Pacemaker Explained says of ordering, fencing, copies and colocation).
use Rattle.std.specs.Prelude.{◌≡◌, ◌≢◌, ℕ, ◌<◌, ◌≤◌, ◌==◌, ◌&&◌, Bool, true, false, not, if◌then◌else◌, Some, IfSome, Option, ⊤, List, [], ◌∷◌, ◌++◌, length, Contains, count_by}
use Rattle.std.specs.List.{list_all, range_with_len}
use Rattle.cluster_types.specs.declared.cluster.Cluster.{Cluster}
use Rattle.cluster_types.specs.declared.journal.Action.{Action}
use Rattle.cluster_types.specs.declared.journal.Action.TheVariants.{MigrateTo, MigrateFrom}
use Rattle.cluster_types.specs.declared.journal.Answer.{Answer}
use Rattle.cluster_types.specs.declared.journal.Event.{Event}
use Rattle.cluster_types.specs.declared.journal.Event.TheVariants.{Begin, Ended}
use Rattle.cluster_types.specs.declared.journal.Outcome.TheVariants.{Gone}
use Rattle.cluster_types.specs.declared.leaf.Op.TheVariants as op
use Rattle.cluster_types.specs.declared.leaf.Role.{Role}
use Rattle.cluster_types.specs.declared.leaf.Role.TheVariants as role
use Rattle.cluster_types.specs.declared.placement.Placed.{Placed}
use Rattle.cluster_types.specs.declared.placement.Target.{Target}
use Rattle.cluster_types.specs.declared.placement.Target.TheVariants as target
use Rattle.cluster_types.specs.declared.rules.Colocation.{Colocation}
use Rattle.cluster_types.specs.declared.run.RunLine.{RunLine}
use Rattle.cluster_types.specs.declared.states.CellState.{CellState}
use Rattle.cluster_types.specs.declared.states.CellState.TheVariants as cell
use Rattle.cluster_types.specs.declared.states.NodeState.TheVariants as node
use Rattle.cluster_types.specs.declared.journal.Promotion.{Promotion}
use Rattle.cluster_types.specs.CellStates.{cell_state}
use Rattle.cluster_types.specs.Choice.{is_separation}
use Rattle.cluster_types.specs.Fields.{copies, promoted_copies}
use Rattle.cluster_types.specs.Journals.{Orderly, in_flight_by_begin}
use Rattle.cluster_types.specs.May.{may_be_running, may_be_promoted}
use Rattle.cluster_types.specs.NodeStates.{is_online, node_state}
use Rattle.cluster_types.specs.Pins.{is_pinned}
use Rattle.cluster_types.specs.Plans.{IsPlan}
use Rattle.cluster_types.specs.Precedence.{LeafOnNode, gives_role, op_cell}
use Rattle.cluster_types.specs.Rights.{is_to_be_fenced}
use Rattle.cluster_types.specs.Runs.{RunStanding, Runs, due, amid, idle}
use Rattle.cluster_types.specs.Steps.{Transition, HasEnded, IsWaiting, action_at, all_succeeded, begins_number, numbers_in_flight, has_aborted, has_succeeded, is_settled, journal, succeeds_number}
use Rattle.cluster_types.specs.Tables.{Targets, is_promoted_target, is_somewhere, targets_of}

-- at each begin among the events this holds, of the events before it and the action with its number
abbrev pub AtEachBegin : (List Event → ℕ → Action → Type 0) → List Event → Type 0
AtEachBegin holds events =
    (before after : List Event) (k : ℕ) (a : Action) → events ≡ before ++ Begin k a ∷ after → holds before k a

-- on how many other nodes a test of nodes holds
abbrev pub count_of_others : Cluster → ℕ → (ℕ → Bool) → ℕ
count_of_others c n test = count_by (λ m. not (m == n) && test m) (range_with_len 0 (length c.nodes))

-- it may be that the leaf has the role on the node
abbrev pub may_have_role : Cluster → ℕ → Role → ℕ → List Event → Bool
may_have_role c r role.Started n es = may_be_running c r n es
may_have_role c r role.Promoted n es = may_be_promoted c r n es

-- the event is the end of an action that is gone with its node
abbrev pub is_gone : Event → Bool
is_gone (Ended k a Gone moment) = true
is_gone _ = false

-- of the events that a transition adds, those that come while it waits, by an answer or a silent end: no begin is, and no end of an action that is gone with its
-- node, since the loss, which follows, stands for those
abbrev pub is_answered : Event → Bool
is_answered (Begin k a) = false
is_answered (Ended k a Gone moment) = false
is_answered _ = true

-- the events up to the last that isn't the end of a gone action. A loss adds the ends of what is gone, and then itself: without them, the events before it are
-- those at which the answer was taken
abbrev pub without_gone : List Event → List Event
without_gone [] = []
without_gone (e ∷ es) = if list_all is_gone (e ∷ es) then [] else e ∷ without_gone es

-- the state of a cell that is as its target says
abbrev pub state_of_target : Target → CellState
state_of_target target.Nowhere = cell.Off
state_of_target target.Started = cell.On
state_of_target target.Promoted = cell.Promoted

-- what an action must find so when it begins, by the journal so far
module _ (c : Cluster) where
  -- the leaf may run on fewer other nodes than it has copies. Of a plain resource: on none
  abbrev pub MayRunOnFewOthers : LeafOnNode → List Event → Type 0
  MayRunOnFewOthers at es = count_of_others c at.node (λ m. may_be_running c at.leaf m es) < copies c at.leaf

  -- it may be promoted on fewer other nodes than it has promoted copies
  abbrev pub MayBePromotedOnFewOthers : LeafOnNode → List Event → Type 0
  MayBePromotedOnFewOthers at es = count_of_others c at.node (λ m. may_be_promoted c at.leaf m es) < promoted_copies c at.leaf

  -- where the action gives the one leaf its role on a node, it can't be that the other has its own there
  abbrev pub OtherIsAway : Action → ℕ → Role → ℕ → Role → List Event → Type 0
  OtherIsAway a r r_role s s_role es = IfSome (gives_role r_role a) (λ at. at.leaf ≡ r → may_have_role c s s_role at.node es ≡ false)

  -- a migration has its leaf to itself: where it sends, the leaf may run on no node but the source, and where it takes in, on none but the source and the
  -- target
  abbrev pub HasItsLeafAlone : Action → List Event → Type 0
  HasItsLeafAlone (MigrateTo r source to) es = (m : ℕ) → m < length c.nodes → m ≢ source → may_be_running c r m es ≡ false
  HasItsLeafAlone (MigrateFrom r source to) es = (m : ℕ) → m < length c.nodes → m ≢ source → m ≢ to → may_be_running c r m es ≡ false
  HasItsLeafAlone _ es = ⊤

module _ (t : Transition) where
  -- predecessors first: no action begins before all that must precede it have succeeded
  abbrev pub PredecessorsFirst : List Event → Type 0
  PredecessorsFirst events =
      AtEachBegin (λ before k a. (j : ℕ) → 0 < j → j ≤ length t.actions → t.precedes j k ≡ true → has_succeeded t before j ≡ true) events

  -- no copy too many: where a start or a promote of a leaf begins on a node, the leaf may run on fewer other nodes than it has copies
  abbrev pub NoSecondCopy : List Event → Type 0
  NoSecondCopy events =
      AtEachBegin (λ before k a. IfSome (op_cell op.Start a) (λ at. MayRunOnFewOthers t.cluster at (journal t before))
      × IfSome (op_cell op.Promote a) (λ at. MayRunOnFewOthers t.cluster at (journal t before))) events

  -- no promoted copy too many: where a promote of a leaf begins on a node, the leaf may be promoted on fewer other nodes than it has promoted copies
  abbrev pub NoSecondPromotion : List Event → Type 0
  NoSecondPromotion events =
      AtEachBegin (λ before k a. IfSome (op_cell op.Promote a) (λ at. MayBePromotedOnFewOthers t.cluster at (journal t before))) events

  -- no forbidden neighbour: of two leaves that must be apart neither is given its role on a node where it may be that the other has its own
  abbrev pub NoForbiddenNeighbour : List Event → Type 0
  NoForbiddenNeighbour events =
      AtEachBegin (λ before k a. (col : Colocation) → Contains t.cluster.colocations col → is_separation col ≡ true
      → OtherIsAway t.cluster a col.dependent col.dependent_role col.primary col.primary_role (journal t before)
      × OtherIsAway t.cluster a col.primary col.primary_role col.dependent col.dependent_role (journal t before)) events

  -- each migration has its leaf to itself
  abbrev pub MigrationsAlone : List Event → Type 0
  MigrationsAlone events = AtEachBegin (λ before k a. HasItsLeafAlone t.cluster a (journal t before)) events

  -- eager and caused: an answer is taken, or an action ends silently, only where no action may begin and something is in flight; no number begins twice,
  -- and what begins is the action of its number; none begins after an abort; and where nothing aborted, nothing is in flight and none may begin, all have
  -- succeeded
  pub record IsEager (events : List Event) : Type 0 where
    pub answers_when_settled : (before after : List Event) (e : Event) → events ≡ before ++ e ∷ after → is_answered e ≡ true
        → IsWaiting t (without_gone before)
    pub begins_once : (k : ℕ) → count_by (begins_number k) events ≤ 1
    pub begins_its_own : AtEachBegin (λ before k a. action_at t k ≡ Some a) events
    pub none_after_abort : AtEachBegin (λ before k a. has_aborted t before ≡ false) events
    pub never_stuck : has_aborted t events ≡ false → numbers_in_flight t events ≡ [] → is_settled t events ≡ true → all_succeeded t events ≡ true

  -- what is safe at every moment of a transition
  pub record IsSafe (events : List Event) : Type 0 where
    pub predecessors : PredecessorsFirst events
    pub copies : NoSecondCopy events
    pub promotions : NoSecondPromotion events
    pub neighbours : NoForbiddenNeighbour events
    pub migrations : MigrationsAlone events
    pub eager : IsEager events

  -- a complete transition ends in its targets: each action has begun and succeeded once; on each node that was online when it was planned a leaf may run
  -- just when it has a target, and may be promoted just when its target says so; each cell there is as its target says, if its leaf isn't
  -- pinned; and each node that was to be fenced is offline
  pub record EndsInTargets (targets : Targets) (events : List Event) : Type 0 where
    pub begun : (k : ℕ) → 0 < k → k ≤ length t.actions → count_by (begins_number k) events ≡ 1
    pub succeeded : (k : ℕ) → 0 < k → k ≤ length t.actions → count_by (succeeds_number t.cluster k) events ≡ 1
    pub may_run : (r n : ℕ) → r < length t.cluster.leaves → n < length t.cluster.nodes → is_online t.cluster n t.planned_at ≡ true
        → may_be_running t.cluster r n (journal t events) ≡ is_somewhere (targets r n)
    pub may_run_promoted : (r n : ℕ) → r < length t.cluster.leaves → n < length t.cluster.nodes → is_online t.cluster n t.planned_at ≡ true
        → may_be_promoted t.cluster r n (journal t events) ≡ is_promoted_target (targets r n)
    pub cells : (r n : ℕ) → r < length t.cluster.leaves → n < length t.cluster.nodes → is_online t.cluster n t.planned_at ≡ true
        → is_pinned t.cluster t.planned_at r ≡ false → cell_state t.cluster r n (journal t events) ≡ state_of_target (targets r n)
    pub fenced : (n : ℕ) → n < length t.cluster.nodes → is_to_be_fenced t.cluster n t.planned_at ≡ true
        → node_state t.cluster n (journal t events) ≡ node.Offline

-- the journal is in order, and nothing is in flight
abbrev pub IsAtRest : List Event → Type 0
IsAtRest es = Orderly es × (in_flight_by_begin es ≡ [])

-- what holds where a run stands: between transitions it is at rest; amid one the journal is in order, the transition is safe, and once it ends unaborted it
-- has ended in the targets of its plan
abbrev pub IsSafeAt : Cluster → List Promotion → RunStanding → Type 0
IsSafeAt c promotions (due number es) = IsAtRest es
IsSafeAt c promotions (idle number es) = IsAtRest es
IsSafeAt c promotions (amid number t since) =
    Orderly (journal t since) × IsSafe t since
    × ((placed : Placed) → IsPlan c t.planned_at promotions placed t.actions → HasEnded t since → has_aborted t since ≡ false
    → EndsInTargets t (targets_of placed.table) since)

-- each run from a journal on, of these answers to come, is safe all the way, wherever it stands. Where they aren't told, that is whatever comes
abbrev pub IsSafeRun : Cluster → List Promotion → Bool → List Event → Option (List Answer) → Type 0
IsSafeRun c promotions whole es rest =
    (at : RunStanding) (lines : List RunLine) (left : Option (List Answer)) → Runs c promotions whole (due 1 es) rest lines at left → IsSafeAt c promotions at
