-- The order in which actions are numbered (rule of this project).
use Rattle.std.specs.Prelude.{◌≡◌, ◌≢◌, ◌↔◌, ℕ, suc, zero, ◌+◌, ◌*◌, nat_lt, ◌==◌, ◌&&◌, ◌||◌, Bool, true, not, if◌then◌else◌, List, [], ◌∷◌, ◌++◌, length, map, filter, fold, max, Contains, AllPairs}
use Rattle.std.specs.List.{flat_map, list_any, range_with_len}
use Rattle.edges.specs.Chains.{LinksHaveNoLoop, IsLinked, IsLongestChain}
use Rattle.cluster_types.specs.declared.cluster.Cluster.{Cluster}
use Rattle.cluster_types.specs.declared.journal.Action.{Action}
use Rattle.cluster_types.specs.declared.journal.Action.TheVariants.{Fence, Probe, Operation, MigrateTo, MigrateFrom}
use Rattle.cluster_types.specs.declared.leaf.Op.{Op}
use Rattle.cluster_types.specs.declared.leaf.Op.TheVariants as op
use Rattle.cluster_types.specs.declared.rules.Order.{Order}
use Rattle.cluster_types.specs.Fields.{is_promotable}
use Rattle.cluster_types.specs.Precedence.{is_same_op, is_giving, inverse, takers, is_migrating, is_serialize}

-- a step of a leaf: an operation on it. The steps that are ordered are the four that change it
pub record LeafStep : Type 0 where
  pub what : Op
  pub leaf : ℕ

abbrev pub step_of : Op → ℕ → LeafStep
step_of o r = record { what = o; leaf = r }

abbrev pub is_same_step : LeafStep → LeafStep → Bool
is_same_step a b = is_same_op a.what b.what && a.leaf == b.leaf

-- a step that must come before another
pub record Link : Type 0 where
  pub before : LeafStep
  pub after : LeafStep

abbrev pub link : Op → ℕ → Op → ℕ → Link
link o r p s = record { before = step_of o r; after = step_of p s }

-- the links of a leaf with itself: demote before stop, start before promote. `links` keeps them only of a promotable leaf
abbrev pub leaf_links : ℕ → List Link
leaf_links r = link op.Demote r op.Stop r ∷ link op.Start r op.Promote r ∷ []

-- the links by the inverse of an order: where both its words give a role, from each taker of the then's to each taker of the first's, else from the inverse
-- of the then's word to that of the first's
abbrev pub inverse_links : Order → List Link
inverse_links o =
    if is_giving o.first_op && is_giving o.then_op
    then flat_map (λ p. map (λ q. link p o.then_leaf q o.first) (takers o.first_op)) (takers o.then_op)
    else link (inverse o.then_op) o.then_leaf (inverse o.first_op) o.first ∷ []

abbrev pub order_links : Order → List Link
order_links o =
    if is_serialize o.kind then []
    else link o.first_op o.first o.then_op o.then_leaf ∷ (if o.symmetrical then inverse_links o else [])

-- a start or a stop counts as a step of any leaf; a promote or a demote of a promotable one alone (a link has no monitor)
abbrev pub is_step : Cluster → LeafStep → Bool
is_step c s = is_same_op s.what op.Start || is_same_op s.what op.Stop || is_promotable c s.leaf

-- a link counts within stops and demotes, and within starts and promotes
abbrev pub is_within_phase : Link → Bool
is_within_phase l = is_giving l.before.what && is_giving l.after.what || not (is_giving l.before.what) && not (is_giving l.after.what)

-- the links of a cluster, whether their steps are needed now or not
abbrev pub links : Cluster → List Link
links c =
    filter (λ l. is_within_phase l && is_step c l.before && is_step c l.after)
    (flat_map leaf_links (range_with_len 0 (length c.leaves)) ++ flat_map order_links c.orders)

-- a link leads from the one step to the other
abbrev pub IsStepLink : Cluster → LeafStep → LeafStep → Type 0
IsStepLink c s t = IsLinked (λ (l : Link). l.before) (λ (l : Link). l.after) (links c) s t

-- the rank of a step: how many links the longest chain has that ends at it
abbrev pub IsRank : Cluster → LeafStep → ℕ → Type 0
IsRank c s count = IsLongestChain (IsStepLink c) s count

-- a chain of so many links ends at the step, as a test
abbrev pub ends_chain : Cluster → ℕ → LeafStep → Bool
ends_chain c zero s = true
ends_chain c (suc count) s = list_any (λ l. is_same_step l.after s && ends_chain c count l.before) (links c)

-- the rank, computed: the greatest number of links of a chain that ends at the step. Where the links have no loop, and are of leaves that are there, a step
-- stands in a chain once at most. So a chain has fewer links than there are steps, four for each leaf (`ranks_are_computed` of crate `loops`)
abbrev pub rank : Cluster → LeafStep → ℕ
rank c s = fold max 0 (filter (λ count. ends_chain c count s) (range_with_len 0 (4 * length c.leaves)))

-- the links have no loop: no chain of them leads from a step back to it
abbrev pub StepsHaveNoLoop : Cluster → Type 0
StepsHaveNoLoop c = LinksHaveNoLoop (IsStepLink c)

-- the kinds of actions, in the order in which their numbers stand
pub data NumberPhase : Type 0 where
  Fences : NumberPhase
  Probes : NumberPhase
  -- demotes, and the stops of leaves that don't migrate
  Stops : NumberPhase
  -- the sendings of leaves that migrate, each on its source
  Sends : NumberPhase
  -- their takings in, each on its target
  TakingsIn : NumberPhase
  -- the stops of the leaves that migrate
  SourceStops : NumberPhase
  -- starts and promotes
  Starts : NumberPhase
  Monitors : NumberPhase

abbrev pub phase_position : NumberPhase → ℕ
phase_position Fences = 0
phase_position Probes = 1
phase_position Stops = 2
phase_position Sends = 3
phase_position TakingsIn = 4
phase_position SourceStops = 5
phase_position Starts = 6
phase_position Monitors = 7

-- where an action stands in the numbers: by phase, rank, leaf, node and interval
pub record ActionPlace : Type 0 where
  pub phase : ℕ
  pub ranked : ℕ
  pub leaf : ℕ
  pub node : ℕ
  pub interval : ℕ

abbrev pub place : ℕ → ℕ → ℕ → ℕ → ℕ → ActionPlace
place phase ranked r n interval = record { phase = phase; ranked = ranked; leaf = r; node = n; interval = interval }

abbrev pub place_in_phase : NumberPhase → ℕ → ℕ → ℕ → ℕ → ActionPlace
place_in_phase phase ranked r n interval = place (phase_position phase) ranked r n interval

-- the place of each action. What has no rank, leaf, node or interval has 0 there. Only stops, demotes, starts and promotes have a rank, but
-- not the stop of a leaf that migrates
abbrev pub action_place : Cluster → List Action → Action → ActionPlace
action_place c actions (Fence n) = place_in_phase Fences 0 0 n 0
action_place c actions (Probe r n) = place_in_phase Probes 0 r n 0
action_place c actions (Operation op.Stop r n interval role) =
    if is_migrating actions r then place_in_phase SourceStops 0 r n 0 else place_in_phase Stops (rank c (step_of op.Stop r)) r n 0
action_place c actions (Operation op.Demote r n interval role) = place_in_phase Stops (rank c (step_of op.Demote r)) r n 0
action_place c actions (MigrateTo r source target) = place_in_phase Sends 0 r source 0
action_place c actions (MigrateFrom r source target) = place_in_phase TakingsIn 0 r target 0
action_place c actions (Operation op.Start r n interval role) = place_in_phase Starts (rank c (step_of op.Start r)) r n 0
action_place c actions (Operation op.Promote r n interval role) = place_in_phase Starts (rank c (step_of op.Promote r)) r n 0
action_place c actions (Operation op.Monitor r n interval role) = place_in_phase Monitors 0 r n interval

-- the one number is below the other, or they are equal and the rest says so
abbrev pub comes_before_or : ℕ → ℕ → Bool → Bool
comes_before_or x y among_equals = nat_lt x y || x == y && among_equals

-- the lesser phase comes first, then the lesser rank, leaf, node, and interval
abbrev pub is_place_before : ActionPlace → ActionPlace → Bool
is_place_before a b =
    comes_before_or a.phase b.phase
    (comes_before_or a.ranked b.ranked (comes_before_or a.leaf b.leaf (comes_before_or a.node b.node (nat_lt a.interval b.interval))))

-- the one action has a lower number than the other
abbrev pub is_earlier : Cluster → List Action → Action → Action → Bool
is_earlier c actions x y = is_place_before (action_place c actions x) (action_place c actions y)

-- a list has just these actions, each once, in whatever order
pub record AreNeeded (Needed : Action → Type 0) (actions : List Action) : Type 0 where
  pub needed : (a : Action) → Contains actions a ↔ Needed a
  pub once : AllPairs (λ x y. x ≢ y) actions

-- the same, in the order of their numbers
pub record AreNumbered (c : Cluster) (Needed : Action → Type 0) (actions : List Action) : Type 0 where
  pub needed : (a : Action) → Contains actions a ↔ Needed a
  pub in_order : AllPairs (λ x y. is_earlier c actions x y ≡ true) actions
