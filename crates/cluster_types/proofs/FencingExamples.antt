-- Examples of nodes that are fenced, or may not be, proved from the definitions.
use Rattle.std.proofs.Common.{◌≡◌, ℕ, true, false, List, [], ◌∷◌, ◌++◌, inr, pos, refl, zero, suc, arith, Some}
use Rattle.std.specs.Prelude.{codes, nat_lt, Contains}
use Rattle.lemmas.proofs.Searches.{of_none}
use Rattle.cluster_types.specs.declared.cluster.Cluster.{Cluster}
use Rattle.cluster_types.specs.declared.cluster.Policy.TheVariants as policy
use Rattle.cluster_types.specs.declared.journal.Action.{Action}
use Rattle.cluster_types.specs.declared.journal.Action.TheVariants.{Fence, Probe, Operation}
use Rattle.cluster_types.specs.declared.journal.Event.{Event}
use Rattle.cluster_types.specs.declared.journal.Event.TheVariants.{Up, Lost, Quorum, Wait, Begin, Ended}
use Rattle.cluster_types.specs.declared.journal.Outcome.TheVariants.{Code}
use Rattle.cluster_types.specs.declared.leaf.Leaf.{Leaf}
use Rattle.cluster_types.specs.declared.leaf.Op.TheVariants.{Start, Stop, Monitor}
use Rattle.cluster_types.specs.declared.placement.Decision.TheVariants.{Place}
use Rattle.cluster_types.specs.declared.placement.NoReason.TheVariants as none
use Rattle.cluster_types.specs.declared.placement.Target.TheVariants as target
use Rattle.cluster_types.specs.declared.states.NodeState.TheVariants as state
use Rattle.cluster_types.specs.CellStates.{cell_state}
use Rattle.cluster_types.specs.Fields.{copies, may_migrate, monitors}
use Rattle.cluster_types.specs.Journals.{first_events, unsaid, online as is_online}
use Rattle.cluster_types.specs.NeededActions.{Cycled, GetsStep, Needed, kept, fence, step as first_step}
use Rattle.cluster_types.specs.NodeStates.{node_state}
use Rattle.cluster_types.specs.Numbers.{AreNumbered, is_earlier}
use Rattle.cluster_types.specs.Pins.{is_unprobed_state}
use Rattle.cluster_types.specs.Reasons.{HasReason}
use Rattle.cluster_types.specs.Rights.{may_fence, may_start, may_keep, is_to_be_fenced}
use Rattle.cluster_types.specs.Steps.{has_aborted}
use Rattle.cluster_types.specs.Tables.{Targets, is_somewhere}
use Rattle.cluster_types.specs.Terms.{active_count}
use Rattle.cluster_types.proofs.Few.{below_one, below_two, cells_of_one, of_one, of_two, pair_of_two}
use Rattle.cluster_types.proofs.NeededLaws.{unwatched, is_never_cycled, step_of_uncycled, is_never_sent, of_needed}
use Rattle.cluster_types.proofs.SmallClusters.{node, plain_leaf, two_nodes, did, probed, online, step}
use Rattle.cluster_types.proofs.SmallRuns.{table_by, predecessors, transition, beginners}

abbrev vip : Leaf
vip = plain_leaf (codes "vip")

-- A stop that fails on a node in standby: the node is unclean, and is fenced before the start elsewhere.

abbrev leaving : Cluster
leaving = record (two_nodes (vip ∷ [])) { nodes = record (node (codes "n1")) { standby = true } ∷ node (codes "n2") ∷ [] }

none_migrates : (r : ℕ) → may_migrate leaving r ≡ false
none_migrates zero = refl
none_migrates (suc r) = refl

no_monitors : (r : ℕ) → monitors leaving r ≡ []
no_monitors zero = refl
no_monitors (suc r) = refl

abbrev runs_in_standby : List Event
runs_in_standby = online (did Start 0 0 0 900 ∷ probed 0 1 7 900 ∷ []) 1000

abbrev moving : List Action
moving = step Stop 0 0 ∷ step Start 0 1 ∷ []

it_moves : table_by leaving runs_in_standby (Place 0 ∷ []) 0 1 ≡ target.Started
it_moves = refl

it_moves_away : table_by leaving runs_in_standby (Place 0 ∷ []) 0 0 ≡ target.Nowhere
it_moves_away = refl

stop_first : predecessors leaving moving (step Start 0 1) ≡ step Stop 0 0 ∷ []
stop_first = refl

abbrev failed_stop : List Event
failed_stop = Begin 1 (step Stop 0 0) ∷ Ended 1 (step Stop 0 0) (Code 1) 1000 ∷ []

failed_stop_aborts : has_aborted (transition leaving moving runs_in_standby) failed_stop ≡ true
failed_stop_aborts = refl

abbrev stuck : List Event
stuck = runs_in_standby ++ failed_stop

abbrev stuck_table : Targets
stuck_table = table_by leaving stuck (Place 0 ∷ [])

abbrev rescue : List Action
rescue = Fence 0 ∷ step Start 0 1 ∷ []

stuck_is_unclean : node_state leaving 0 stuck ≡ state.Unclean
stuck_is_unclean = refl

stuck_is_fenced : Needed leaving stuck stuck_table (Fence 0)
stuck_is_fenced = kept (Fence 0) (fence 0 (omega arith) refl) (λ r n m g e. cc)

nothing_cycled : (r n : ℕ) → Cycled leaving stuck stuck_table r n → ⊥
nothing_cycled = is_never_cycled leaving stuck stuck_table (λ o. of_none (λ _. ⊥) o) (below_one (λ r. nat_lt (copies leaving r) (active_count leaving stuck r) ≡ false) refl)

started_elsewhere : Needed leaving stuck stuck_table (step Start 0 1)
started_elsewhere = kept (step Start 0 1) (first_step 0 1 Start (omega arith) (omega arith) (inr (nothing_cycled 0 1, (0, omega arith, refl))))
    (λ r n m g e. is_never_sent leaving stuck stuck_table none_migrates r n m g)

nothing_more : (a : Action) → Needed leaving stuck stuck_table a → Contains rescue a
nothing_more = of_needed leaving stuck stuck_table (Contains rescue)
    (below_two (λ n. is_to_be_fenced leaving n stuck ≡ true → Contains rescue (Fence n)) (λ e. (0, omega arith, refl)) (λ e. cc))
    (cells_of_one (λ r n. is_unprobed_state (cell_state leaving r n stuck) ≡ true → Contains rescue (Probe r n)) (λ e. cc) (λ e. cc))
    (λ r n o h l. cells_of_one (λ r n. GetsStep leaving stuck stuck_table r n o → Contains rescue (step o r n))
    (λ g. of_none (λ o. Contains rescue (step o 0 0)) o (step_of_uncycled leaving stuck stuck_table 0 0 o (nothing_cycled 0 0) g))
    (λ g. of_one (λ o. Contains rescue (step o 0 1)) Start o (1, omega arith, refl) (step_of_uncycled leaving stuck stuck_table 0 1 o (nothing_cycled 0 1) g)) r n h l)
    (λ r n m h l k g. unwatched leaving no_monitors (Contains rescue (Operation Monitor r n m.interval_ms m.role)) r m k)
    (is_never_sent leaving stuck stuck_table none_migrates)

fenced_then_started : AreNumbered leaving (Needed leaving stuck stuck_table) rescue
fenced_then_started = record {
  needed = λ a. (of_two (Needed leaving stuck stuck_table) (Fence 0) (step Start 0 1) a stuck_is_fenced started_elsewhere, nothing_more a);
  in_order = pair_of_two (λ x y. is_earlier leaving rescue x y ≡ true) (Fence 0) (step Start 0 1) refl;
}

fence_comes_first : predecessors leaving rescue (step Start 0 1) ≡ Fence 0 ∷ []
fence_comes_first = refl

start_waits_for_the_fence : beginners (transition leaving rescue stuck) [] ≡ 1 ∷ []
start_waits_for_the_fence = refl

start_after_the_fence : beginners (transition leaving rescue stuck) (Begin 1 (Fence 0) ∷ Ended 1 (Fence 0) (Code 0) 1000 ∷ []) ≡ 2 ∷ []
start_after_the_fence = refl

-- A frozen cluster without quorum: what runs stays, but a lost node may not be fenced, so nothing is started.

abbrev frozen : Cluster
frozen = record (two_nodes (record vip { stickiness = pos 100 } ∷ [])) { properties = record (two_nodes []).properties { policy = policy.Freeze } }

abbrev without_quorum : List Event
without_quorum = Up 0 ∷ Up 1 ∷ did Start 0 1 0 900 ∷ probed 0 0 7 900 ∷ Quorum false ∷ Wait 1000 ∷ []

frozen_stays : table_by frozen without_quorum (Place 0 ∷ []) 0 1 ≡ target.Started
frozen_stays = refl

frozen_starts_nothing : may_start frozen without_quorum ≡ false
frozen_starts_nothing = refl

frozen_keeps : may_keep frozen without_quorum ≡ true
frozen_keeps = refl

abbrev then_lost : List Event
then_lost = without_quorum ++ Lost 1 ∷ []

lost_is_unclean : node_state frozen 1 then_lost ≡ state.Unclean
lost_is_unclean = refl

frozen_fences_nothing : may_fence frozen then_lost ≡ false
frozen_fences_nothing = refl

lost_is_not_fenced : is_to_be_fenced frozen 1 then_lost ≡ false
lost_is_not_fenced = refl

nowhere_without_quorum :
    HasReason frozen then_lost (table_by frozen then_lost (Place 0 ∷ [])) (table_by frozen then_lost (Place 0 ∷ [])) 0 (Some none.NoQuorum)
nowhere_without_quorum = (refl, (λ n h. below_two (λ n. is_somewhere (table_by frozen then_lost (Place 0 ∷ []) 0 n) ≡ false) refl refl n h), refl)

-- A node of which the status says nothing is fenced before anything is started.

abbrev one : Cluster
one = two_nodes (vip ∷ [])

abbrev unheard : List Event
unheard = first_events one [] (is_online ∷ unsaid ∷ []) true 1000

abbrev cautious : List Action
cautious = Fence 1 ∷ Probe 0 0 ∷ step Start 0 0 ∷ []

unheard_is_unclean : node_state one 1 unheard ≡ state.Unclean
unheard_is_unclean = refl

unheard_is_fenced : Needed one unheard (table_by one unheard (Place 0 ∷ [])) (Fence 1)
unheard_is_fenced = kept (Fence 1) (fence 1 (omega arith) refl) (λ r n m g e. cc)

unheard_is_not_probed : is_unprobed_state (cell_state one 0 1 unheard) ≡ false
unheard_is_not_probed = refl

goes_to_the_other : table_by one unheard (Place 0 ∷ []) 0 0 ≡ target.Started
goes_to_the_other = refl

fence_and_probe_come_first : predecessors one cautious (step Start 0 0) ≡ Fence 1 ∷ Probe 0 0 ∷ []
fence_and_probe_come_first = refl

fence_and_probe_begin : beginners (transition one cautious unheard) [] ≡ 1 ∷ 2 ∷ []
fence_and_probe_begin = refl

start_after_both :
    beginners (transition one cautious unheard) (Begin 1 (Fence 1) ∷ Begin 2 (Probe 0 0) ∷ Ended 1 (Fence 1) (Code 0) 1000 ∷ Ended 2 (Probe 0 0) (Code 7) 1000 ∷ []) ≡ 3 ∷ []
start_after_both = refl
