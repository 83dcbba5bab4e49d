-- Examples of how a run goes, proved from the definitions.
use Rattle.std.proofs.Common.{◌≡◌, ℕ, true, false, List, [], ◌∷◌, ◌++◌, inr, refl, zero, suc, arith}
use Rattle.std.specs.Prelude.{codes, nat_lt, Contains}
use Rattle.lemmas.proofs.Searches.{of_none}
use Rattle.cluster_types.specs.declared.cluster.Cluster.{Cluster}
use Rattle.cluster_types.specs.declared.journal.Action.{Action}
use Rattle.cluster_types.specs.declared.journal.Action.TheVariants.{Fence, Probe, Operation}
use Rattle.cluster_types.specs.declared.journal.Answer.TheVariants as answer
use Rattle.cluster_types.specs.declared.journal.Event.{Event}
use Rattle.cluster_types.specs.declared.journal.Event.TheVariants.{Up, Begin, Ended}
use Rattle.cluster_types.specs.declared.journal.Outcome.TheVariants.{Code}
use Rattle.cluster_types.specs.declared.leaf.Op.TheVariants.{Start, Monitor}
use Rattle.cluster_types.specs.declared.placement.Decision.TheVariants.{Place}
use Rattle.cluster_types.specs.declared.placement.Target.TheVariants as target
use Rattle.cluster_types.specs.declared.states.CellState.TheVariants as cell
use Rattle.cluster_types.specs.CellStates.{cell_state}
use Rattle.cluster_types.specs.Fields.{copies, may_migrate, monitors}
use Rattle.cluster_types.specs.Journals.{first_events, online as is_online, offline as is_offline}
use Rattle.cluster_types.specs.NeededActions.{Cycled, GetsStep, Needed, kept, probe, step as first_step}
use Rattle.cluster_types.specs.Numbers.{AreNumbered, is_earlier}
use Rattle.cluster_types.specs.Pins.{is_unprobed_state}
use Rattle.cluster_types.specs.Rights.{is_to_be_fenced}
use Rattle.cluster_types.specs.Steps.{Transition, Applies, answer_events, has_aborted}
use Rattle.cluster_types.specs.Tables.{Targets}
use Rattle.cluster_types.specs.Terms.{active_count}
use Rattle.cluster_types.proofs.Few.{below_one, below_two, cells_of_one, of_one, of_three, pairs_of_three}
use Rattle.cluster_types.proofs.NeededLaws.{unwatched, is_never_cycled, step_of_uncycled, is_never_sent, of_needed}
use Rattle.cluster_types.proofs.SmallClusters.{plain_leaf, two_nodes, online, step}
use Rattle.cluster_types.proofs.SmallRuns.{table_by, predecessors, transition, beginners}

abbrev one : Cluster
one = two_nodes (plain_leaf (codes "vip") ∷ [])

none_migrates : (r : ℕ) → may_migrate one r ≡ false
none_migrates zero = refl
none_migrates (suc r) = refl

no_monitors : (r : ℕ) → monitors one r ≡ []
no_monitors zero = refl
no_monitors (suc r) = refl

-- A resource of which nothing is known: it is looked for on both nodes, and then started on the first.

abbrev fresh : List Event
fresh = online [] 1000

abbrev fresh_table : Targets
fresh_table = table_by one fresh (Place 0 ∷ [])

abbrev first_plan : List Action
first_plan = Probe 0 0 ∷ Probe 0 1 ∷ step Start 0 0 ∷ []

looked_for_here : Needed one fresh fresh_table (Probe 0 0)
looked_for_here = kept (Probe 0 0) (probe 0 0 (omega arith) (omega arith) refl) (λ r n m g e. cc)

looked_for_there : Needed one fresh fresh_table (Probe 0 1)
looked_for_there = kept (Probe 0 1) (probe 0 1 (omega arith) (omega arith) refl) (λ r n m g e. cc)

nothing_cycled : (r n : ℕ) → Cycled one fresh fresh_table r n → ⊥
nothing_cycled = is_never_cycled one fresh fresh_table (λ o. of_none (λ _. ⊥) o) (below_one (λ r. nat_lt (copies one r) (active_count one fresh r) ≡ false) refl)

started_here : Needed one fresh fresh_table (step Start 0 0)
started_here = kept (step Start 0 0) (first_step 0 0 Start (omega arith) (omega arith) (inr (nothing_cycled 0 0, (0, omega arith, refl))))
    (λ r n m g e. is_never_sent one fresh fresh_table none_migrates r n m g)

nothing_more : (a : Action) → Needed one fresh fresh_table a → Contains first_plan a
nothing_more = of_needed one fresh fresh_table (Contains first_plan)
    (below_two (λ n. is_to_be_fenced one n fresh ≡ true → Contains first_plan (Fence n)) (λ e. cc) (λ e. cc))
    (cells_of_one (λ r n. is_unprobed_state (cell_state one r n fresh) ≡ true → Contains first_plan (Probe r n)) (λ e. (0, omega arith, refl)) (λ e. (1, omega arith, refl)))
    (λ r n o h l. cells_of_one (λ r n. GetsStep one fresh fresh_table r n o → Contains first_plan (step o r n))
    (λ g. of_one (λ o. Contains first_plan (step o 0 0)) Start o (2, omega arith, refl) (step_of_uncycled one fresh fresh_table 0 0 o (nothing_cycled 0 0) g))
    (λ g. of_none (λ o. Contains first_plan (step o 0 1)) o (step_of_uncycled one fresh fresh_table 0 1 o (nothing_cycled 0 1) g)) r n h l)
    (λ r n m h l k g. unwatched one no_monitors (Contains first_plan (Operation Monitor r n m.interval_ms m.role)) r m k)
    (is_never_sent one fresh fresh_table none_migrates)

this_is_the_plan : AreNumbered one (Needed one fresh fresh_table) first_plan
this_is_the_plan = record {
  needed = λ a. (of_three (Needed one fresh fresh_table) (Probe 0 0) (Probe 0 1) (step Start 0 0) a looked_for_here looked_for_there started_here, nothing_more a);
  in_order = pairs_of_three (λ x y. is_earlier one first_plan x y ≡ true) (Probe 0 0) (Probe 0 1) (step Start 0 0) refl refl refl;
}

start_waits_for_both : predecessors one first_plan (step Start 0 0) ≡ Probe 0 0 ∷ Probe 0 1 ∷ []
start_waits_for_both = refl

abbrev first : Transition
first = transition one first_plan fresh

probes_may_begin : beginners first [] ≡ 1 ∷ 2 ∷ []
probes_may_begin = refl

start_may_begin_after_both :
    beginners first (Begin 1 (Probe 0 0) ∷ Begin 2 (Probe 0 1) ∷ Ended 1 (Probe 0 0) (Code 7) 1000 ∷ Ended 2 (Probe 0 1) (Code 7) 1000 ∷ []) ≡ 3 ∷ []
start_may_begin_after_both = refl

-- Where a probe finds it running the transition aborts, and then nothing is needed: it runs where it is to be.

abbrev found_running : List Event
found_running = Begin 1 (Probe 0 0) ∷ Begin 2 (Probe 0 1) ∷ Ended 1 (Probe 0 0) (Code 0) 1000 ∷ []

found_running_aborts : has_aborted first found_running ≡ true
found_running_aborts = refl

abbrev after_found : List Event
after_found = fresh ++ found_running ++ Ended 2 (Probe 0 1) (Code 7) 1000 ∷ []

runs_here : cell_state one 0 0 after_found ≡ cell.On
runs_here = refl

runs_not_there : cell_state one 0 1 after_found ≡ cell.Off
runs_not_there = refl

abbrev found_table : Targets
found_table = table_by one after_found (Place 0 ∷ [])

it_stays_here : found_table 0 0 ≡ target.Started
it_stays_here = refl

nothing_cycled_then : (r n : ℕ) → Cycled one after_found found_table r n → ⊥
nothing_cycled_then = is_never_cycled one after_found found_table (λ o. of_none (λ _. ⊥) o) (below_one (λ r. nat_lt (copies one r) (active_count one after_found r) ≡ false) refl)

nothing_is_needed : (a : Action) → Needed one after_found found_table a → ⊥
nothing_is_needed = of_needed one after_found found_table (λ a. ⊥)
    (below_two (λ n. is_to_be_fenced one n after_found ≡ true → ⊥) (λ e. cc) (λ e. cc))
    (cells_of_one (λ r n. is_unprobed_state (cell_state one r n after_found) ≡ true → ⊥) (λ e. cc) (λ e. cc))
    (λ r n o h l. cells_of_one (λ r n. GetsStep one after_found found_table r n o → ⊥)
    (λ g. of_none (λ o. ⊥) o (step_of_uncycled one after_found found_table 0 0 o (nothing_cycled_then 0 0) g))
    (λ g. of_none (λ o. ⊥) o (step_of_uncycled one after_found found_table 0 1 o (nothing_cycled_then 0 1) g)) r n h l)
    (λ r n m h l k g. unwatched one no_monitors ⊥ r m k)
    (is_never_sent one after_found found_table none_migrates)

-- A node that comes up aborts the transition, and then its probe is needed.

abbrev second_down : List Event
second_down = first_events one [] (is_online ∷ is_offline ∷ []) true 1000

abbrev short_plan : List Action
short_plan = Probe 0 0 ∷ step Start 0 0 ∷ []

abbrev short : Transition
short = transition one short_plan second_down

abbrev probing : List Event
probing = Begin 1 (Probe 0 0) ∷ []

down_is_not_probed : cell_state one 0 1 second_down ≡ cell.Away
down_is_not_probed = refl

it_may_come_up : Applies short probing (answer.Up 1)
it_may_come_up = refl

it_comes_up : answer_events short probing (answer.Up 1) ≡ Up 1 ∷ []
it_comes_up = refl

coming_up_aborts : has_aborted short (probing ++ Up 1 ∷ []) ≡ true
coming_up_aborts = refl

none_begins_then : beginners short (probing ++ Up 1 ∷ Ended 1 (Probe 0 0) (Code 7) 1000 ∷ []) ≡ []
none_begins_then = refl

abbrev both_up : List Event
both_up = second_down ++ probing ++ Up 1 ∷ Ended 1 (Probe 0 0) (Code 7) 1000 ∷ []

looked_for_where_it_came_up : Needed one both_up (table_by one both_up (Place 0 ∷ [])) (Probe 0 1)
looked_for_where_it_came_up = kept (Probe 0 1) (probe 0 1 (omega arith) (omega arith) refl) (λ r n m g e. cc)

not_looked_for_twice : is_unprobed_state (cell_state one 0 0 both_up) ≡ false
not_looked_for_twice = refl
