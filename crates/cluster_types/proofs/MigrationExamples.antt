-- Examples of a live migration and of one that failed, proved from the definitions.
use Rattle.std.proofs.Common.{◌≡◌, ◌≢◌, ℕ, pos, true, false, List, [], ◌∷◌, ◌++◌, inr, refl, zero, suc, arith}
use Rattle.std.specs.Prelude.{codes, nat_lt, Contains}
use Rattle.std.specs.Fmt.{digits}
use Rattle.lemmas.proofs.Searches.{of_none}
use Rattle.cluster_types.specs.declared.cluster.Cluster.{Cluster}
use Rattle.cluster_types.specs.declared.journal.Action.{Action}
use Rattle.cluster_types.specs.declared.journal.Action.TheVariants.{Fence, Probe, Operation, MigrateTo, MigrateFrom}
use Rattle.cluster_types.specs.declared.journal.Event.{Event}
use Rattle.cluster_types.specs.declared.journal.Event.TheVariants.{Begin, Ended}
use Rattle.cluster_types.specs.declared.journal.Outcome.TheVariants.{Code}
use Rattle.cluster_types.specs.declared.leaf.Op.TheVariants.{Start, Stop, Monitor}
use Rattle.cluster_types.specs.declared.leaf.Role.TheVariants as role
use Rattle.cluster_types.specs.declared.placement.Decision.TheVariants.{Place}
use Rattle.cluster_types.specs.declared.placement.Target.TheVariants as target
use Rattle.cluster_types.specs.declared.states.CellState.TheVariants as cell
use Rattle.cluster_types.specs.CellStates.{cell_state}
use Rattle.cluster_types.specs.Fields.{copies, monitors}
use Rattle.cluster_types.specs.May.{may_be_running}
use Rattle.cluster_types.specs.NeededActions.{Cycled, GetsStep, NeededBeforeMigration, step as first_step, Migrates, Needed, kept, sent, taken_in}
use Rattle.cluster_types.specs.Numbers.{AreNumbered, is_earlier}
use Rattle.cluster_types.specs.Pins.{is_unprobed_state}
use Rattle.cluster_types.specs.Rights.{is_to_be_fenced}
use Rattle.cluster_types.specs.Steps.{has_aborted}
use Rattle.cluster_types.specs.Tables.{Targets}
use Rattle.cluster_types.specs.Terms.{active_count}
use Rattle.cluster_types.specs.Texts.{graph_text}
use Rattle.cluster_types.proofs.Few.{below_one, below_two, cells_of_one, of_one, of_two, of_three, pairs_of_three}
use Rattle.cluster_types.proofs.NeededLaws.{unwatched, can_be_cycled, of_first_set, is_never_cycled, step_of_uncycled, bounds_of_first, of_needed}
use Rattle.cluster_types.proofs.SmallClusters.{plain_leaf, two_nodes, location, did, probed, online, step}
use Rattle.cluster_types.proofs.SmallRuns.{table_by, predecessors, transition, beginners}

abbrev machine : Cluster
machine = record (two_nodes (record (plain_leaf (codes "vm")) { migrates = true } ∷ [])) { locations = location (codes "l") 0 1 (pos 50) ∷ [] }

no_monitors : (r : ℕ) → monitors machine r ≡ []
no_monitors zero = refl
no_monitors (suc r) = refl

-- A machine runs on n1 and is better on n2: it is sent, taken in, and stopped where it was.

abbrev runs_on_n1 : List Event
runs_on_n1 = online (did Start 0 0 0 900 ∷ probed 0 1 7 900 ∷ []) 1000

abbrev table : Targets
table = table_by machine runs_on_n1 (Place 0 ∷ [])

abbrev migration : List Action
migration = MigrateTo 0 0 1 ∷ MigrateFrom 0 0 1 ∷ step Stop 0 0 ∷ []

better_on_n2 : table 0 1 ≡ target.Started
better_on_n2 = refl

nothing_cycled : (r n : ℕ) → Cycled machine runs_on_n1 table r n → ⊥
nothing_cycled = is_never_cycled machine runs_on_n1 table (λ o. of_none (λ _. ⊥) o) (below_one (λ r. nat_lt (copies machine r) (active_count machine runs_on_n1 r) ≡ false) refl)

would_stop : NeededBeforeMigration machine runs_on_n1 table (step Stop 0 0)
would_stop = first_step 0 0 Stop (omega arith) (omega arith) (inr (nothing_cycled 0 0, (0, omega arith, refl)))

would_start : NeededBeforeMigration machine runs_on_n1 table (step Start 0 1)
would_start = first_step 0 1 Start (omega arith) (omega arith) (inr (nothing_cycled 0 1, (0, omega arith, refl)))

it_migrates : Migrates machine runs_on_n1 table 0 0 1
it_migrates = record {
  allowed = refl;
  uncloned = refl;
  not_promotable = refl;
  not_pinned = refl;
  running = refl;
  nowhere_else = λ k h d. below_two (λ k. k ≢ 0 → may_be_running machine 0 k runs_on_n1 ≡ false) (λ d. absurd (d refl)) (λ d. refl) k h d;
  elsewhere = λ e. cc;
  stopped = would_stop;
  started = would_start;
  orders = λ o k. absurd (of_none (λ _. ⊥) o k);
  colocations = λ col k. absurd (of_none (λ _. ⊥) col k);
}

sent_from_n1 : Needed machine runs_on_n1 table (MigrateTo 0 0 1)
sent_from_n1 = sent 0 0 1 it_migrates

taken_in_on_n2 : Needed machine runs_on_n1 table (MigrateFrom 0 0 1)
taken_in_on_n2 = taken_in 0 0 1 it_migrates

stopped_on_n1 : Needed machine runs_on_n1 table (step Stop 0 0)
stopped_on_n1 = kept (step Stop 0 0) would_stop (λ r n m g e. cc)

not_started_on_n2 : Needed machine runs_on_n1 table (step Start 0 1) → ⊥
not_started_on_n2 (kept _ f k) = k 0 0 1 it_migrates refl

-- it can migrate from n1 to n2 alone
only_so : (r n m : ℕ) → Migrates machine runs_on_n1 table r n m → (P : ℕ → ℕ → ℕ → Type 0) → P 0 0 1 → P r n m
only_so r n m g P p =
    let from = bounds_of_first machine runs_on_n1 table Stop r n 0 role.Started g.stopped in
    let to = bounds_of_first machine runs_on_n1 table Start r m 0 role.Started g.started in
    cells_of_one (λ r n. cell_state machine r n runs_on_n1 ≡ cell.On → m ≢ n → P r n m)
    (λ e d. below_two (λ m. m ≢ 0 → P 0 0 m) (λ d. absurd (d refl)) (λ d. p) m to.1 d)
    (λ e d. cc) r n from.0 from.1 g.running g.elsewhere

nothing_more : (a : Action) → Needed machine runs_on_n1 table a → Contains migration a
nothing_more a (kept _ f k) = of_first_set machine runs_on_n1 table (λ a. a ≢ step Start 0 1 → Contains migration a)
    (below_two (λ n. is_to_be_fenced machine n runs_on_n1 ≡ true → Fence n ≢ step Start 0 1 → Contains migration (Fence n)) (λ e d. cc) (λ e d. cc))
    (cells_of_one (λ r n. is_unprobed_state (cell_state machine r n runs_on_n1) ≡ true → Probe r n ≢ step Start 0 1 → Contains migration (Probe r n)) (λ e d. cc) (λ e d. cc))
    (λ r n o h l. cells_of_one (λ r n. GetsStep machine runs_on_n1 table r n o → step o r n ≢ step Start 0 1 → Contains migration (step o r n))
    (λ g. of_one (λ o. step o 0 0 ≢ step Start 0 1 → Contains migration (step o 0 0)) Stop o (λ d. (2, omega arith, refl))
    (step_of_uncycled machine runs_on_n1 table 0 0 o (nothing_cycled 0 0) g))
    (λ g. of_one (λ o. step o 0 1 ≢ step Start 0 1 → Contains migration (step o 0 1)) Start o (λ d. absurd (d refl))
    (step_of_uncycled machine runs_on_n1 table 0 1 o (nothing_cycled 0 1) g)) r n h l)
    (λ r n m h l y g. unwatched machine no_monitors (Operation Monitor r n m.interval_ms m.role ≢ step Start 0 1 → Contains migration (Operation Monitor r n m.interval_ms m.role)) r m y)
    a f (k 0 0 1 it_migrates)
nothing_more _ (sent r n m g) = only_so r n m g (λ r n m. Contains migration (MigrateTo r n m)) (0, omega arith, refl)
nothing_more _ (taken_in r n m g) = only_so r n m g (λ r n m. Contains migration (MigrateFrom r n m)) (1, omega arith, refl)

this_is_the_plan : AreNumbered machine (Needed machine runs_on_n1 table) migration
this_is_the_plan = record {
  needed = λ a. (of_three (Needed machine runs_on_n1 table) (MigrateTo 0 0 1) (MigrateFrom 0 0 1) (step Stop 0 0) a sent_from_n1 taken_in_on_n2 stopped_on_n1, nothing_more a);
  in_order = pairs_of_three (λ x y. is_earlier machine migration x y ≡ true) (MigrateTo 0 0 1) (MigrateFrom 0 0 1) (step Stop 0 0) refl refl refl;
}

as_printed : graph_text machine migration (transition machine migration runs_on_n1).precedes
    ≡ codes "action 1 migrate_to vm n1 n2\naction 2 migrate_from vm n1 n2 after 1\naction 3 stop vm n1 after 2\n"
unfolding digits
as_printed = refl

only_the_sending_begins : beginners (transition machine migration runs_on_n1) [] ≡ 1 ∷ []
only_the_sending_begins = refl

-- Where the sending fails it may be left on either node: both are stopped, and then it is started.

abbrev failed_sending : List Event
failed_sending = Begin 1 (MigrateTo 0 0 1) ∷ Ended 1 (MigrateTo 0 0 1) (Code 1) 1000 ∷ []

failed_sending_aborts : has_aborted (transition machine migration runs_on_n1) failed_sending ≡ true
failed_sending_aborts = refl

abbrev left_open : List Event
left_open = runs_on_n1 ++ failed_sending

abbrev open_table : Targets
open_table = table_by machine left_open (Place 0 ∷ [])

abbrev restart : List Action
restart = step Stop 0 0 ∷ step Stop 0 1 ∷ step Start 0 1 ∷ []

failed_on_n1 : cell_state machine 0 0 left_open ≡ cell.Failed
failed_on_n1 = refl

failed_on_n2 : cell_state machine 0 1 left_open ≡ cell.Failed
failed_on_n2 = refl

may_run_on_n2 : may_be_running machine 0 1 left_open ≡ true
may_run_on_n2 = refl

still_better_on_n2 : open_table 0 1 ≡ target.Started
still_better_on_n2 = refl

-- it doesn't migrate now, for it runs nowhere for sure
no_second_sending : (r n m : ℕ) → Migrates machine left_open open_table r n m → ⊥
no_second_sending r n m g =
    let from = bounds_of_first machine left_open open_table Stop r n 0 role.Started g.stopped in
    cells_of_one (λ r n. cell_state machine r n left_open ≡ cell.On → ⊥) (λ e. cc) (λ e. cc) r n from.0 from.1 g.running

not_cycled_on_n1 : Cycled machine left_open open_table 0 0 → ⊥
not_cycled_on_n1 h = let can = can_be_cycled machine left_open open_table 0 0 h in cc

not_cycled_on_n2 : Cycled machine left_open open_table 0 1 → ⊥
not_cycled_on_n2 h = let can = can_be_cycled machine left_open open_table 0 1 h in cc

then_stopped_on_n1 : Needed machine left_open open_table (step Stop 0 0)
then_stopped_on_n1 = kept (step Stop 0 0) (first_step 0 0 Stop (omega arith) (omega arith) (inr (not_cycled_on_n1, (0, omega arith, refl)))) (λ r n m g e. no_second_sending r n m g)

then_stopped_on_n2 : Needed machine left_open open_table (step Stop 0 1)
then_stopped_on_n2 = kept (step Stop 0 1) (first_step 0 1 Stop (omega arith) (omega arith) (inr (not_cycled_on_n2, (0, omega arith, refl)))) (λ r n m g e. no_second_sending r n m g)

then_started_on_n2 : Needed machine left_open open_table (step Start 0 1)
then_started_on_n2 = kept (step Start 0 1) (first_step 0 1 Start (omega arith) (omega arith) (inr (not_cycled_on_n2, (1, omega arith, refl)))) (λ r n m g e. no_second_sending r n m g)

nothing_more_then : (a : Action) → Needed machine left_open open_table a → Contains restart a
nothing_more_then = of_needed machine left_open open_table (Contains restart)
    (below_two (λ n. is_to_be_fenced machine n left_open ≡ true → Contains restart (Fence n)) (λ e. cc) (λ e. cc))
    (cells_of_one (λ r n. is_unprobed_state (cell_state machine r n left_open) ≡ true → Contains restart (Probe r n)) (λ e. cc) (λ e. cc))
    (λ r n o h l. cells_of_one (λ r n. GetsStep machine left_open open_table r n o → Contains restart (step o r n))
    (λ g. of_one (λ o. Contains restart (step o 0 0)) Stop o (0, omega arith, refl) (step_of_uncycled machine left_open open_table 0 0 o not_cycled_on_n1 g))
    (λ g. of_two (λ o. Contains restart (step o 0 1)) Stop Start o (1, omega arith, refl) (2, omega arith, refl)
    (step_of_uncycled machine left_open open_table 0 1 o not_cycled_on_n2 g)) r n h l)
    (λ r n m h l k g. unwatched machine no_monitors (Contains restart (Operation Monitor r n m.interval_ms m.role)) r m k)
    no_second_sending

then_the_plan : AreNumbered machine (Needed machine left_open open_table) restart
then_the_plan = record {
  needed = λ a. (of_three (Needed machine left_open open_table) (step Stop 0 0) (step Stop 0 1) (step Start 0 1) a then_stopped_on_n1 then_stopped_on_n2 then_started_on_n2, nothing_more_then a);
  in_order = pairs_of_three (λ x y. is_earlier machine restart x y ≡ true) (step Stop 0 0) (step Stop 0 1) (step Start 0 1) refl refl refl;
}

start_waits_for_both_stops : predecessors machine restart (step Start 0 1) ≡ step Stop 0 0 ∷ step Stop 0 1 ∷ []
start_waits_for_both_stops = refl

both_stops_begin : beginners (transition machine restart left_open) [] ≡ 1 ∷ 2 ∷ []
both_stops_begin = refl
