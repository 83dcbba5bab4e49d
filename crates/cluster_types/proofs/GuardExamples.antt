-- Examples of rules that no other example notices, computed from the definitions.
use Rattle.std.proofs.Common.{arith, ◌≡◌, zero, suc, pos, neg_ℤ, Bool, true, false, List, [], ◌∷◌, ◌++◌, refl, inl}
use Rattle.std.specs.Prelude.{codes}
use Rattle.cluster_types.specs.declared.cluster.Cluster.{Cluster}
use Rattle.cluster_types.specs.declared.journal.Action.{Action}
use Rattle.cluster_types.specs.declared.journal.Action.TheVariants.{Fence, Probe, Operation, MigrateTo, MigrateFrom}
use Rattle.cluster_types.specs.declared.journal.Answer.TheVariants as answer
use Rattle.cluster_types.specs.declared.journal.Event.{Event}
use Rattle.cluster_types.specs.declared.journal.Event.TheVariants.{Lost, Begin, Ended}
use Rattle.cluster_types.specs.declared.journal.Outcome.TheVariants.{Code}
use Rattle.cluster_types.specs.declared.leaf.Op.{Op}
use Rattle.cluster_types.specs.declared.leaf.Op.TheVariants.{Start, Stop, Promote, Demote, Monitor}
use Rattle.cluster_types.specs.declared.leaf.Role.TheVariants as role
use Rattle.cluster_types.specs.declared.placement.Target.TheVariants as target
use Rattle.cluster_types.specs.declared.rules.Order.{Order}
use Rattle.cluster_types.specs.declared.rules.OrderKind.{OrderKind}
use Rattle.cluster_types.specs.declared.rules.OrderKind.TheVariants as kind
use Rattle.cluster_types.specs.AnswersThatApply.{applies_after}
use Rattle.cluster_types.specs.NeededActions.{Cycled, IsHarmlessOrder, by_order, by_cycled, has_disturbing, steps_at}
use Rattle.cluster_types.specs.Numbers.{is_earlier}
use Rattle.cluster_types.specs.Steps.{silent_code, is_success}
use Rattle.cluster_types.specs.Tables.{Targets}
use Rattle.cluster_types.proofs.SmallClusters.{plain_leaf, plain_options, two_nodes, colocation, start_order, did, monitored, online, step}
use Rattle.cluster_types.proofs.SmallRuns.{predecessors, transition, beginners}

abbrev two : Cluster
two = two_nodes (plain_leaf (codes "a") ∷ plain_leaf (codes "b") ∷ [])

abbrev with_order : Order → Cluster
with_order o = record two { orders = o ∷ [] }

abbrev ordered : OrderKind → Op → Op → Bool → Order
ordered k first later both_ways = record (start_order (codes "o") 0 1 false) { kind = k; first_op = first; then_op = later; symmetrical = both_ways }

-- a Serialize order goes by the numbers, of one leaf too
serial_starts : predecessors (with_order (ordered kind.Serialize Start Start false)) (step Start 0 0 ∷ step Start 1 1 ∷ []) (step Start 1 1) ≡ step Start 0 0 ∷ []
serial_starts = refl

serial_stop_and_start : predecessors (with_order (ordered kind.Serialize Start Start false)) (step Stop 1 0 ∷ step Start 0 0 ∷ []) (step Start 0 0) ≡ step Stop 1 0 ∷ []
serial_stop_and_start = refl

abbrev twice : Cluster
twice = record (two_nodes (record (plain_leaf (codes "a")) { copies = 2; cloned = true } ∷ [])) {
  orders = record (start_order (codes "o") 0 0 false) { kind = kind.Serialize; symmetrical = false } ∷ [];
}

serial_copies : predecessors twice (step Start 0 0 ∷ step Start 0 1 ∷ []) (step Start 0 1) ≡ step Start 0 0 ∷ []
serial_copies = refl

-- an optional order orders like a mandatory one, and back where it is symmetrical
optional_starts : predecessors (with_order (ordered kind.Optional Start Start true)) (step Start 0 0 ∷ step Start 1 1 ∷ []) (step Start 1 1) ≡ step Start 0 0 ∷ []
optional_starts = refl

optional_stops : predecessors (with_order (ordered kind.Optional Start Start true)) (step Stop 1 1 ∷ step Stop 0 0 ∷ []) (step Stop 0 0) ≡ step Stop 1 1 ∷ []
optional_stops = refl

one_way_stops : predecessors (with_order (ordered kind.Mandatory Start Start false)) (step Stop 0 0 ∷ step Stop 1 1 ∷ []) (step Stop 0 0) ≡ []
one_way_stops = refl

-- a stop before a start, and the inverse words back
stop_then_start : predecessors (with_order (ordered kind.Mandatory Stop Start true)) (step Stop 0 0 ∷ step Start 1 1 ∷ []) (step Start 1 1) ≡ step Stop 0 0 ∷ []
stop_then_start = refl

stop_then_start_back : predecessors (with_order (ordered kind.Mandatory Stop Start true)) (step Stop 1 1 ∷ step Start 0 0 ∷ []) (step Start 0 0) ≡ step Stop 1 1 ∷ []
stop_then_start_back = refl

-- what takes a promoted role away comes before what takes the first's: its demote and its stop
taken_back_by_both : predecessors (with_order (ordered kind.Mandatory Start Promote true)) (step Demote 1 0 ∷ step Stop 1 0 ∷ step Stop 0 0 ∷ []) (step Stop 0 0)
    ≡ step Demote 1 0 ∷ step Stop 1 0 ∷ []
taken_back_by_both = refl

-- as many copies as nodes: a start waits for the stop on its own node alone
copy_for_each_node : predecessors twice (step Stop 0 0 ∷ step Start 0 1 ∷ []) (step Start 0 1) ≡ step Stop 0 0 ∷ []
copy_for_each_node = refl

abbrev full : Cluster
full = two_nodes (record (plain_leaf (codes "a")) { copies = 2; cloned = true } ∷ [])

full_waits_not : predecessors full (step Stop 0 0 ∷ step Start 0 1 ∷ []) (step Start 0 1) ≡ []
full_waits_not = refl

full_waits_here : predecessors full (step Stop 0 1 ∷ step Start 0 1 ∷ []) (step Start 0 1) ≡ step Stop 0 1 ∷ []
full_waits_here = refl

-- a separation: the other's probe comes first, and its demote where it must not be promoted there
abbrev apart : Cluster
apart = record two { colocations = colocation (codes "x") 0 1 (neg_ℤ (pos 1000000)) ∷ [] }

probe_of_the_other : predecessors apart (Probe 1 0 ∷ step Start 0 0 ∷ []) (step Start 0 0) ≡ Probe 1 0 ∷ []
probe_of_the_other = refl

abbrev apart_promoted : Cluster
apart_promoted = record two { colocations = record (colocation (codes "x") 0 1 (neg_ℤ (pos 1000000))) { dependent_role = role.Promoted } ∷ [] }

demote_of_the_other : predecessors apart_promoted (step Demote 0 0 ∷ step Start 1 0 ∷ []) (step Start 1 0) ≡ step Demote 0 0 ∷ []
demote_of_the_other = refl

promote_after_its_stop : predecessors apart_promoted (step Stop 1 0 ∷ step Promote 0 0 ∷ []) (step Promote 0 0) ≡ step Stop 1 0 ∷ []
promote_after_its_stop = refl

start_is_no_promote : predecessors apart_promoted (step Stop 1 0 ∷ step Start 0 0 ∷ []) (step Start 0 0) ≡ []
start_is_no_promote = refl

probe_where_it_is_promoted : predecessors apart_promoted (Probe 0 0 ∷ step Start 1 0 ∷ []) (step Start 1 0) ≡ Probe 0 0 ∷ []
probe_where_it_is_promoted = refl

stop_where_it_is_promoted : predecessors apart_promoted (step Stop 0 0 ∷ step Start 1 0 ∷ []) (step Start 1 0) ≡ step Stop 0 0 ∷ []
stop_where_it_is_promoted = refl

-- a migration that sends starts its leaf on the target: after its probe, after a fence, and after the probe there of what it must be apart from
sent_after_its_probe : predecessors two (Probe 0 0 ∷ MigrateTo 0 0 1 ∷ []) (MigrateTo 0 0 1) ≡ Probe 0 0 ∷ []
sent_after_its_probe = refl

sent_after_a_fence : predecessors two (Fence 1 ∷ MigrateTo 0 0 1 ∷ []) (MigrateTo 0 0 1) ≡ Fence 1 ∷ []
sent_after_a_fence = refl

sent_after_the_probe_there : predecessors apart (Probe 1 1 ∷ MigrateTo 0 0 1 ∷ []) (MigrateTo 0 0 1) ≡ Probe 1 1 ∷ []
sent_after_the_probe_there = refl

sent_before_the_probe_here : predecessors apart (Probe 1 0 ∷ MigrateTo 0 0 1 ∷ []) (MigrateTo 0 0 1) ≡ []
sent_before_the_probe_here = refl

-- a migration in an order: the then is stopped before the leaf is sent, and started after it was taken in
abbrev moving : List Action
moving = step Stop 1 0 ∷ MigrateTo 0 0 1 ∷ MigrateFrom 0 0 1 ∷ step Stop 0 0 ∷ step Start 1 1 ∷ Operation Monitor 0 1 10000 role.Started ∷ []

abbrev in_order : Cluster
in_order = with_order (ordered kind.Mandatory Start Start true)

sent_after_the_stop : predecessors in_order moving (MigrateTo 0 0 1) ≡ step Stop 1 0 ∷ []
sent_after_the_stop = refl

stopped_after_taken_in : predecessors in_order moving (step Stop 0 0) ≡ MigrateFrom 0 0 1 ∷ []
stopped_after_taken_in = refl

then_after_taken_in : predecessors in_order moving (step Start 1 1) ≡ step Stop 1 0 ∷ MigrateFrom 0 0 1 ∷ []
then_after_taken_in = refl

watched_after_taken_in : predecessors in_order moving (Operation Monitor 0 1 10000 role.Started) ≡ MigrateFrom 0 0 1 ∷ []
watched_after_taken_in = refl

-- the stops of migrating leaves have no rank
abbrev three : Cluster
three = record (two_nodes (plain_leaf (codes "vm") ∷ plain_leaf (codes "w") ∷ plain_leaf (codes "x") ∷ [])) { orders = start_order (codes "o") 0 2 false ∷ [] }

by_leaf : is_earlier three (MigrateTo 0 0 1 ∷ MigrateTo 1 0 1 ∷ []) (step Stop 0 0) (step Stop 1 0) ≡ true
by_leaf = refl

by_rank : is_earlier three [] (step Stop 1 0) (step Stop 0 0) ≡ true
by_rank = refl

-- a batch limit
abbrev narrow : Cluster
narrow = record two { properties = record plain_options { batch_limit = 1 } }

none_beside : beginners (transition narrow (Probe 0 0 ∷ Probe 0 1 ∷ []) []) (Begin 1 (Probe 0 0) ∷ []) ≡ []
none_beside = refl

next_after : beginners (transition narrow (Probe 0 0 ∷ Probe 0 1 ∷ []) []) (Begin 1 (Probe 0 0) ∷ Ended 1 (Probe 0 0) (Code 7) 0 ∷ []) ≡ 2 ∷ []
next_after = refl

-- at most 256 answers from outside, and ends still apply then
no_more_waits : applies_after two (online [] 1000) ((1, Probe 0 0) ∷ []) 256 (answer.Wait 0) ≡ false
no_more_waits = refl

one_more_wait : applies_after two (online [] 1000) ((1, Probe 0 0) ∷ []) 255 (answer.Wait 0) ≡ true
one_more_wait = refl

ends_go_on : applies_after two (online [] 1000) ((1, Probe 0 0) ∷ []) 256 (answer.End 1 7) ≡ true
ends_go_on = refl

-- reports: not while the cell has something in flight, nor while the leaf is sent there; a bad code alone
abbrev runs : List Event
runs = online (did Start 0 0 0 900 ∷ []) 1000

news : applies_after two runs [] 0 (answer.Report 0 0 10000 1) ≡ true
news = refl

good_is_no_news : applies_after two runs [] 0 (answer.Report 0 0 10000 8) ≡ false
good_is_no_news = refl

not_while_probed : applies_after two runs ((1, Probe 0 0) ∷ []) 0 (answer.Report 0 0 10000 1) ≡ false
not_while_probed = refl

not_while_sent : applies_after two runs ((1, MigrateTo 0 1 0) ∷ []) 0 (answer.Report 0 0 10000 1) ≡ false
not_while_sent = refl

not_of_interval_0 : applies_after two runs [] 0 (answer.Report 0 0 0 1) ≡ false
not_of_interval_0 = refl

-- a lost node can't come up before it is fenced, and can't be lost again
lost_comes_not_up : applies_after two (runs ++ Lost 1 ∷ []) [] 0 (answer.Up 1) ≡ false
lost_comes_not_up = refl

fenced_comes_up : applies_after two (runs ++ Lost 1 ∷ Ended 1 (Fence 1) (Code 0) 1000 ∷ []) [] 0 (answer.Up 1) ≡ true
fenced_comes_up = refl

lost_once : applies_after two (runs ++ Lost 1 ∷ []) [] 0 (answer.Lost 1) ≡ false
lost_once = refl

-- codes of promoted monitors
silent_promoted : silent_code (Operation Monitor 0 0 10 role.Promoted) ≡ 8
silent_promoted = refl

degraded_promoted : is_success two (Operation Monitor 0 0 10 role.Promoted) (Code 191) ≡ true
degraded_promoted = refl

started_is_no_success : is_success two (Operation Monitor 0 0 10 role.Promoted) (Code 0) ≡ false
started_is_no_success = refl

-- a then that is stopped and started again disturbs its own then
abbrev chain : Cluster
chain = record (two_nodes (plain_leaf (codes "a") ∷ plain_leaf (codes "b") ∷ plain_leaf (codes "c") ∷ [])) {
  orders = start_order (codes "o") 0 1 false ∷ start_order (codes "p") 1 2 false ∷ [];
}

abbrev failed : List Event
failed = online (did Start 0 0 0 900 ∷ monitored 0 0 10000 1 950 ∷ did Start 1 1 0 900 ∷ did Start 2 1 0 900 ∷ []) 1000

abbrev stay : Targets
stay zero zero = target.Started
stay (suc zero) (suc zero) = target.Started
stay (suc (suc zero)) (suc zero) = target.Started
stay _ _ = target.Nowhere

then_is_cycled : Cycled chain failed stay 1 1
then_is_cycled =
    by_order (start_order (codes "o") 0 1 false) 1 0
    (record {
      present = (0, omega arith, refl);
      mandatory = refl;
      both_ways = refl;
      first_gives = refl;
      then_gives = refl;
      within = omega arith;
      first_within = omega arith;
      in_scope = refl;
      can_be_cycled = refl;
      in_role = refl;
    }) refl

its_then_too : Cycled chain failed stay 2 1
its_then_too =
    by_cycled (start_order (codes "p") 1 2 false) 1 1
    (record {
      present = (1, omega arith, refl);
      mandatory = refl;
      both_ways = refl;
      first_gives = refl;
      then_gives = refl;
      within = omega arith;
      first_within = omega arith;
      in_scope = refl;
      can_be_cycled = refl;
      in_role = refl;
    }) then_is_cycled refl

steps_of_it : steps_at chain failed stay 2 1 true ≡ Stop ∷ Start ∷ []
steps_of_it = refl

-- an optional order by its start leaves a migration of its first be
harmless : IsHarmlessOrder chain failed stay 0 (ordered kind.Optional Start Start true)
harmless = record { as_first = λ e. inl ((λ f. cc), refl); as_then = λ e f. absurd (f refl) }

-- a stop of the first alone disturbs it; of one that promotes a demote, a stop and a promote do, and a start doesn't
stop_disturbs : has_disturbing Start (Stop ∷ []) ≡ true
stop_disturbs = refl

demote_disturbs : has_disturbing Promote (Demote ∷ []) ≡ true
demote_disturbs = refl

stop_disturbs_promoted : has_disturbing Promote (Stop ∷ []) ≡ true
stop_disturbs_promoted = refl

start_disturbs_not : has_disturbing Promote (Start ∷ []) ≡ false
start_disturbs_not = refl

promote_disturbs_not : has_disturbing Start (Promote ∷ Demote ∷ []) ≡ false
promote_disturbs_not = refl
