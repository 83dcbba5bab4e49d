-- Examples of answers and of runs that they cut, computed from the definitions.
use Rattle.std.proofs.Common.{arith, ◌≡◌, Bool, true, false, List, [], ◌∷◌, Some, None, refl}
use Rattle.std.specs.Prelude.{codes, Option}
use Rattle.cluster_types.specs.declared.cluster.Cluster.{Cluster}
use Rattle.cluster_types.specs.declared.journal.Action.TheVariants.{Probe, Operation}
use Rattle.cluster_types.specs.declared.journal.Answer.{Answer}
use Rattle.cluster_types.specs.declared.journal.Answer.TheVariants as answer
use Rattle.cluster_types.specs.declared.journal.Event.{Event}
use Rattle.cluster_types.specs.declared.journal.Event.TheVariants.{Begin, Quorum, Wait}
use Rattle.cluster_types.specs.declared.journal.Outcome.TheVariants.{Code}
use Rattle.cluster_types.specs.declared.leaf.Op.TheVariants.{Start, Stop, Monitor}
use Rattle.cluster_types.specs.declared.leaf.OnFail.TheVariants as on_fail
use Rattle.cluster_types.specs.declared.leaf.Role.TheVariants as role
use Rattle.cluster_types.specs.AnswersThatApply.{applies_after}
use Rattle.cluster_types.specs.Runs.{AppliesAt, IsCutAt, IsOver, amid, idle}
use Rattle.cluster_types.specs.Sources.{Says, told, untold, used_up}
use Rattle.cluster_types.specs.Steps.{Transition, aborts, is_success}
use Rattle.cluster_types.proofs.SmallClusters.{plain_leaf, two_nodes, did, online}
use Rattle.cluster_types.proofs.SmallRuns.{transition}

abbrev one : Cluster
one = two_nodes (plain_leaf (codes "a") ∷ [])

abbrev probes : Transition
probes = transition one (Probe 0 0 ∷ Probe 0 1 ∷ []) (online [] 1000)

abbrev begun : List Event
begun = Begin 1 (Probe 0 0) ∷ Begin 2 (Probe 0 1) ∷ []

-- an answer that doesn't apply cuts the run where one is asked for, and what is behind it stays
cut_by_another_number : IsCutAt one [] true (amid 1 probes begun) (Some (answer.End 9 0 ∷ answer.End 1 7 ∷ [])) (answer.End 9 0) (Some (answer.End 1 7 ∷ []))
cut_by_another_number = record {
  asking = record { settled = refl; busy = omega arith };
  said = told (answer.End 9 0) (answer.End 1 7 ∷ []);
  refused = λ h. cc;
}

not_before_all_has_begun : IsCutAt one [] true (amid 1 probes (Begin 1 (Probe 0 0) ∷ [])) (Some (answer.End 9 0 ∷ [])) (answer.End 9 0) (Some []) → ⊥
not_before_all_has_begun h = let e = h.asking.settled in cc

not_by_what_applies : IsCutAt one [] true (amid 1 probes begun) (Some (answer.End 1 7 ∷ [])) (answer.End 1 7) (Some []) → ⊥
not_by_what_applies h = h.refused refl

-- no end applies while nothing is to be done
idle_is_cut_by_an_end : AppliesAt one (idle 1 (online [] 1000)) (answer.End 1 0) → ⊥
idle_is_cut_by_an_end h = cc

idle_takes_a_wait : AppliesAt one (idle 1 (online [] 1000)) (answer.Wait 5)
idle_takes_a_wait = refl

-- a source that has more to say, or may have, isn't silent
silent_when : (whole : Bool) (rest left : Option (List Answer)) (said : Option Answer) (next : Answer) → Says whole rest said left → said ≡ None
    → rest ≡ Some (next ∷ []) → ⊥
silent_when whole _ _ _ next (told given rest) e f = cc
silent_when whole _ _ _ next (used_up all) e f = cc
silent_when whole _ _ _ next (untold said) e f = cc

says_what_is_left : (next : Answer) (left : Option (List Answer)) → Says true (Some (next ∷ [])) None left → ⊥
says_what_is_left next left h = silent_when true (Some (next ∷ [])) left None next h refl refl

not_known_to_be_all : (whole : Bool) (rest left : Option (List Answer)) (said : Option Answer) → Says whole rest said left → whole ≡ false → said ≡ None
    → rest ≡ Some [] → ⊥
not_known_to_be_all whole _ _ _ (told given rest) w e f = cc
not_known_to_be_all whole _ _ _ (used_up all) w e f = cc
not_known_to_be_all whole _ _ _ (untold said) w e f = cc

never_ends : (left : Option (List Answer)) → Says false (Some []) None left → ⊥
never_ends left h = not_known_to_be_all false (Some []) left None h refl refl refl

over_once_all_is_said : IsOver one [] true (idle 1 (online [] 1000)) (Some [])
over_once_all_is_said = used_up refl

-- the moment stays below 2^40
last_second : applies_after one (online [] 1099511627774) [] 0 (answer.Wait 1) ≡ true
last_second = refl

one_second_more : applies_after one (online [] 1099511627774) [] 0 (answer.Wait 2) ≡ false
one_second_more = refl

-- an ignored failure is a success and no news
abbrev ignoring : Cluster
ignoring = two_nodes (record (plain_leaf (codes "a")) { monitors = record { interval_ms = 10000; role = role.Started; on_fail = on_fail.Ignore } ∷ [] } ∷ [])

ignored_is_a_success : is_success ignoring (Operation Monitor 0 0 10000 role.Started) (Code 1) ≡ true
ignored_is_a_success = refl

ignored_is_no_news : applies_after ignoring (online (did Start 0 0 0 900 ∷ []) 1000) [] 0 (answer.Report 0 0 10000 1) ≡ false
ignored_is_no_news = refl

-- a word on quorum aborts, also when it says what was known; a wait doesn't
quorum_aborts : aborts one (Quorum true) ≡ true
quorum_aborts = refl

wait_aborts_nothing : aborts one (Wait 1) ≡ false
wait_aborts_nothing = refl

-- a node that a failed stop made unclean can be lost, but not come up
abbrev blamed : List Event
blamed = online (did Stop 0 0 1 900 ∷ []) 1000

unclean_is_lost : applies_after one blamed [] 0 (answer.Lost 0) ≡ true
unclean_is_lost = refl

unclean_comes_not_up : applies_after one blamed [] 0 (answer.Up 0) ≡ false
unclean_comes_not_up = refl
