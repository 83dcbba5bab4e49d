-- What a source is told is in flight is so, and it agrees with what each step makes.
use Rattle.std.proofs.Common.{arith, ◌≡◌, ◌+◌, ℕ, true, None, List, ◌++◌, count_by, refl, append_assoc}
use Rattle.std.proofs.lemmas.Bool.{ne_eqb}
use Rattle.lemmas.proofs.Counts.{count-append}
use Rattle.cluster_types.specs.declared.cluster.Cluster.{Cluster}
use Rattle.cluster_types.specs.declared.journal.Action.{Action}
use Rattle.cluster_types.specs.declared.journal.Answer.{Answer}
use Rattle.cluster_types.specs.declared.journal.Event.{Event}
use Rattle.cluster_types.specs.AnswersThatApply.{applies_after}
use Rattle.cluster_types.specs.declared.journal.Outcome.TheVariants.{Code}
use Rattle.cluster_types.specs.Journals.{AreInFlightByNumber}
use Rattle.cluster_types.specs.Steps.{ended, in_flight_by_number, is_from_outside, count_from_outside, silent_code}
use Rattle.cluster_types.proofs.SilentEnds.{silent_end-is}
use Rattle.run_safety.proofs.ByNumber.{by_number}
use Rattle.run_safety.proofs.InFlight.{number_within}
use Rattle.graph_exec.specs.Executors.{ExecutorOf, IsAnswerRefused, IsUnderWay, Took, transition_in}
use Rattle.graph_exec.specs.Inner.ExecutorFields.{EndedSilently}
use Rattle.graph_exec.specs.Executors as running
use Rattle.graph_exec.specs.SourceDuties.{AgreesOn, AgreesSilent}
use Rattle.graph_exec.specs.Transitions.{Accords}
use Rattle.graph_exec.proofs.Fewer.{ended_is}
use Rattle.graph_exec.proofs.Flying.{many_flying}

module _ (old new : ExecutorOf) (before after : Cluster → List Event → ℕ → Type 0) (shown : List (ℕ × Action)) (is : shown ≡ in_flight_by_number (transition_in old) old.since)
    (u : IsUnderWay old) (was : Accords before old) where
  pub seen : AreInFlightByNumber (old.planned_at ++ old.since) shown
  seen = rw is (by_number (transition_in old) true None None old.since was.idle u.steps)

  accords_later : (events : List Event) → new ≡ running.later old events
      → after old.cluster ((old.planned_at ++ old.since) ++ events) (count_from_outside (transition_in old) old.since + count_by is_from_outside events) → Accords after new
  accords_later events e now =
      rw e (record {
        idle = was.idle;
        agrees_now = rw (← append_assoc old.planned_at old.since events, count-append is_from_outside old.since events) now;
      })

  pub accords_taken : (given : Answer) → Took old new given → AgreesOn after old.cluster (old.planned_at ++ old.since) (count_from_outside (transition_in old) old.since) shown given
      → Accords after new
  accords_taken given t on = accords_later _ t.goes_on ((rw is at on).taken_on t.takes.applies)

  pub accords_refused : (given : Answer) → IsAnswerRefused old new given → AgreesOn after old.cluster (old.planned_at ++ old.since) (count_from_outside (transition_in old) old.since) shown given
      → Accords after new
  accords_refused given t on = rw t.same (record { idle = was.idle; agrees_now = (rw is at on).refused t.refused })

  pub accords_silent : (given : Answer) → EndedSilently old new given → AgreesSilent after old.cluster (old.planned_at ++ old.since) (count_from_outside (transition_in old) old.since) shown → Accords after new
  accords_silent given s on =
      let within = number_within old.graph.actions s.number s.action s.ends.action in
      let none : count_by is_from_outside (ended (transition_in old) old.since s.number (Code (silent_code s.action))) ≡ 0
      = rw (ended_is old s.number within.0 within.1 s.ends.in_flight (Code (silent_code s.action))) (rw (ne_eqb s.number 0 (λ e. let f : ⊥ = omega (arith, within.0) in f)) refl) in
      let same : count_from_outside (transition_in old) old.since + count_by is_from_outside (ended (transition_in old) old.since s.number (Code (silent_code s.action))) ≡ count_from_outside (transition_in old) old.since
      = omega arith in
      let many = many_flying old in
      let busy = s.ends.waiting.busy in
      accords_later (ended (transition_in old) old.since s.number (Code (silent_code s.action))) s.goes_on
      (rw (same, silent_end-is (transition_in old) old.since s.number s.action s.ends) ((rw is at on).ends (omega arith)))

  pub accords_failed : new ≡ old → after old.cluster (old.planned_at ++ old.since) (count_from_outside (transition_in old) old.since) → Accords after new
  accords_failed e on = rw e (record { idle = was.idle; agrees_now = on })

  pub never_refused : (given : Answer) → IsAnswerRefused old new given
      → applies_after old.cluster (old.planned_at ++ old.since) shown (count_from_outside (transition_in old) old.since) given ≡ true → ⊥
  never_refused given t h = let a = rw is at h in let b = t.refused in let f : ⊥ = cc in f
