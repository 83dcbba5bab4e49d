-- A source that agrees with the journal at the beginning of a transition, at its end, and while nothing is to be done.
use Rattle.std.proofs.Common.{arith, ◌≡◌, ℕ, Bool, true, false, List, [], ◌++◌, append-nil, refl, sym, ap, ◌∙◌, subst, count_by}
use Rattle.std.specs.Prelude.{Option}
use Rattle.lemmas.proofs.Members.{in_none}
use Rattle.cluster_types.specs.declared.cluster.Cluster.{Cluster}
use Rattle.cluster_types.specs.declared.journal.Action.{Action}
use Rattle.cluster_types.specs.declared.journal.Answer.{Answer}
use Rattle.cluster_types.specs.declared.journal.Event.{Event}
use Rattle.cluster_types.specs.declared.placement.Placed.{Placed}
use Rattle.cluster_types.specs.AnswersThatApply.{added_by, applies_after}
use Rattle.cluster_types.specs.Journals.{AreInFlightByNumber, in_flight_by_begin}
use Rattle.cluster_types.specs.Safety.{IsAtRest}
use Rattle.cluster_types.specs.Steps.{Applies, answer_events, is_from_outside, idling}
use Rattle.graph_exec.specs.KnownJournals.{KnownJournalOf}
use Rattle.graph_exec.specs.Promises.{IsGraphPlanned}
use Rattle.graph_exec.specs.Executors.{ExecutorOf, Went}
use Rattle.graph_exec.specs.Inner.ExecutorFields.{running_journal}
use Rattle.graph_exec.specs.SourceDuties.{AgreesOn}
use Rattle.graph_exec.specs.Transitions.{Accords}
use Rattle.graph_exec.specs.Inner.Turns.{HasPlannedGraph}

pub none_in_flight : (es : List Event) (flight : List (ℕ × Action)) → in_flight_by_begin es ≡ [] → flight ≡ [] → AreInFlightByNumber es flight
none_in_flight es flight idle none = rw none (record {
  members = λ k a. (λ h. absurd (in_none (k, a) h), λ h. absurd (in_none (k, a) (rw idle at h)));
  ascending = λ i j d less within. absurd (let f : ⊥ = omega arith in f);
})

module _ (agrees : Cluster → List Event → ℕ → Type 0) where
  pub accords_first : (r : ExecutorOf) → in_flight_by_begin r.planned_at ≡ [] → r.since ≡ [] → agrees r.cluster r.planned_at 0 → Accords agrees r
  accords_first r idle fresh h = record {
    idle = idle;
    agrees_now = subst (λ (since : List Event). agrees r.cluster (r.planned_at ++ since) (count_by is_from_outside since)) (sym fresh)
        (subst (λ (es : List Event). agrees r.cluster es 0) (sym (append-nil r.planned_at)) h);
  }

  module _ (anew : (c : Cluster) (es : List Event) (taken : ℕ) → agrees c es taken → agrees c es 0) where
    pub accords_last : (r now : ExecutorOf) → now.cluster ≡ r.cluster → Accords agrees now → (es : List Event) → es ≡ now.planned_at ++ now.since → agrees r.cluster es 0
    accords_last r now same a es is =
        subst (λ (c : Cluster). agrees c es 0) same (subst (λ (x : List Event). agrees now.cluster x 0) (sym is) (anew now.cluster (now.planned_at ++ now.since) _ a.agrees_now))

    -- an answer is taken, or refused, while nothing is to be done
    pub agrees_taken : (c : Cluster) (es : List Event) (given : Answer) → AgreesOn agrees c es 0 [] given → Applies (idling c es) [] given
        → (later : List Event) → later ≡ es ++ answer_events (idling c es) [] given → agrees c later 0
    agrees_taken c es given on applies later is =
        let here : applies_after c es [] 0 given ≡ true = subst (λ (x : List Event). applies_after c x [] 0 given ≡ true) (append-nil es) applies in
        let same : later ≡ es ++ added_by c es [] given = is ∙ ap (λ (x : List Event). es ++ added_by c x [] given) (append-nil es) in
        subst (λ (x : List Event). agrees c x 0) (sym same) (anew c (es ++ added_by c es [] given) _ (on.taken_on here))

  pub agrees_refused : (c : Cluster) (es : List Event) (given : Answer) → AgreesOn agrees c es 0 [] given → ¬ Applies (idling c es) [] given → agrees c es 0
  agrees_refused c es given on refused = on.refused (by (applies_after c es [] 0 given) refl) where
    by : (b : Bool) → applies_after c es [] 0 given ≡ b → applies_after c es [] 0 given ≡ false
    by true e = absurd (refused (subst (λ (x : List Event). applies_after c x [] 0 given ≡ true) (sym (append-nil es)) e))
    by false e = e

-- the plan is still that of the transition, and once it has ended its journal is at rest
module _ (whole : Bool) (r now : ExecutorOf) (rest left : Option (List Answer)) (went : Went whole r now rest left) where
  planned_still : (placed : Placed) → IsGraphPlanned r placed → IsGraphPlanned now placed
  planned_still placed is =
      subst (λ (x : ExecutorOf). IsGraphPlanned x placed) (sym went.same) (record { valid = is.valid; at_rest = is.at_rest; plan = is.plan })

  pub leaves_rest : HasPlannedGraph r → ((placed : Placed) → IsGraphPlanned now placed → IsAtRest (now.planned_at ++ now.since)) → (j : KnownJournalOf) → j ≡ running_journal now → IsAtRest j.events
  leaves_rest plan well j is =
      subst IsAtRest (sym (ap (λ (x : KnownJournalOf). x.events) is)) (well plan.placed (planned_still plan.placed plan.planned))

  pub stays_there : now.cluster ≡ r.cluster
  stays_there = ap (λ (x : ExecutorOf). x.cluster) went.same
