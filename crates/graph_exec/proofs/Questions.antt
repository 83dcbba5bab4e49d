-- How often a source is asked in a run.
use Rattle.std.proofs.Common.{arith, ◌≡◌, ◌≤◌, ◌+◌, ℕ, Bool, List, [], ◌++◌, append-nil, ap, ◌∙◌, subst}
use Rattle.std.specs.Prelude.{Option, Result, Ok, Err}
use Rattle.cluster_types.specs.declared.journal.Answer.{Answer}
use Rattle.cluster_types.specs.declared.journal.Event.{Event}
use Rattle.cluster_types.specs.declared.journal.Journal.{Journal}
use Rattle.cluster_types.specs.declared.run.Passed.{Passed}
use Rattle.cluster_types.specs.Steps.{answer_events, idling}
use Rattle.run_safety.proofs.Printed.{answer_line}
use Rattle.graph_exec.specs.declared.run.planning.Planned.{Planned}
use Rattle.graph_exec.specs.declared.run.stop.ReplayStop.{ReplayStop}
use Rattle.graph_exec.specs.declared.run.stop.ReplayStop.TheVariants as stop
use Rattle.graph_exec.specs.Questions.{AskedBeside, AskedByEnd, answers_entered, events_kept, events_left}
use Rattle.graph_exec.specs.Executors.{ExecutorOf, Went}
use Rattle.graph_exec.specs.Inner.KeptTransitions.{IsUnanswered, TookIdle, kept_end}
use Rattle.graph_exec.specs.Inner.Turns.{IsReady, left_of, plain_of}
use Rattle.graph_exec.specs.KnownJournals.{KnownJournalOf}
use Rattle.graph_exec.proofs.Entered.{asks_then, entered-append, entered_one}
use Rattle.graph_exec.proofs.Ready.{same_events, starts_fresh}

-- a transition from its first event on
module _ (first last : ExecutorOf) (planned : last.planned_at ≡ first.planned_at) (fresh : first.since ≡ []) (beside before now : ℕ)
    (asked : AskedBeside beside before now first.since last.since) where
  pub asks_behind : (es : List Event) → es ≡ last.planned_at ++ last.since → AskedBeside beside before now first.planned_at es
  asks_behind es is =
      let none : answers_entered first.since ≡ 0 = ap answers_entered fresh in
      let same : answers_entered last.planned_at ≡ answers_entered first.planned_at = ap answers_entered planned in
      let all : answers_entered es ≡ answers_entered last.planned_at + answers_entered last.since = ap answers_entered is ∙ entered-append last.planned_at last.since in
      let so_far = asked.few in
      record { few = omega (arith, none, same, all, so_far) }

module _ (j : KnownJournalOf) (p : Planned) (ready : IsReady j p) where
  -- it is planned
  pub asks_planned : (before : ℕ) (journal : Journal) → journal ≡ left_of p.executor → AskedBeside 0 before before j.events journal.events
  asks_planned before journal is =
      let events : journal.events ≡ j.events ++ [] = ap (λ (x : Journal). x.events) is ∙ ap (λ (r : ExecutorOf). (left_of r).events) ready.fresh in
      let same : answers_entered journal.events ≡ answers_entered j.events = ap answers_entered (events ∙ append-nil j.events) in
      record { few = omega (arith, same) }

  -- its journal is that of the plan
  pub asks_carried : (beside before now : ℕ) (later : List Event) → AskedBeside beside before now p.executor.planned_at later → AskedBeside beside before now j.events later
  asks_carried beside before now later asked = subst (λ (es : List Event). AskedBeside beside before now es later) (same_events j p ready) asked

  pub asks_carried_end : (before now : ℕ) (end : Result Journal (ReplayStop Journal)) → AskedByEnd events_left before now p.executor.planned_at end
      → AskedByEnd events_left before now j.events end
  asks_carried_end before now end asked = subst (λ (es : List Event). AskedByEnd events_left before now es end) (same_events j p ready) asked

  -- it is carried out
  pub asks_there : (whole : Bool) (now : ExecutorOf) (rest left : Option (List Answer)) → Went whole p.executor now rest left → (beside asked asked_now : ℕ)
      → AskedBeside beside asked asked_now p.executor.since now.since → (es : List Event) → es ≡ now.planned_at ++ now.since → AskedBeside beside asked asked_now j.events es
  asks_there whole now rest left went beside asked asked_now h es is =
      asks_carried beside asked asked_now es
      (asks_behind p.executor now (ap (λ (r : ExecutorOf). r.planned_at) went.same) (starts_fresh j p ready) beside asked asked_now h es is)

-- a question while nothing is to be done
module _ (j : KnownJournalOf) (before now : ℕ) (few : now ≤ before + 1) where
  pub asks_answered : (given : Answer) (next : KnownJournalOf) → TookIdle j next given → AskedBeside 0 before now j.events next.events
  asks_answered given next took =
      let t = idling j.cluster j.events in
      let one : answers_entered (j.events ++ answer_events t [] given) ≡ answers_entered j.events + 1
      = entered_one j.events (answer_events t [] given) given (answer_line t [] given took.applies) in
      let entered : answers_entered next.events ≡ answers_entered j.events + 1 = ap (λ (x : KnownJournalOf). answers_entered x.events) took.goes_on ∙ one in
      record { few = omega (arith, entered, few) }

  asks_idly : (journal : Journal) → journal ≡ plain_of j → AskedBeside 1 before now j.events journal.events
  asks_idly journal is =
      let entered : answers_entered journal.events ≡ answers_entered j.events = ap (λ (x : Journal). answers_entered x.events) is in
      record { few = omega (arith, entered, few) }

  pub asks_unanswered : (whole : Bool) (rest left : Option (List Answer)) (over : Bool) (end : Result Journal (ReplayStop Journal))
      → IsUnanswered whole j rest left over end → AskedByEnd events_left before now j.events end
  asks_unanswered whole rest left over (Ok journal) w = asks_idly journal w.leaves
  asks_unanswered whole rest left over (Err (stop.Unexpected journal given)) w = asks_idly journal (w.leaves ∙ ap plain_of w.refused.same)
  asks_unanswered whole rest left over (Err (stop.SourceFault journal)) w = asks_idly journal w.leaves
  asks_unanswered whole rest left over (Err (stop.Stopped journal)) w = absurd w
  asks_unanswered whole rest left over (Err (stop.Most journal)) w = absurd w
  asks_unanswered whole rest left over (Err stop.NoMemory) w = tt

-- a part of a run, and then its end
module _ (before middle now : ℕ) (es between : List Event) (so_far : AskedBeside 0 before middle es between) where
  asks_more : (beside : ℕ) (later : List Event) → AskedBeside beside middle now between later → AskedBeside beside before now es later
  asks_more beside later a = asks_then beside before middle now es between later so_far a

  pub asks_on : (end : Result Journal (ReplayStop Journal)) → AskedByEnd events_left middle now between end → AskedByEnd events_left before now es end
  asks_on (Ok journal) a = asks_more 1 journal.events a
  asks_on (Err (stop.Unexpected journal given)) a = asks_more 1 journal.events a
  asks_on (Err (stop.SourceFault journal)) a = asks_more 1 journal.events a
  asks_on (Err (stop.Stopped journal)) a = asks_more 0 journal.events a
  asks_on (Err (stop.Most journal)) a = asks_more 0 journal.events a
  asks_on (Err stop.NoMemory) a = tt

-- the same of a run that is kept
pub asks_kept : (before now : ℕ) (es : List Event) (passed : List Passed) (end : Result Journal (ReplayStop Journal)) → AskedByEnd events_left before now es end
    → AskedByEnd events_kept before now es (kept_end passed end)
asks_kept before now es passed (Ok journal) a = a
asks_kept before now es passed (Err (stop.Unexpected journal given)) a = a
asks_kept before now es passed (Err (stop.SourceFault journal)) a = a
asks_kept before now es passed (Err (stop.Stopped journal)) a = a
asks_kept before now es passed (Err (stop.Most journal)) a = a
asks_kept before now es passed (Err stop.NoMemory) a = tt
