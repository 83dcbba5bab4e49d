-- How steps are put together.
use Rattle.std.proofs.Common.{◌≡◌, ◌<◌, ◌≤◌, ℕ, Bool, true, Option, Some, None, List, [], ◌∷◌, ◌++◌, length, refl, sym, ap, ◌∙◌, subst}
use Rattle.std.specs.List.{list_any}
use Rattle.std.proofs.lemmas.Bool.{eq-eqb}
use Rattle.std.proofs.lemmas.List.{nil_from_length}
use Rattle.cluster_types.specs.declared.journal.Action.{Action}
use Rattle.cluster_types.specs.declared.journal.Answer.{Answer}
use Rattle.cluster_types.specs.declared.journal.Event.{Event}
use Rattle.cluster_types.specs.declared.journal.Event.TheVariants.{Begin}
use Rattle.cluster_types.specs.Sources.{Says, untold}
use Rattle.cluster_types.specs.declared.journal.Outcome.TheVariants.{Code}
use Rattle.cluster_types.specs.AnswersThatApply.{is_number_of}
use Rattle.cluster_types.specs.Steps.{Transition, StepsOn, begins, takes, is_silent, GoesBySteps, here, one_more, HasEnded, ended, answer_events, numbers_in_flight, in_flight_by_number, is_settled, silent_code}
use Rattle.run_safety.proofs.InFlight.{among_flying}
use Rattle.run_safety.proofs.Printed.{answer_line, end_line}
use Rattle.graph_exec.specs.declared.transition.ends.WatchedEnd.{WatchedEnd}
use Rattle.graph_exec.specs.declared.transition.ends.WatchedEnd.TheVariants as how
use Rattle.graph_exec.specs.Questions.{answers_entered}
use Rattle.graph_exec.specs.Inner.Rounds.{Advanced, Answered, Began, StopsAs, asks_left, begins_left}
use Rattle.graph_exec.specs.Executors.{ExecutorOf, Took, Went, transition_in, later}
use Rattle.graph_exec.specs.Inner.ExecutorFields.{EndedSilently}
use Rattle.graph_exec.specs.Transitions.{EndsAs, WentByEnd, EndedByItself, IsExpected}
use Rattle.graph_exec.proofs.Entered.{entered_one}
use Rattle.graph_exec.proofs.Fewer.{asks_fewer, begin_leaves, silent_leaves, take_leaves}
use Rattle.graph_exec.proofs.Flying.{many_flying}

pub goes-on : (t : Transition) (whole : Bool) (since middle later : List Event) (rest between left : Option (List Answer))
    → GoesBySteps t whole since rest middle between → GoesBySteps t whole middle between later left → GoesBySteps t whole since rest later left
goes-on t whole since _ later rest _ left (here _ _) more = more
goes-on t whole since middle later rest between left (one_more _ events _ _ next _ step first) more =
    one_more since events later rest next left step (goes-on t whole (since ++ events) middle later next between left first more)

-- the same steps may come of a source that tells nothing
pub step_untold : (t : Transition) (whole : Bool) (since events : List Event) (rest left : Option (List Answer)) → StepsOn t whole since rest events left
    → StepsOn t true since None events None
step_untold t whole since _ rest _ (begins _ k a allowed) = begins None k a allowed
step_untold t whole since _ rest left (takes _ _ given said taken) = takes None None given (untold (Some given)) taken
step_untold t whole since _ rest left (is_silent _ _ k a said ends) = is_silent None None k a (untold None) ends

goes_untold : (t : Transition) (whole : Bool) (since later : List Event) (rest left : Option (List Answer)) → GoesBySteps t whole since rest later left
    → GoesBySteps t true since None later None
goes_untold t whole since _ rest _ (here _ _) = here since None
goes_untold t whole since later rest left (one_more _ events _ _ middle _ step more) =
    one_more since events later None None None (step_untold t whole since events rest middle step) (goes_untold t whole (since ++ events) later middle left more)

pub went_untold : (whole : Bool) (old new : ExecutorOf) (rest left : Option (List Answer)) → Went whole old new rest left → Went true old new None None
went_untold whole old new rest left w = record { same = w.same; steps = goes_untold (transition_in old) whole old.since new.since rest left w.steps }

pub went_nowhere : (whole : Bool) (r : ExecutorOf) (rest : Option (List Answer)) → Went whole r r rest rest
went_nowhere whole r rest = record { same = refl; steps = here r.since rest }

-- one step
pub went_step : (whole : Bool) (old new : ExecutorOf) (events : List Event) (rest left : Option (List Answer)) → new ≡ later old events
    → StepsOn (transition_in old) whole old.since rest events left → Went whole old new rest left
went_step whole old new events rest left e step =
    rw e (record { same = refl; steps = one_more old.since events (old.since ++ events) rest left left step (here (old.since ++ events) left) })

module _ (whole : Bool) (first middle last : ExecutorOf) (rest between left : Option (List Answer)) where
  pub went_on : Went whole first middle rest between → Went whole middle last between left → Went whole first last rest left
  went_on a b =
      let going_is : transition_in middle ≡ transition_in first = ap transition_in a.same in
      let steps = subst (λ (t : Transition). GoesBySteps t whole middle.since between last.since left) going_is b.steps in
      record {
        same = b.same ∙ ap (λ (r : ExecutorOf). record { cluster = r.cluster; graph = r.graph; planned_at = r.planned_at; since = last.since; promotions = r.promotions }) a.same;
        steps = goes-on (transition_in first) whole first.since middle.since last.since rest between left a.steps steps;
      }

-- up to the answer that doesn't apply
module _ (whole : Bool) (first middle last : ExecutorOf) (rest between left : Option (List Answer)) where
  pub gone_further : (end : WatchedEnd) → Went whole first middle rest between → WentByEnd whole middle last between left end → WentByEnd whole first last rest left end
  gone_further (how.Unexpected given) w g =
      record { before = g.before; went = went_on whole first middle last rest between g.before w g.went; said = g.said }
  gone_further how.Complete w g = went_on whole first middle last rest between left w g
  gone_further (how.Aborted event) w g = went_on whole first middle last rest between left w g
  gone_further how.SourceFault w g = went_on whole first middle last rest between left w g
  gone_further how.Stopped w g = went_on whole first middle last rest between left w g

module _ (whole : Bool) (old new : ExecutorOf) (rest left : Option (List Answer)) where
  pub went_begun : Began old new → left ≡ rest → Went whole old new rest left
  went_begun b e = rw e (went_step whole old new _ rest rest b.now.goes_on (begins rest b.number b.now.action b.now.begins))

  pub answered_by : (given : Answer) → Says whole rest (Some given) left → Took old new given → Answered whole old new rest left given
  answered_by given said t = record {
    events = answer_events (transition_in old) old.since given;
    step = takes rest left given said t.takes;
    goes_on = t.goes_on;
    adds = refl;
    applies = t.takes.applies;
    lines = answer_line (transition_in old) old.since given t.takes.applies;
    fewer = rw t.goes_on (take_leaves old given t.takes.applies);
  }

  flies : {given : Answer} (s : EndedSilently old new given) → list_any (is_number_of s.number) (in_flight_by_number (transition_in old) old.since) ≡ true
  flies s = among_flying (transition_in old) old.since s.number s.action (is_number_of s.number) (eq-eqb s.number s.number refl) s.ends.action s.ends.in_flight

  pub answered_silently : (given : Answer) → Says whole rest None left → EndedSilently old new given → Answered whole old new rest left given
  answered_silently given said s = rw s.given_is (record {
    events = ended (transition_in old) old.since s.number (Code (silent_code s.action));
    step = is_silent rest left s.number s.action said s.ends;
    goes_on = s.goes_on;
    adds = refl;
    applies = flies s;
    lines = end_line (transition_in old) old.since s.number (silent_code s.action) (flies s);
    fewer = rw s.goes_on (silent_leaves old s.number s.action s.ends);
  })

  pub went_answered : (given : Answer) → Answered whole old new rest left given → Went whole old new rest left
  went_answered given a = went_step whole old new a.events rest left a.goes_on a.step

  pub advanced : (given : Answer) → Answered whole old new rest left given → Advanced whole old new rest left
  advanced given a = record {
    went = went_answered given a;
    fewer = a.fewer;
    entered = ap (λ (r : ExecutorOf). answers_entered r.since) a.goes_on ∙ entered_one old.since a.events given a.lines;
  }

  -- no answer was taken
  pub gone_by : (end : WatchedEnd) → StopsAs whole old new rest left end → WentByEnd whole old new rest left end
  gone_by how.Complete s = absurd s
  gone_by (how.Aborted event) s = absurd s
  gone_by (how.Unexpected given) s = record { before = rest; went = rw s.refused.same (went_nowhere whole old rest); said = s.said }
  gone_by how.SourceFault s = rw (s.same, s.left_is) (went_nowhere whole old rest)
  gone_by how.Stopped s = absurd s

  pub ends_by : (end : WatchedEnd) → StopsAs whole old new rest left end → EndsAs new end
  ends_by how.Complete s = absurd s
  ends_by (how.Aborted event) s = absurd s
  ends_by (how.Unexpected given) s = rw s.refused.same (record { waiting = s.waiting; refused = s.refused.refused })
  ends_by how.SourceFault s = rw s.same s.waiting
  ends_by how.Stopped s = absurd s

  pub same_by : (end : WatchedEnd) → StopsAs whole old new rest left end → new ≡ old
  same_by how.Complete s = absurd s
  same_by (how.Aborted event) s = absurd s
  same_by (how.Unexpected given) s = s.refused.same
  same_by how.SourceFault s = s.same
  same_by how.Stopped s = absurd s

  -- so the transition hasn't gone to its end
  pub still_going : (end : WatchedEnd) → StopsAs whole old new rest left end → ¬ EndedByItself end
  still_going how.Complete s = absurd s
  still_going (how.Aborted event) s = absurd s
  still_going (how.Unexpected given) s = λ done. done
  still_going how.SourceFault s = λ done. done
  still_going how.Stopped s = absurd s

module _ (old new : ExecutorOf) (b : Began old new) where
  pub fewer_begins : begins_left new < begins_left old
  fewer_begins = rw b.now.goes_on (begin_leaves old b.number b.now.action b.now.begins)

  pub no_more_asks : asks_left new ≤ asks_left old
  no_more_asks = rw b.now.goes_on (asks_fewer old (Begin b.number b.now.action ∷ []))

-- nothing more was to be done
pub gone_done : (whole : Bool) (old new : ExecutorOf) (rest left : Option (List Answer)) (end : WatchedEnd) → EndedByItself end → Went whole old new rest left
    → WentByEnd whole old new rest left end
gone_done whole old new rest left how.Complete d w = w
gone_done whole old new rest left (how.Aborted event) d w = w
gone_done whole old new rest left (how.Unexpected given) d w = absurd d
gone_done whole old new rest left how.SourceFault d w = absurd d
gone_done whole old new rest left how.Stopped d w = absurd d

pub expected_done : (end : WatchedEnd) → EndedByItself end → IsExpected end
expected_done how.Complete d = d
expected_done (how.Aborted event) d = d
expected_done (how.Unexpected given) d = absurd d
expected_done how.SourceFault d = absurd d
expected_done how.Stopped d = absurd d

pub no_fault : {R : Type 0} (end : WatchedEnd) → EndedByItself end → end ≡ how.SourceFault → R
no_fault how.Complete d e = let f : ⊥ = cc in absurd f
no_fault (how.Aborted event) d e = let f : ⊥ = cc in absurd f
no_fault (how.Unexpected given) d e = absurd d
no_fault how.SourceFault d e = absurd d
no_fault how.Stopped d e = absurd d

-- where none may begin, the transition has ended when nothing is in flight; else it waits
module _ (r : ExecutorOf) (settled : is_settled (transition_in r) r.since ≡ true) (shown : List (ℕ × Action)) (is : shown ≡ in_flight_by_number (transition_in r) r.since) where
  as_many : length shown ≡ length (numbers_in_flight (transition_in r) r.since)
  as_many = ap length is ∙ many_flying r

  pub has_ended_now : length shown ≡ 0 → HasEnded (transition_in r) r.since
  has_ended_now none = record { settled = settled; idle = nil_from_length _ (sym as_many ∙ none) }
