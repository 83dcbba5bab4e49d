-- Two runs of one simulated cluster go on together, step by step.
use Rattle.std.proofs.Common.{◌≡◌, ℕ, Bool, true, List, [], ◌∷◌, ◌++◌, refl, sym, ap, subst, ◌∙◌, append-nil, append_assoc}
use Rattle.std.specs.Prelude.{Option, Some}
use Rattle.std.specs.List.{flat_map}
use Rattle.std.proofs.lemmas.List.{append_cancel_left}
use Rattle.lemmas.proofs.Booleans.{number_itself}
use Rattle.cluster_types.specs.declared.cluster.Cluster.{Cluster}
use Rattle.cluster_types.specs.declared.journal.Action.{Action}
use Rattle.cluster_types.specs.declared.journal.Answer.{Answer}
use Rattle.cluster_types.specs.declared.journal.Answer.TheVariants as answer
use Rattle.cluster_types.specs.declared.journal.Event.{Event}
use Rattle.cluster_types.specs.declared.journal.Event.TheVariants.{Begin}
use Rattle.cluster_types.specs.declared.journal.Promotion.{Promotion}
use Rattle.cluster_types.specs.declared.run.RunLine.{RunLine}
use Rattle.cluster_types.specs.declared.run.RunLine.TheVariants as line
use Rattle.cluster_types.specs.AnswersThatApply.{added_by, is_number_of}
use Rattle.cluster_types.specs.Journals.{in_flight_by_begin}
use Rattle.cluster_types.specs.Plans.{transition_of}
use Rattle.cluster_types.specs.Runs.{RunStanding, amid, RunsOn, plans, goes, completes, aborts, answers, IsBetween, journal_at}
use Rattle.cluster_types.specs.Steps.{Transition, Applies, Begins, StepsOn, begins, takes, is_silent, IsWaiting, answer_events, in_flight_by_number, has_aborted, journal, count_from_outside, idling, silent_code}
use Rattle.cluster_types.specs.Tables.{targets_of}
use Rattle.cluster_types.specs.Texts.{event_lines, target_lines}
use Rattle.run_safety.proofs.InFlight.{among_flying}
use Rattle.run_safety.proofs.Truths.{refuse}
use Rattle.run_safety.specs.TwoRuns.{IsFront}
use Rattle.run_safety.specs.OnePlan.{PlansAreOne}
use Rattle.run_safety.proofs.OneStep.{ended_goes, unsettled}
use Rattle.run_safety.proofs.OneStep.{step_one as told_step_one}
use Rattle.simulated.specs.RealWorlds.{RealWorld}
use Rattle.simulated.specs.LivesOn.{LivesOn, StepOfLife, no_step, one_step}
use Rattle.simulated.proofs.FirstEvents.{AreFirst, answer_begins_none, answer_first, of_flight, one_front, some_first}
use Rattle.simulated.proofs.OneLife.{grown, no_turn, step_first, step_one, too_long, turn_one}

-- what a step of a transition adds: an action begins, or an answer that is given, or that silence stands for, is taken
data IsStep (t : Transition) (since : List Event) : List Event → Type 0 where
  a_begin : (k : ℕ) (a : Action) → Begins t since k a → IsStep t since (Begin k a ∷ [])
  an_answer : (given : Answer) → IsWaiting t since → AreFirst (added_by t.cluster (journal t since) (in_flight_by_number t since) given)
      → IsStep t since (added_by t.cluster (journal t since) (in_flight_by_number t since) given)

module _ (t : Transition) (since : List Event) where
  taken_first : (given : Answer) → Applies t since given → AreFirst (answer_events t since given)
  taken_first given applies = answer_first t.cluster (journal t since) (in_flight_by_number t since) given (of_flight t.cluster (journal t since) (in_flight_by_number t since) (count_from_outside t since) given applies)

  is_step : (whole : Bool) (events : List Event) (rest left : Option (List Answer)) → StepsOn t whole since rest events left → IsStep t since events
  is_step whole _ rest _ (begins _ k a begin) = a_begin k a begin
  is_step whole _ rest left (takes _ _ given said taken) = an_answer given taken.waiting (taken_first given taken.applies)
  is_step whole _ rest left (is_silent _ _ k a said over) =
      an_answer (answer.End k (silent_code a)) over.waiting
      (answer_first t.cluster (journal t since) (in_flight_by_number t since) (answer.End k (silent_code a)) (among_flying t since k a (is_number_of k) (number_itself k) over.action over.in_flight))

  step_is_first : (events : List Event) → IsStep t since events → AreFirst events
  step_is_first _ (a_begin k a begin) = λ more. refl
  step_is_first _ (an_answer given waiting first) = first

module _ (c : Cluster) (number : ℕ) where
  -- a life that goes on by these events
  record LivesBy (es : List Event) (w : RealWorld) (events later : List Event) (last : RealWorld) : Type 0 where
    next : RealWorld
    step : StepOfLife c number es w events next
    on : LivesOn c number (es ++ events) next later last

  lives_by : (es events more later : List Event) (w last : RealWorld) → AreFirst events → later ≡ (es ++ events) ++ more → LivesOn c number es w later last
      → LivesBy es w events later last
  lives_by es events more _ w _ first e (no_step _ _) = too_long es events more (some_first events first) e
  lives_by es events more later w last first e (one_step _ others _ _ next _ step on) =
      let g = grown c number (es ++ others) later next last on in
      let is : others ++ g.more ≡ events ++ more =
      append_cancel_left es (others ++ g.more) (events ++ more) (sym (append_assoc es others g.more) ∙ (sym g.joined ∙ (e ∙ append_assoc es events more))) in
      let same = one_front others events g.more more (step_first c number es w others next step) first is in
      record { next = next; step = subst (λ z. StepOfLife c number es w z next) same step; on = subst (λ z. LivesOn c number (es ++ z) next later last) same on }

  -- two steps of one transition from one moment on are the same, where both are steps of life
  both_steps : (t : Transition) (since events others es : List Event) (w next after : RealWorld) → IsStep t since events → IsStep t since others
      → StepOfLife c number es w events next → StepOfLife c number es w others after → (events ≡ others) × (next ≡ after)
  both_steps t since _ _ es w next after (a_begin k a one) (a_begin j b two) s d =
      let same = told_step_one t since true (Some []) tt (Begin k a ∷ []) (Begin j b ∷ []) (Some []) (Some []) (begins (Some []) k a one) (begins (Some []) j b two) in
      step_one c number es w (Begin k a ∷ []) (Begin j b ∷ []) [] [] next after (ap (λ z. z ++ []) same.0) s d
  both_steps t since _ _ es w next after (a_begin k a one) (an_answer given waiting first) s d = unsettled t since k a one waiting.settled
  both_steps t since _ _ es w next after (an_answer given waiting first) (a_begin k a two) s d = unsettled t since k a two waiting.settled
  both_steps t since _ _ es w next after (an_answer given waiting first) (an_answer other also second) s d =
      turn_one c number es w (answer_events t since given) (answer_events t since other) next after (answer_begins_none t.cluster (journal t since) (in_flight_by_number t since) given)
      (answer_begins_none t.cluster (journal t since) (in_flight_by_number t since) other) s d

  -- while nothing is to be done and nothing is in flight, no answer comes
  pub no_answer : {R : Type 0} (es later : List Event) (w last : RealWorld) (given : Answer) → in_flight_by_begin es ≡ [] → Applies (idling c es) [] given
      → IsFront (es ++ answer_events (idling c es) [] given) later → LivesOn c number es w later last → R
  no_answer es later w last given none applies grows life =
      let t = idling c es in
      let events = answer_events t [] given in
      let by = lives_by es events grows.more later w last (taken_first t [] given applies) grows.joined life in
      no_turn c number es w events by.next none (answer_begins_none c (journal t []) (in_flight_by_number t []) given) by.step

  -- where two runs stand after a step each: at one place, with one world, from which both go on
  pub record AreTogether (next after : RunStanding) (lines others : List RunLine) (here there : List Event) (last final : RealWorld) : Type 0 where
    pub lines_same : lines ≡ others
    pub same : next ≡ after
    pub world : RealWorld
    pub one : LivesOn c number (journal_at next) world here last
    pub two : LivesOn c number (journal_at next) world there final

  module _ (promotions : List Promotion) (one_plan : PlansAreOne c promotions) (here there : List Event) (w last final : RealWorld) where
    pub together : (at next after : RunStanding) (lines others : List RunLine) (rest other left right : Option (List Answer))
        → RunsOn c promotions true at rest lines next left → RunsOn c promotions true at other others after right
        → IsFront (journal_at next) here → IsFront (journal_at after) there → LivesOn c number (journal_at at) w here last → LivesOn c number (journal_at at) w there final
        → (IsBetween at → in_flight_by_begin (journal_at at) ≡ []) → AreTogether next after lines others here there last final
    together _ _ _ _ _ rest other _ _ (plans k es _ p a one) (plans _ _ _ q b two) grows also life second rests = record {
      lines_same = ap (λ z. line.Transition k ∷ target_lines c z (targets_of p.table) p.none) (one_plan.pins es p q a b one two)
          ∙ ap (λ z. line.Transition k ∷ target_lines c q.pins (targets_of z) p.none) (one_plan.tables es p q a b one two)
          ∙ ap (λ z. line.Transition k ∷ target_lines c q.pins (targets_of q.table) z) (one_plan.reasons es p q a b one two);
      same = ap (λ z. amid k (transition_of c es z) []) (one_plan.actions es p q a b one two);
      world = w;
      one = subst (λ z. LivesOn c number z w here last) (sym (append-nil es)) life;
      two = subst (λ z. LivesOn c number z w there final) (sym (append-nil es)) second;
    }
    together _ _ _ _ _ rest other left right (goes k t since events _ _ step) (goes _ _ _ others _ _ two) grows also life second rests =
        let first = is_step t since true events rest left step in
        let other_first = is_step t since true others other right two in
        let joined = append_assoc t.planned_at since in
        let by = lives_by (journal t since) events grows.more here w last (step_is_first t since events first) (grows.joined ∙ ap (λ z. z ++ grows.more) (sym (joined events))) life in
        let d = lives_by (journal t since) others also.more there w final (step_is_first t since others other_first) (also.joined ∙ ap (λ z. z ++ also.more) (sym (joined others))) second in
        let same = both_steps t since events others (journal t since) w by.next d.next first other_first by.step d.step in
        record {
          lines_same = ap (flat_map event_lines) same.0;
          same = ap (λ z. amid k t (since ++ z)) same.0;
          world = by.next;
          one = subst (λ z. LivesOn c number z by.next here last) (joined events) by.on;
          two = subst (λ z. LivesOn c number z by.next there final) (joined events)
              (subst (λ z. LivesOn c number (journal t since ++ z) by.next there final) (sym same.0)
              (subst (λ z. LivesOn c number (journal t since ++ others) z there final) (sym same.1) d.on));
        }
    together _ _ _ _ _ rest other left _ (goes k t since events _ _ step) (completes _ _ _ _ ended unaborted) grows also life second rests =
        ended_goes t since true events rest left ended step
    together _ _ _ _ _ rest other left _ (goes k t since events _ _ step) (aborts _ _ _ _ ended aborted) grows also life second rests =
        ended_goes t since true events rest left ended step
    together _ _ _ _ _ rest other _ right (completes k t since _ ended unaborted) (goes _ _ _ others _ _ two) grows also life second rests =
        ended_goes t since true others other right ended two
    together _ _ _ _ _ rest other _ _ (completes k t since _ ended unaborted) (completes _ _ _ _ over still) grows also life second rests =
        record { lines_same = refl; same = refl; world = w; one = life; two = second }
    together _ _ _ _ _ rest other _ _ (completes k t since _ ended unaborted) (aborts _ _ _ _ over aborted) grows also life second rests =
        refuse (has_aborted t since) unaborted aborted
    together _ _ _ _ _ rest other _ right (aborts k t since _ ended aborted) (goes _ _ _ others _ _ two) grows also life second rests =
        ended_goes t since true others other right ended two
    together _ _ _ _ _ rest other _ _ (aborts k t since _ ended aborted) (completes _ _ _ _ over unaborted) grows also life second rests =
        refuse (has_aborted t since) unaborted aborted
    together _ _ _ _ _ rest other _ _ (aborts k t since _ ended aborted) (aborts _ _ _ _ over still) grows also life second rests =
        record { lines_same = refl; same = refl; world = w; one = life; two = second }
    together _ _ _ _ _ rest other left right (answers k es _ _ given said applies) two grows also life second rests =
        no_answer es here w last given (rests tt) applies grows life
