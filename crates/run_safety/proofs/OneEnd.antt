-- A run that is over or cut goes no step, so it is one, and each other run from the same place is how it begins.
use Rattle.std.proofs.Common.{◌≡◌, Bool, List, [], ◌++◌, refl, ap, ◌∙◌, sym, subst, append-nil}
use Rattle.std.specs.Prelude.{Option, Some, None}
use Rattle.std.proofs.lemmas.Option.{same_Some}
use Rattle.cluster_types.specs.declared.cluster.Cluster.{Cluster}
use Rattle.cluster_types.specs.declared.journal.Answer.{Answer}
use Rattle.cluster_types.specs.declared.journal.Event.{Event}
use Rattle.cluster_types.specs.declared.journal.Promotion.{Promotion}
use Rattle.cluster_types.specs.declared.run.RunLine.{RunLine}
use Rattle.cluster_types.specs.Runs.{RunStanding, due, amid, idle, RunsOn, plans, goes, completes, aborts, answers, Runs, here, one_more, IsOver, IsCutAt, IsCutRun, IsWholeRun, journal_at}
use Rattle.cluster_types.specs.Sources.{Says}
use Rattle.cluster_types.specs.Steps.{Transition, StepsOn, begins, takes, is_silent, Applies, IsWaiting, idling}
use Rattle.run_safety.specs.TwoRuns.{AreAnswersTold, RunGoesOn, AreOnOneWay, this_first, other_first}
use Rattle.run_safety.specs.OnePlan.{PlansAreOne}
use Rattle.run_safety.proofs.OneRun.{one_way, runs_told}
use Rattle.run_safety.proofs.OneStep.{ended_waits, unsettled}
use Rattle.run_safety.proofs.Said.{says_one, some_or_none}

module _ (c : Cluster) (promotions : List Promotion) (whole : Bool) where
  -- no step goes on from here
  abbrev pub IsStuck : RunStanding → Option (List Answer) → Type 0
  IsStuck at rest = (lines : List RunLine) (next : RunStanding) (left : Option (List Answer)) → RunsOn c promotions whole at rest lines next left → ⊥

  over_stuck : (at : RunStanding) (rest : Option (List Answer)) → AreAnswersTold rest → IsOver c promotions whole at rest → IsStuck at rest
  over_stuck _ _ told over _ _ _ (plans k es _ placed actions plan) = over
  over_stuck _ _ told over _ _ _ (goes k t since events _ _ step) = over
  over_stuck _ _ told over _ _ _ (completes k t since _ ended unaborted) = over
  over_stuck _ _ told over _ _ _ (aborts k t since _ ended aborted) = over
  over_stuck _ rest told over _ _ left (answers k es _ _ given said applies) =
      some_or_none given (says_one whole rest left rest (Some given) None told said over).0

  step_cut : (t : Transition) (since events : List Event) (rest next left : Option (List Answer)) (given : Answer) → AreAnswersTold rest → IsWaiting t since → Says whole rest (Some given) left
      → ¬ Applies t since given → StepsOn t whole since rest events next → ⊥
  step_cut t since _ rest _ left given told waiting said refused (begins _ k a begin) = unsettled t since k a begin waiting.settled
  step_cut t since _ rest next left given told waiting said refused (takes _ _ other also taken) =
      let same = same_Some other given (says_one whole rest next left (Some other) (Some given) told also said).0 in
      refused (subst (λ z. Applies t since z) same taken.applies)
  step_cut t since _ rest next left given told waiting said refused (is_silent _ _ k a also ends) =
      some_or_none given (says_one whole rest left next (Some given) None told said also).0

  cut_stuck : (at : RunStanding) (rest left : Option (List Answer)) (given : Answer) → AreAnswersTold rest → IsCutAt c promotions whole at rest given left → IsStuck at rest
  cut_stuck _ rest left given told cut _ _ _ (plans k es _ placed actions plan) = cut.asking
  cut_stuck _ rest left given told cut _ _ next (goes k t since events _ _ step) = step_cut t since events rest next left given told cut.asking cut.said cut.refused step
  cut_stuck _ rest left given told cut _ _ _ (completes k t since _ ended unaborted) = ended_waits t since ended cut.asking
  cut_stuck _ rest left given told cut _ _ _ (aborts k t since _ ended aborted) = ended_waits t since ended cut.asking
  cut_stuck _ rest left given told cut _ _ next (answers k es _ _ other also applies) =
      let same = same_Some other given (says_one whole rest next left (Some other) (Some given) told also cut.said).0 in
      cut.refused (subst (λ z. Applies (idling c es) [] z) same applies)

  stuck_here : (at later : RunStanding) (rest left : Option (List Answer)) (lines : List RunLine) → IsStuck at rest → Runs c promotions whole at rest lines later left
      → (lines ≡ []) × (at ≡ later) × (rest ≡ left)
  stuck_here at _ rest _ _ stuck (here _ _) = (refl, refl, refl)
  stuck_here at later rest left _ stuck (one_more _ next _ _ middle _ lines more step runs) = absurd (stuck lines next middle step)

  module _ (one_plan : PlansAreOne c promotions) (first : RunStanding) (rest : Option (List Answer)) (told : AreAnswersTold rest) where
    -- a run that is stuck goes on from each other
    pub before_stuck : (p q : RunStanding) (left right : Option (List Answer)) (lines others : List RunLine) → Runs c promotions whole first rest lines p left
        → Runs c promotions whole first rest others q right → IsStuck q right → RunGoesOn c promotions whole lines p left others q right
    before_stuck p q left right lines others one two stuck = by (one_way c promotions whole one_plan first p q rest left right lines others told one two)
      where
        by : AreOnOneWay c promotions whole lines p left others q right → RunGoesOn c promotions whole lines p left others q right
        by (this_first g) = g
        by (other_first g) =
            let same = stuck_here q p right left g.more stuck g.runs in
            record {
              more = [];
              runs = subst (λ z. Runs c promotions whole p left [] z right) (sym same.1) (subst (λ z. Runs c promotions whole p left [] p z) (sym same.2) (here p left));
              joined = sym (g.joined ∙ ap (λ z. others ++ z) same.0 ∙ append-nil others) ∙ sym (append-nil lines);
            }

    pub both_stuck : (p q : RunStanding) (left right : Option (List Answer)) (lines others : List RunLine) → Runs c promotions whole first rest lines p left
        → Runs c promotions whole first rest others q right → IsStuck p left → IsStuck q right → (lines ≡ others) × (p ≡ q) × (left ≡ right)
    both_stuck p q left right lines others one two stuck also =
        let g = before_stuck p q left right lines others one two also in
        let same = stuck_here p q left right g.more stuck g.runs in
        (sym (g.joined ∙ ap (λ z. lines ++ z) same.0 ∙ append-nil lines), same.1, same.2)

  pub whole_stuck : (es left : List Event) (rest : Option (List Answer)) (lines : List RunLine) (told : AreAnswersTold rest) (run : IsWholeRun c promotions whole es rest lines left) → IsStuck run.last run.behind
  whole_stuck es left rest lines told run = over_stuck run.last run.behind (runs_told c promotions whole (due 1 es) run.last rest run.behind lines run.steps told) run.over

  pub cut_run_stuck : (es left : List Event) (rest behind : Option (List Answer)) (given : Answer) (lines : List RunLine) (told : AreAnswersTold rest)
      (run : IsCutRun c promotions whole es rest lines left given behind) → IsStuck run.last run.unread
  cut_run_stuck es left rest behind given lines told run =
      cut_stuck run.last run.unread behind given (runs_told c promotions whole (due 1 es) run.last rest run.unread lines run.steps told) run.cut

  module _ (one_plan : PlansAreOne c promotions) (es : List Event) (rest : Option (List Answer)) (told : AreAnswersTold rest) where
    pub whole_one : (left right : List Event) (lines others : List RunLine) → IsWholeRun c promotions whole es rest lines left → IsWholeRun c promotions whole es rest others right
        → (lines ≡ others) × (left ≡ right)
    whole_one left right lines others one two =
        let same = both_stuck one_plan (due 1 es) rest told one.last two.last one.behind two.behind lines others one.steps two.steps
        (whole_stuck es left rest lines told one) (whole_stuck es right rest others told two) in
        (same.0, one.leaves ∙ ap (λ z. journal_at z) same.1 ∙ sym two.leaves)

    pub cut_one : (left right : List Event) (lines others : List RunLine) (given other : Answer) (behind unread : Option (List Answer))
        → IsCutRun c promotions whole es rest lines left given behind → IsCutRun c promotions whole es rest others right other unread
        → (lines ≡ others) × (left ≡ right) × (given ≡ other) × (behind ≡ unread)
    cut_one left right lines others given other behind unread one two =
        let same = both_stuck one_plan (due 1 es) rest told one.last two.last one.unread two.unread lines others one.steps two.steps
        (cut_run_stuck es left rest behind given lines told one) (cut_run_stuck es right rest unread other others told two) in
        let said = says_one whole one.unread behind unread (Some given) (Some other) (runs_told c promotions whole (due 1 es) one.last rest one.unread lines one.steps told)
        one.cut.said (subst (λ z. Says whole z (Some other) unread) (sym same.2) two.cut.said) in
        (same.0, one.leaves ∙ ap (λ z. journal_at z) same.1 ∙ sym two.leaves, same_Some given other said.0, said.1)

    pub whole_or_cut : {R : Type 0} (left right : List Event) (lines others : List RunLine) (given : Answer) (behind : Option (List Answer))
        → IsWholeRun c promotions whole es rest lines left → IsCutRun c promotions whole es rest others right given behind → R
    whole_or_cut {R} left right lines others given behind one two =
        let same = both_stuck one_plan (due 1 es) rest told one.last two.last one.behind two.unread lines others one.steps two.steps
        (whole_stuck es left rest lines told one) (cut_run_stuck es right rest behind given others told two) in
        let cut : IsCutAt c promotions whole one.last one.behind given behind =
        subst (λ z. IsCutAt c promotions whole z one.behind given behind) (sym same.1) (subst (λ z. IsCutAt c promotions whole two.last z given behind) (sym same.2) two.cut) in
        by one.last one.behind one.over cut (runs_told c promotions whole (due 1 es) one.last rest one.behind lines one.steps told)
      where
        by : (at : RunStanding) (unread : Option (List Answer)) → IsOver c promotions whole at unread → IsCutAt c promotions whole at unread given behind → AreAnswersTold unread → R
        by (due k es) unread over cut told = absurd over
        by (amid k t since) unread over cut told = absurd over
        by (idle k es) unread over cut told = some_or_none given (says_one whole unread behind unread (Some given) None told cut.said over).0
