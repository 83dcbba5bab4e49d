-- The run of a simulated cluster ends in one place, and its text is one.
use Rattle.std.proofs.Common.{◌≡◌, ◌≤◌, ◌+◌, ℕ, Bool, true, List, [], ◌++◌, refl, sym, ap, subst, ◌∙◌, arith}
use Rattle.std.specs.Prelude.{Option, None}
use Rattle.std.specs.List.{flat_map}
use Rattle.cluster_types.specs.declared.cluster.Cluster.{Cluster}
use Rattle.cluster_types.specs.declared.journal.Answer.{Answer}
use Rattle.cluster_types.specs.declared.journal.Event.{Event}
use Rattle.cluster_types.specs.declared.journal.Journal.{Journal}
use Rattle.cluster_types.specs.declared.journal.Promotion.{Promotion}
use Rattle.cluster_types.specs.declared.run.Run.{Run}
use Rattle.cluster_types.specs.declared.run.RunLine.{RunLine}
use Rattle.cluster_types.specs.Journals.{in_flight_by_begin}
use Rattle.cluster_types.specs.Plans.{transition_of}
use Rattle.cluster_types.specs.Runs.{RunStanding, due, amid, idle, RunsOn, plans, answers, Runs, here, one_more, IsBetween, journal_at}
use Rattle.cluster_types.specs.Steps.{answer_events, idling}
use Rattle.cluster_types.specs.Texts.{run_line, run_lines}
use Rattle.graph_exec.proofs.CountedTransitions.{next_number, passed_counted, runs_counted}
use Rattle.run_safety.proofs.Along.{journals_grow}
use Rattle.run_safety.proofs.PlansAreOne.{plans_one}
use Rattle.run_safety.proofs.Rests.{none_flies}
use Rattle.run_safety.proofs.SoFar.{runs_more}
use Rattle.simulated.specs.Lives.{Lives}
use Rattle.simulated.specs.RealWorlds.{RealWorld, first_world}
use Rattle.simulated.specs.WorldTexts.{IsAtEnd, IsLived, IsWorldText, ending, more_due, most_transitions, over, real_lines}
use Rattle.simulated.specs.LivesOn.{LivesOn}
use Rattle.simulated.proofs.OneLife.{from_first, stands_one}
use Rattle.simulated.proofs.Together.{no_answer, together}

module _ (c : Cluster) (promotions : List Promotion) (number : ℕ) (first : List Event) (none : in_flight_by_begin first ≡ []) where
  -- a run has come here
  record HasCome (at : RunStanding) (rest : Option (List Answer)) : Type 0 where
    from : Option (List Answer)
    lines : List RunLine
    runs : Runs c promotions true (due 1 first) from lines at rest

  -- a run ends here, with at most so many transitions
  record IsLast (at : RunStanding) : Type 0 where
    ended : Bool
    is : IsAtEnd ended at
    few : next_number at ≤ most_transitions + 1

  rests : (at : RunStanding) (rest : Option (List Answer)) → HasCome at rest → IsBetween at → in_flight_by_begin (journal_at at) ≡ []
  rests at rest come = none_flies c promotions true first at come.from rest come.lines none come.runs

  further : (at next : RunStanding) (rest left : Option (List Answer)) (lines : List RunLine) → HasCome at rest → RunsOn c promotions true at rest lines next left → HasCome next left
  further at next rest left lines come step =
      record { from = come.from; lines = come.lines ++ lines; runs = runs_more c promotions true (due 1 first) at next come.from rest left come.lines lines come.runs step }

  -- where a run ends, none goes on
  no_more : {R : Type 0} (at next later : RunStanding) (rest middle left : Option (List Answer)) (lines more : List RunLine) (w last : RealWorld) (ended : Bool)
      → HasCome at rest → IsAtEnd ended at → RunsOn c promotions true at rest lines next middle → Runs c promotions true next middle more later left → IsLast later
      → LivesOn c number (journal_at at) w (journal_at later) last → R
  no_more _ _ later rest _ left _ more w last _ come (over _ _) (answers k es _ middle given said applies) runs end life =
      no_answer c number es (journal_at later) w last given (rests (idle k es) rest come tt) applies
      (journals_grow c promotions true (due (k + 1) (es ++ answer_events (idling c es) [] given)) later middle left more runs) life
  no_more _ _ later rest _ left _ more w last _ come (more_due es) (plans _ _ _ placed actions plan) runs end life =
      let counted = runs_counted c promotions true (amid (most_transitions + 1) (transition_of c es actions) []) later rest left more runs in
      let few = end.few in
      absurd (let f : ⊥ = omega arith in f)

  -- they end at one place, with one list of lines and one world
  record AreOne (p q : RunStanding) (last final : RealWorld) (lines others : List RunLine) : Type 0 where
    at : p ≡ q
    lines_same : lines ≡ others
    worlds : last ≡ final

  go_together : (at p q : RunStanding) (rest other left right : Option (List Answer)) (lines others : List RunLine) (w last final : RealWorld) → IsLast p → IsLast q
      → HasCome at rest → HasCome at other → Runs c promotions true at rest lines p left → Runs c promotions true at other others q right
      → LivesOn c number (journal_at at) w (journal_at p) last → LivesOn c number (journal_at at) w (journal_at q) final → AreOne p q last final lines others
  go_together at _ _ rest other _ _ _ _ w last final end also come came (here _ _) (here _ _) one two = record {
    at = refl;
    lines_same = refl;
    worlds = sym (stands_one c number (journal_at at) (journal_at at) w last one refl) ∙ stands_one c number (journal_at at) (journal_at at) w final two refl;
  }
  go_together at _ q rest other _ right _ _ w last final end also come came (here _ _) (one_more _ after _ _ middle _ lines more step runs) one two =
      no_more at after q other middle right lines more w final end.ended came end.is step runs also two
  go_together at p _ rest other left _ _ _ w last final end also come came (one_more _ next _ _ middle _ lines more step runs) (here _ _) one two =
      no_more at next p rest middle left lines more w last also.ended come also.is step runs end one
  go_together at p q rest other left right _ _ w last final end also come came (one_more _ next _ _ middle _ lines more step runs)
      (one_more _ after _ _ behind _ others later second goes) one two =
      let both = together c number promotions (plans_one c promotions) (journal_at p) (journal_at q) w last final at next after lines others rest other middle behind step second
      (journals_grow c promotions true next p middle left more runs) (journals_grow c promotions true after q behind right later goes) one two (rests at rest come) in
      let on = go_together next p q middle behind left right more later both.world last final end also (further at next rest middle lines come step)
      (subst (λ z. HasCome z behind) (sym both.same) (further at after other behind others came second)) runs
      (subst (λ z. Runs c promotions true z behind later q right) (sym both.same) goes) both.one both.two in
      record { at = on.at; lines_same = ap (λ z. z ++ more) both.lines_same ∙ ap (λ z. others ++ z) on.lines_same; worlds = on.worlds }

  runs_one : (p q : RunStanding) (lines others : List RunLine) (last final : RealWorld) → IsLast p → IsLast q
      → Runs c promotions true (due 1 first) None lines p None → Runs c promotions true (due 1 first) None others q None
      → Lives c number first (journal_at p) last → Lives c number first (journal_at q) final → AreOne p q last final lines others
  runs_one p q lines others last final end also one two life second =
      let come : HasCome (due 1 first) None = record { from = None; lines = []; runs = here (due 1 first) None } in
      go_together (due 1 first) p q None None None None lines others (first_world c first) last final end also come come one two
      (from_first c number first (journal_at p) last life) (from_first c number first (journal_at q) final second)

same_ending : (p q : RunStanding) (is_over ended : Bool) → p ≡ q → IsAtEnd is_over p → IsAtEnd ended q → is_over ≡ ended
same_ending _ _ _ _ e (over k es) (over j others) = refl
same_ending _ _ _ _ e (over k es) (more_due others) = absurd (let f : ⊥ = cc in f)
same_ending _ _ _ _ e (more_due es) (over j others) = absurd (let f : ⊥ = cc in f)
same_ending _ _ _ _ e (more_due es) (more_due others) = refl

module _ (c : Cluster) (journal : Journal) (number : ℕ) (none : in_flight_by_begin journal.events ≡ []) where
  last_of : (run : Run) (is_over : Bool) (w : RealWorld) (lived : IsLived c journal number run is_over w) → IsLast c journal.promotions number journal.events none lived.at
  last_of run is_over w lived =
      let counted = runs_counted c journal.promotions true (due 1 journal.events) lived.at None None (run_lines c run) lived.goes.steps in
      let all = passed_counted c run.journal.events 1 run.passed in
      let few = lived.few in
      record { ended = is_over; is = lived.ends; few = omega arith }

  pub lived_one : (run other : Run) (is_over ended : Bool) (w last : RealWorld) (one : IsLived c journal number run is_over w) (two : IsLived c journal number other ended last)
      → (one.at ≡ two.at) × (run_lines c run ≡ run_lines c other) × (is_over ≡ ended) × (w ≡ last)
  lived_one run other is_over ended w last one two =
      let same = runs_one c journal.promotions number journal.events none one.at two.at (run_lines c run) (run_lines c other) w last
      (last_of run is_over w one) (last_of other ended last two) one.goes.steps two.goes.steps one.goes.lives two.goes.lives in
      (same.at, same.lines_same, same_ending one.at two.at is_over ended same.at one.ends two.ends, same.worlds)

  pub text_one : (text other : List ℕ) → IsWorldText c journal number text → IsWorldText c journal number other → text ≡ other
  text_one text other one two =
      let same = lived_one one.run two.run one.over two.over one.world two.world one.lived two.lived in
      one.printed
      ∙ (ap (λ z. flat_map (run_line c) z ++ (real_lines c one.world.cells ++ ending one.over)) same.1
      ∙ (ap (λ (z : RealWorld). flat_map (run_line c) (run_lines c two.run) ++ (real_lines c z.cells ++ ending one.over)) same.3
      ∙ (ap (λ z. flat_map (run_line c) (run_lines c two.run) ++ (real_lines c two.world.cells ++ ending z)) same.2 ∙ sym two.printed)))
