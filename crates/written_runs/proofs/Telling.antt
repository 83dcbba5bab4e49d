-- What some lines tell is one journal; and those of a run tell the journal that it has where it stands.
use Rattle.std.proofs.Common.{arith, ◌≡◌, ◌<◌, ℕ, Bool, true, Option, None, List, [], ◌∷◌, ◌++◌, length, append-nil, append_assoc, refl, sym, ap, ◌∙◌, subst}
use Rattle.std.specs.List.{AllByRecursion, flat_map}
use Rattle.std.proofs.lemmas.Bool.{eq-eqb}
use Rattle.lemmas.proofs.Ordered.{same_list}
use Rattle.cluster_types.specs.declared.cluster.Cluster.{Cluster}
use Rattle.cluster_types.specs.declared.journal.Action.{Action}
use Rattle.cluster_types.specs.declared.journal.Answer.{Answer}
use Rattle.cluster_types.specs.declared.journal.Answer.TheVariants as answer
use Rattle.cluster_types.specs.declared.journal.Event.{Event}
use Rattle.cluster_types.specs.declared.journal.Event.TheVariants.{Begin}
use Rattle.cluster_types.specs.declared.placement.NoReason.{NoReason}
use Rattle.cluster_types.specs.declared.placement.Pin.{Pin}
use Rattle.cluster_types.specs.declared.placement.Target.{Target}
use Rattle.cluster_types.specs.declared.run.RunLine.{RunLine}
use Rattle.cluster_types.specs.declared.run.RunLine.TheVariants as line
use Rattle.cluster_types.specs.AnswersThatApply.{added_by, is_number_of}
use Rattle.cluster_types.specs.Journals.{AreInFlightByNumber, in_flight_by_begin}
use Rattle.cluster_types.specs.Steps.{Transition, GoesBySteps, StepsOn, here as none_yet, begins, takes, is_silent, answer_events, in_flight_by_number, journal, idling, silent_code}
use Rattle.cluster_types.specs.Texts.{event_lines, leaf_lines, target_lines}
use Rattle.run_safety.proofs.ByNumber.{by_number}
use Rattle.run_safety.proofs.InFlight.{among_flying}
use Rattle.run_safety.proofs.Printed.{answer_line, end_line}
use Rattle.written_runs.specs.OverLines.{LinesTell}
use Rattle.written_runs.proofs.Each.{all_in_range, all_of_leaf}

-- lines of a plan tell nothing that happened
abbrev pub IsOfPlanning : RunLine → Type 0
IsOfPlanning (line.Begin k a) = ⊥
IsOfPlanning (line.Taken given) = ⊥
IsOfPlanning _ = Unit {0}

module _ (c : Cluster) where
  -- what is in flight by number is one list
  flight_one : (es : List Event) (f g : List (ℕ × Action)) → AreInFlightByNumber es f → AreInFlightByNumber es g → f ≡ g
  flight_one es f g one two =
      same_list (λ (x y : ℕ × Action). x.0 < y.0) (λ x y less more. omega (arith, less, more)) f g one.ascending two.ascending
      (λ p h. (two.members p.0 p.1).1 ((one.members p.0 p.1).0 h)) (λ p h. (one.members p.0 p.1).1 ((two.members p.0 p.1).0 h))

  pub tell_one : (es later other : List Event) (lines : List RunLine) → LinesTell c es lines later → LinesTell c es lines other → later ≡ other
  tell_one es later other [] one two = one ∙ sym two
  tell_one es later other (line.Begin k a ∷ lines) one two = tell_one (es ++ Begin k a ∷ []) later other lines one two
  tell_one es later other (line.Taken given ∷ lines) (f, is, one) (g, also, two) =
      tell_one (es ++ added_by c es f given) later other lines one
      (subst (λ z. LinesTell c (es ++ added_by c es z given) lines other) (sym (flight_one es f g is also)) two)
  tell_one es later other (_ ∷ lines) one two = tell_one es later other lines one two

  -- more lines tell more
  pub tell_more : (es middle later : List Event) (lines more : List RunLine) → LinesTell c es lines middle → LinesTell c middle more later → LinesTell c es (lines ++ more) later
  tell_more es middle later [] more one two = subst (λ z. LinesTell c z more later) one two
  tell_more es middle later (line.Begin k a ∷ lines) more one two = tell_more (es ++ Begin k a ∷ []) middle later lines more one two
  tell_more es middle later (line.Taken given ∷ lines) more (f, is, one) two = (f, is, tell_more (es ++ added_by c es f given) middle later lines more one two)
  tell_more es middle later (_ ∷ lines) more one two = tell_more es middle later lines more one two

  pub nothing_told : (es : List Event) (lines : List RunLine) → AllByRecursion IsOfPlanning lines → LinesTell c es lines es
  nothing_told es [] h = refl
  nothing_told es (line.Begin k a ∷ lines) h = absurd h.0
  nothing_told es (line.Taken given ∷ lines) h = absurd h.0
  nothing_told es (_ ∷ lines) h = nothing_told es lines h.1

  pub plan_lines : (pins : List (Option Pin)) (targets : ℕ → ℕ → Target) (reasons : List (Option NoReason)) (k : ℕ)
      → AllByRecursion IsOfPlanning (line.Transition k ∷ target_lines c pins targets reasons)
  plan_lines pins targets reasons k = (
    tt,
    all_in_range IsOfPlanning (leaf_lines c pins targets reasons) 0 (length c.leaves)
        (λ r low high. all_of_leaf IsOfPlanning c pins targets reasons r (λ pin. tt) (λ n less goal somewhere. tt) (λ reason e. tt)),
  )

-- what a transition does is told, where it began with nothing in flight
module _ (t : Transition) (idle : in_flight_by_begin t.planned_at ≡ []) (whole : Bool) (since : List Event) (goes : GoesBySteps t whole [] None since None) where
  flight : AreInFlightByNumber (journal t since) (in_flight_by_number t since)
  flight = by_number t whole None None since idle goes

  told_answer : (given : Answer) → LinesTell t.cluster (journal t since) (line.Taken given ∷ []) (journal t (since ++ answer_events t since given))
  told_answer given = (in_flight_by_number t since, flight, sym (append_assoc t.planned_at since (answer_events t since given)))

  pub told_step : (events : List Event) (rest left : Option (List Answer)) → StepsOn t whole since rest events left
      → LinesTell t.cluster (journal t since) (flat_map event_lines events) (journal t (since ++ events))
  told_step _ rest _ (begins _ k a begin) = sym (append_assoc t.planned_at since (Begin k a ∷ []))
  told_step _ rest left (takes _ _ given said taken) =
      subst (λ z. LinesTell t.cluster (journal t since) z (journal t (since ++ answer_events t since given))) (sym (answer_line t since given taken.applies)) (told_answer given)
  told_step _ rest left (is_silent _ _ k a said ends) =
      subst (λ z. LinesTell t.cluster (journal t since) z (journal t (since ++ answer_events t since (answer.End k (silent_code a)))))
      (sym (end_line t since k (silent_code a) (among_flying t since k a (is_number_of k) (eq-eqb k k refl) ends.action ends.in_flight)))
      (told_answer (answer.End k (silent_code a)))

-- an answer that comes while nothing is to be done
module _ (c : Cluster) (es : List Event) (idle : in_flight_by_begin es ≡ []) where
  pub told_idle : (given : Answer) → LinesTell c es (line.Taken given ∷ []) (es ++ answer_events (idling c es) [] given)
  told_idle given =
      let t = idling c es in
      let flies = by_number t true None None [] idle (none_yet [] None) in (
        in_flight_by_number t [],
        subst (λ z. AreInFlightByNumber z (in_flight_by_number t [])) (append-nil es) flies,
        ap (λ z. es ++ added_by c z (in_flight_by_number t []) given) (append-nil es),
      )
