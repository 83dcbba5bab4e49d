-- Where a transition has ended, nothing is in flight.
use Rattle.std.proofs.Common.{arith, ◌≡◌, ◌==◌, ℕ, Bool, true, false, List, [], ◌∷◌, ◌++◌, length, filter, append-nil, eqb-true, refl, sym, subst, ◌∙◌}
use Rattle.std.specs.Prelude.{Option, cond, map}
use Rattle.std.specs.List.{list_any}
use Rattle.std.proofs.lemmas.List.Folds.{list_any-append}
use Rattle.lemmas.proofs.Booleans.{sooner, either, number_itself}
use Rattle.lemmas.proofs.Ranges.{some_in_range}
use Rattle.cluster_types.specs.declared.journal.Action.{Action}
use Rattle.cluster_types.specs.declared.journal.Answer.{Answer}
use Rattle.cluster_types.specs.declared.journal.Event.{Event}
use Rattle.cluster_types.specs.declared.journal.Event.TheVariants.{Lost}
use Rattle.cluster_types.specs.declared.journal.Outcome.TheVariants.{Gone}
use Rattle.cluster_types.specs.AnswersThatApply.{end_event}
use Rattle.cluster_types.specs.Journals.{ends_number, in_flight_by_begin, is_on}
use Rattle.cluster_types.specs.Steps.{Transition, GoesBySteps, here, one_more, numbers_in_flight, in_flight_by_number, has_begun, is_number_in_flight, journal, numbers}
use Rattle.cluster_types.proofs.SourceLaws.{none-in_flight}
use Rattle.run_safety.proofs.Each.{Each, more, none}
use Rattle.run_safety.proofs.Flown.{Flown, begin_flown, silent_flown}
use Rattle.run_safety.proofs.InFlight.{number_within}
use Rattle.run_safety.proofs.Losses.{gone_begins_nothing}
use Rattle.run_safety.proofs.Shapes.{Adds, nothing, begun, over, reported, lost, up, quorum, wait, Flies, all_fly, gone_with, step_adds}
use Rattle.run_safety.proofs.Truths.{refuse}

module _ (t : Transition) where
  -- what ends with its node had begun
  gone_begun : (since : List Event) (n k : ℕ) (ps : List (ℕ × Action)) → Each (Flies t since) ps
      → list_any (ends_number k) (map (end_event t.cluster (journal t since) (in_flight_by_number t since) Gone) (filter (λ (p : ℕ × Action). is_on n p.1) ps)) ≡ true → has_begun t since k ≡ true
  gone_begun since n k _ none h = cc
  gone_begun since n k _ (more p ps f rest) h = by (is_on n p.1) h (gone_begun since n k ps rest)
    where
      by : (b : Bool) → list_any (ends_number k) (map (end_event t.cluster (journal t since) (in_flight_by_number t since) Gone) (cond b (p ∷ filter (λ (p : ℕ × Action). is_on n p.1) ps) (filter (λ (p : ℕ × Action). is_on n p.1) ps))) ≡ true
          → (list_any (ends_number k) (map (end_event t.cluster (journal t since) (in_flight_by_number t since) Gone) (filter (λ (p : ℕ × Action). is_on n p.1) ps)) ≡ true → has_begun t since k ≡ true)
          → has_begun t since k ≡ true
      by true h others = either (p.0 == k) _ h (λ e. subst (λ z. has_begun t since z ≡ true) (eqb-true p.0 k e) (sooner (has_begun t since p.0) _ f.in_flight)) others
      by false h others = others h

  add_flown : (since events : List Event) → Flown t since → Adds t since events → Flown t (since ++ events)
  add_flown since _ flown nothing = subst (Flown t) (sym (append-nil since)) flown
  add_flown since _ flown (begun k a begins) = begin_flown t since k a flown begins
  add_flown since _ flown (over k a o m flies h) =
      silent_flown t since _ flown refl (λ j low e. either (k == j) false e
      (λ same. subst (λ z. has_begun t since z ≡ true) (eqb-true k j same) (sooner (has_begun t since k) _ flies.in_flight)) (λ f. cc))
  add_flown since _ flown (reported r n interval code m h) =
      silent_flown t since _ flown refl (λ j low e. either (0 == j) false e (λ same. absurd (let zero : 0 ≡ j = eqb-true 0 j same in let f : ⊥ = omega (arith, zero, low) in f)) (λ f. cc))
  add_flown since _ flown (lost n h) =
      silent_flown t since _ flown (gone_begins_nothing t since n) (λ j low e.
      either _ _ (rw (list_any-append (ends_number j) (gone_with t since n) (Lost n ∷ [])) at e) (gone_begun since n j (in_flight_by_number t since) (all_fly t since)) (λ f. cc))
  add_flown since _ flown (up n) = silent_flown t since _ flown refl (λ j low e. cc)
  add_flown since _ flown (quorum now) = silent_flown t since _ flown refl (λ j low e. cc)
  add_flown since _ flown (wait seconds) = silent_flown t since _ flown refl (λ j low e. cc)

  flown_on : (whole : Bool) (since later : List Event) (rest left : Option (List Answer)) → GoesBySteps t whole since rest later left → Flown t since → Flown t later
  flown_on whole since _ rest _ (here _ _) flown = flown
  flown_on whole since after rest left (one_more _ events _ _ middle _ step next) flown =
      flown_on whole (since ++ events) after middle left next (add_flown since events flown (step_adds t since whole events rest middle step))

  pub flown_always : (whole : Bool) (rest left : Option (List Answer)) (later : List Event) → GoesBySteps t whole [] rest later left → Flown t later
  flown_always whole rest left after goes = flown_on whole [] after rest left goes (record { all = none; begun_first = λ k low h. cc })

  -- a number that passes is among those that are filtered
  passes_none : (p : ℕ → Bool) (k : ℕ) → p k ≡ true → (xs : List ℕ) → list_any (λ j. j == k) xs ≡ true → filter p xs ≡ [] → ⊥
  passes_none p k h [] g e = let f : ⊥ = cc in f
  passes_none p k h (x ∷ xs) g e = by (p x) refl e (passes_none p k h xs)
    where
      by : (b : Bool) → p x ≡ b → cond b (x ∷ filter p xs) (filter p xs) ≡ [] → (list_any (λ j. j == k) xs ≡ true → filter p xs ≡ [] → ⊥) → ⊥
      by true f e rest = let f : ⊥ = cc in f
      by false f e rest =
          either (x == k) _ g (λ same. refuse (p x) f (subst (λ z. p z ≡ true) (sym (eqb-true x k same)) h)) (λ other. rest other e)

  idle_flown : (since : List Event) → numbers_in_flight t since ≡ [] → (ps : List (ℕ × Action)) → Each (Flies t since) ps → ps ≡ []
  idle_flown since idle _ none = refl
  idle_flown since idle _ (more p ps f rest) =
      let within = number_within t.actions p.0 p.1 f.action in
      absurd (passes_none (is_number_in_flight t since) p.0 f.in_flight (numbers t) (some_in_range (λ j. j == p.0) 1 (length t.actions) p.0 (omega (arith, within.0)) (omega (arith, within.1)) (number_itself p.0)) idle)

  pub nothing_left : (whole : Bool) (rest left : Option (List Answer)) (later : List Event) → in_flight_by_begin t.planned_at ≡ [] → GoesBySteps t whole [] rest later left
      → numbers_in_flight t later ≡ [] → in_flight_by_begin (journal t later) ≡ []
  nothing_left whole rest left after before goes idle =
      none-in_flight t.planned_at after before ∙ idle_flown after idle (in_flight_by_begin after) (flown_always whole rest left after goes).all
