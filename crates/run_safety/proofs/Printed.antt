-- Each answer that is taken prints its own line, and a silent end that of the code with which it ended.
use Rattle.std.proofs.Common.{arith, ◌≡◌, ◌<◌, ◌||◌, ℕ, suc, zero, Bool, true, false, List, [], ◌∷◌, ◌++◌, refl, ap, ◌∙◌, filter, eqb-true}
use Rattle.std.specs.Prelude.{Option, Some, map, find}
use Rattle.std.specs.List.{flat_map, list_any}
use Rattle.std.specs.Option.{option_map_or}
use Rattle.cluster_types.specs.declared.journal.Action.{Action}
use Rattle.cluster_types.specs.declared.journal.Action.TheVariants.{Fence, Probe, Operation, MigrateTo, MigrateFrom}
use Rattle.cluster_types.specs.declared.leaf.Op.TheVariants.{Start, Stop, Promote, Demote, Monitor}
use Rattle.cluster_types.specs.declared.journal.Answer.{Answer}
use Rattle.cluster_types.specs.declared.journal.Answer.TheVariants as answer
use Rattle.cluster_types.specs.declared.journal.Event.{Event}
use Rattle.cluster_types.specs.declared.journal.Event.TheVariants.{Lost, Ended}
use Rattle.cluster_types.specs.declared.journal.Outcome.TheVariants.{Code, TimedOut, Gone}
use Rattle.cluster_types.specs.declared.run.RunLine.TheVariants as line
use Rattle.cluster_types.specs.AnswersThatApply.{end_event, is_number_of}
use Rattle.cluster_types.specs.Journals.{is_on, moment_of}
use Rattle.cluster_types.specs.Steps.{Transition, Applies, ended, answer_events, in_flight_by_number, journal}
use Rattle.cluster_types.specs.Texts.{event_lines}
use Rattle.run_safety.proofs.InFlight.{number_within}
use Rattle.run_safety.proofs.Each.{Each, none, more}
use Rattle.run_safety.proofs.Shapes.{Flies, all_fly}

-- one that is flying is found, and has the number of an action
found_one : {X : Type 0} (P : X → Type 0) (q : X → Bool) (R : Type 0) (xs : List X) → Each P xs → list_any q xs ≡ true
    → ((y : X) → find q xs ≡ Some y → P y → q y ≡ true → R) → R
found_one P q R _ none e f = absurd (let g : ⊥ = cc in g)
found_one {X = X} P q R _ (more x xs p rest) e f = by (q x) refl e (λ g h. found_one P q R xs rest g h)
  where
    by : (b : Bool) → q x ≡ b → b || list_any q xs ≡ true → (list_any q xs ≡ true → ((y : X) → find q xs ≡ Some y → P y → q y ≡ true → R) → R) → R
    by true g h after = f x (rw g refl) p g
    by false g h after = after h (λ y e. f y (rw g e))

code_line : (k m code : ℕ) (a : Action) → 0 < k → event_lines (Ended k a (Code code) m) ≡ line.Taken (answer.End k code) ∷ []
code_line zero m code a low = absurd (let f : ⊥ = omega (arith, low) in f)
code_line (suc k) m code a low = refl

gone_line : (k m : ℕ) (a : Action) → event_lines (Ended k a Gone m) ≡ []
gone_line (suc k) m a = refl
gone_line zero m (Fence n) = refl
gone_line zero m (Probe r n) = refl
gone_line zero m (Operation Start r n interval role) = refl
gone_line zero m (Operation Stop r n interval role) = refl
gone_line zero m (Operation Promote r n interval role) = refl
gone_line zero m (Operation Demote r n interval role) = refl
gone_line zero m (Operation Monitor r n interval role) = refl
gone_line zero m (MigrateTo r source to) = refl
gone_line zero m (MigrateFrom r source to) = refl

gone_lines : (m n : ℕ) (ps : List (ℕ × Action)) → flat_map event_lines (map (λ (p : ℕ × Action). Ended p.0 p.1 Gone m) ps ++ Lost n ∷ []) ≡ line.Taken (answer.Lost n) ∷ []
gone_lines m n [] = refl
gone_lines m n (p ∷ ps) = ap (λ z. z ++ flat_map event_lines (map (λ (p : ℕ × Action). Ended p.0 p.1 Gone m) ps ++ Lost n ∷ [])) (gone_line p.0 m p.1) ∙ gone_lines m n ps

module _ (t : Transition) (since : List Event) where
  pub end_line : (k code : ℕ) → list_any (is_number_of k) (in_flight_by_number t since) ≡ true → flat_map event_lines (ended t since k (Code code)) ≡ line.Taken (answer.End k code) ∷ []
  end_line k code h =
      found_one (Flies t since) (is_number_of k) _ (in_flight_by_number t since) (all_fly t since) h (λ p e f same.
      let within = number_within t.actions p.0 p.1 f.action in
      let low : 0 < p.0 = omega (arith, within.0) in
      ap (λ (z : Option (ℕ × Action)). flat_map event_lines (option_map_or (λ p. end_event t.cluster (journal t since) (in_flight_by_number t since) (Code code) p ∷ []) z [])) e
      ∙ ap (λ z. z ++ []) (code_line p.0 (moment_of (journal t since)) code p.1 low)
      ∙ ap (λ z. line.Taken (answer.End z code) ∷ []) (eqb-true p.0 k same))

  timeout_line : (k : ℕ) → list_any (is_number_of k) (in_flight_by_number t since) ≡ true → flat_map event_lines (ended t since k TimedOut) ≡ line.Taken (answer.Timeout k) ∷ []
  timeout_line k h =
      found_one (Flies t since) (is_number_of k) _ (in_flight_by_number t since) (all_fly t since) h (λ p e f same.
      ap (λ (z : Option (ℕ × Action)). flat_map event_lines (option_map_or (λ p. end_event t.cluster (journal t since) (in_flight_by_number t since) TimedOut p ∷ []) z [])) e
      ∙ timed p.0 (moment_of (journal t since)) p.1 (let within = number_within t.actions p.0 p.1 f.action in omega (arith, within.0))
      ∙ ap (λ z. line.Taken (answer.Timeout z) ∷ []) (eqb-true p.0 k same))
    where
      timed : (k m : ℕ) (a : Action) → 0 < k → event_lines (Ended k a TimedOut m) ++ [] ≡ line.Taken (answer.Timeout k) ∷ []
      timed zero m a low = absurd (let f : ⊥ = omega (arith, low) in f)
      timed (suc k) m a low = refl

  pub answer_line : (given : Answer) → Applies t since given → flat_map event_lines (answer_events t since given) ≡ line.Taken given ∷ []
  answer_line (answer.End k code) h = end_line k code h
  answer_line (answer.Timeout k) h = timeout_line k h
  answer_line (answer.Lost n) h = gone_lines (moment_of (journal t since)) n (filter (λ (p : ℕ × Action). is_on n p.1) (in_flight_by_number t since))
  answer_line (answer.Up n) h = refl
  answer_line (answer.Quorum true) h = refl
  answer_line (answer.Quorum false) h = refl
  answer_line (answer.Wait seconds) h = refl
  answer_line (answer.Report n r interval code) h = refl
