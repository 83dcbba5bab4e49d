-- Of the steps of a transition from one place there is one, where the answers to come are told.
use Rattle.std.proofs.Common.{arith, ◌≡◌, ◌<◌, ◌≤◌, ◌==◌, ◌&&◌, ◌||◌, not, ℕ, Bool, true, false, List, [], ◌∷◌, length, refl, ap, ◌∙◌, sym, subst, eqb-true}
use Rattle.std.specs.Prelude.{Option, Some, None}
use Rattle.std.specs.List.{list_any}
use Rattle.cluster_types.specs.declared.journal.Action.{Action}
use Rattle.cluster_types.specs.declared.journal.Answer.{Answer}
use Rattle.cluster_types.specs.declared.journal.Event.{Event}
use Rattle.cluster_types.specs.declared.journal.Event.TheVariants.{Begin}
use Rattle.cluster_types.specs.declared.journal.Outcome.TheVariants.{Code}
use Rattle.cluster_types.specs.Sources.{Says}
use Rattle.cluster_types.specs.Steps.{Transition, Begins, StepsOn, begins, takes, is_silent, HasEnded, IsWaiting, EndsSilently, action_at, ended, answer_events, numbers_in_flight, has_aborted, has_begun, has_room, is_settled, may_begin, numbers, silent_code}
use Rattle.lemmas.proofs.Booleans.{sooner}
use Rattle.std.proofs.lemmas.Bool.{not-true}
use Rattle.run_safety.specs.TwoRuns.{AreAnswersTold}
use Rattle.run_safety.proofs.Said.{says_one, some_or_none}

-- one that passes stands in the list
any_of : (p : ℕ → Bool) (k : ℕ) (xs : List ℕ) → p k ≡ true → list_any (λ j. j == k) xs ≡ true → list_any p xs ≡ true
any_of p k [] h e = cc
any_of p k (x ∷ xs) h e = by (x == k) refl e (any_of p k xs h)
  where
    by : (b : Bool) → (x == k) ≡ b → b || list_any (λ j. j == k) xs ≡ true → (list_any (λ j. j == k) xs ≡ true → list_any p xs ≡ true) → p x || list_any p xs ≡ true
    by true f e rest = let g : p x ≡ true = subst (λ z. p z ≡ true) (sym (eqb-true x k f)) h in rw g refl
    by false f e rest = or (p x) (rest e)
      where
        or : (b : Bool) → list_any p xs ≡ true → b || list_any p xs ≡ true
        or true g = refl
        or false g = g

module _ (t : Transition) (since : List Event) where
  -- where one may begin, the transition isn't settled
  pub unsettled : {R : Type 0} (k : ℕ) (a : Action) → Begins t since k a → is_settled t since ≡ true → R
  unsettled k a begin settled =
      let among : list_any (λ j. j == k) (numbers t) ≡ true =
      sooner (list_any (λ j. j == k) (numbers t)) _ (sooner (list_any (λ j. j == k) (numbers t) && not (has_aborted t since)) _
      (sooner (list_any (λ j. j == k) (numbers t) && not (has_aborted t since) && not (has_begun t since k)) _
      (sooner (list_any (λ j. j == k) (numbers t) && not (has_aborted t since) && not (has_begun t since k) && has_room t since) _ begin.allowed))) in
      let found : list_any (may_begin t since) (numbers t) ≡ true = any_of (may_begin t since) k (numbers t) begin.allowed among in
      let none : list_any (may_begin t since) (numbers t) ≡ false = not-true _ settled in
      absurd (let f : ⊥ = cc in f)

  -- a transition that has ended doesn't wait
  pub ended_waits : {R : Type 0} → HasEnded t since → IsWaiting t since → R
  ended_waits over waiting = absurd (let e = over.idle in let f : 0 < length (numbers_in_flight t since) = waiting.busy in let g : 0 < 0 = subst (λ z. 0 < length z) e f in let h : ⊥ = omega (arith, g) in h)

  -- nor does it go a step
  pub ended_goes : {R : Type 0} (whole : Bool) (events : List Event) (rest left : Option (List Answer)) → HasEnded t since → StepsOn t whole since rest events left → R
  ended_goes whole _ rest _ over (begins _ k a begin) = unsettled k a begin over.settled
  ended_goes whole _ rest left over (takes _ _ given said taken) = ended_waits over taken.waiting
  ended_goes whole _ rest left over (is_silent _ _ k a said ends) = ended_waits over ends.waiting

  antisym : (j k : ℕ) → j ≤ k → k ≤ j → j ≡ k
  antisym j k h g = grind arith

  same_action : (j k : ℕ) (a b : Action) → j ≡ k → action_at t j ≡ Some a → action_at t k ≡ Some b → a ≡ b
  same_action j k a b e h g = let f : action_at t j ≡ Some b = subst (λ z. action_at t z ≡ Some b) (sym e) g in let s : Some a ≡ Some b = sym h ∙ f in cc

  module _ (whole : Bool) (rest : Option (List Answer)) (told : AreAnswersTold rest) where
    begin_one : (k : ℕ) (a : Action) → Begins t since k a → (others : List Event) (left : Option (List Answer)) → StepsOn t whole since rest others left
        → (Begin k a ∷ [] ≡ others) × (rest ≡ left)
    begin_one k a one _ _ (begins _ j b two) =
        let number = antisym k j (one.lowest j two.allowed) (two.lowest k one.allowed) in
        let action = same_action k j a b number one.action two.action in
        (ap (λ z. Begin z a ∷ []) number ∙ ap (λ z. Begin j z ∷ []) action, refl)
    begin_one k a one _ left (takes _ _ given said taken) = unsettled k a one taken.waiting.settled
    begin_one k a one _ left (is_silent _ _ j b said ends) = unsettled k a one ends.waiting.settled

    take_one : (given : Answer) (middle : Option (List Answer)) → Says whole rest (Some given) middle → IsWaiting t since → (others : List Event) (left : Option (List Answer))
        → StepsOn t whole since rest others left → (answer_events t since given ≡ others) × (middle ≡ left)
    take_one given middle one waits _ _ (begins _ j b two) = unsettled j b two waits.settled
    take_one given middle one waits _ left (takes _ _ other said taken) =
        let same = says_one whole rest middle left (Some given) (Some other) told one said in
        let e : given ≡ other = cc in
        (ap (answer_events t since) e, same.1)
    take_one given middle one waits _ left (is_silent _ _ j b said ends) = some_or_none given (says_one whole rest middle left (Some given) None told one said).0

    silent_one : (k : ℕ) (a : Action) (middle : Option (List Answer)) → Says whole rest None middle → EndsSilently t since k a → (others : List Event) (left : Option (List Answer))
        → StepsOn t whole since rest others left → (ended t since k (Code (silent_code a)) ≡ others) × (middle ≡ left)
    silent_one k a middle one ends _ _ (begins _ j b two) = unsettled j b two ends.waiting.settled
    silent_one k a middle one ends _ left (takes _ _ given said taken) = some_or_none given (says_one whole rest left middle (Some given) None told said one).0
    silent_one k a middle one ends _ left (is_silent _ _ j b said also) =
        let number = antisym k j (ends.lowest j also.in_flight) (also.lowest k ends.in_flight) in
        let action = same_action k j a b number ends.action also.action in
        (ap (λ z. ended t since z (Code (silent_code a))) number ∙ ap (λ z. ended t since j (Code (silent_code z))) action, (says_one whole rest middle left None None told one said).1)

    pub step_one : (events others : List Event) (left other : Option (List Answer)) → StepsOn t whole since rest events left → StepsOn t whole since rest others other
        → (events ≡ others) × (left ≡ other)
    step_one _ others _ other (begins _ k a one) two = begin_one k a one others other two
    step_one _ others left other (takes _ _ given said taken) two = take_one given left said taken.waiting others other two
    step_one _ others left other (is_silent _ _ k a said ends) two = silent_one k a left said ends others other two
