-- What holds of the steps of a transition, whatever answers come.
use Rattle.std.proofs.Common.{arith, ◌≡◌, ◌<◌, ◌≤◌, ◌==◌, ◌&&◌, ◌||◌, not, ℕ, Bool, true, false, List, [], ◌∷◌, ◌++◌, refl, sym, subst, length, filter, append-nil}
use Rattle.std.specs.Prelude.{Option, Some, None, map, find}
use Rattle.std.specs.List.{list_all, list_any, flat_map}
use Rattle.std.specs.Option.{option_map_or}
use Rattle.std.proofs.lemmas.Bool.{and_from, not-true}
use Rattle.lemmas.proofs.Booleans.{sooner, later, implied}
use Rattle.lemmas.proofs.Ranges.{each_in_range}
use Rattle.cluster_types.specs.declared.journal.Action.{Action}
use Rattle.cluster_types.specs.declared.journal.Answer.{Answer}
use Rattle.cluster_types.specs.declared.journal.Answer.TheVariants as answer
use Rattle.cluster_types.specs.declared.journal.Event.{Event}
use Rattle.cluster_types.specs.declared.journal.Event.TheVariants.{Begin, Ended}
use Rattle.cluster_types.specs.declared.journal.Outcome.{Outcome}
use Rattle.cluster_types.specs.declared.journal.Outcome.TheVariants.{Gone}
use Rattle.cluster_types.specs.AnswersThatApply.{end_event, is_number_of}
use Rattle.cluster_types.specs.Journals.{is_on, moment_of}
use Rattle.cluster_types.specs.Safety.{AtEachBegin, PredecessorsFirst}
use Rattle.cluster_types.specs.Steps.{Transition, Begins, GoesBySteps, here, one_more, StepsOn, begins, takes, is_silent, action_at, ended, answer_events, in_flight_by_number, journal, has_aborted, has_begun, has_room, has_succeeded, may_begin, numbers}

-- an event of a joined list stands in the one or in the other
pub split : (R : Type 0) (xs ys before after : List Event) (e : Event) → xs ++ ys ≡ before ++ e ∷ after
    → ((rest : List Event) → xs ≡ before ++ e ∷ rest → R) → ((front : List Event) → before ≡ xs ++ front → ys ≡ front ++ e ∷ after → R) → R
split R [] ys before after e q left right = right before refl q
split R (x ∷ xs) ys [] after e q left right = left xs (let same : x ≡ e = cc in cc)
split R (x ∷ xs) ys (b ∷ bs) after e q left right =
    let same : x ≡ b = cc in
    let tail : xs ++ ys ≡ bs ++ e ∷ after = cc in
    split R xs ys bs after e tail (λ rest p. left rest (let g : x ∷ xs ≡ b ∷ (bs ++ e ∷ rest) = cc in g))
    (λ front p r. right front (let g : b ∷ bs ≡ x ∷ (xs ++ front) = cc in g) r)

-- what holds at each begin of some events, and at each of those that come after them, holds at each of all
at-append : (P : List Event → ℕ → Action → Type 0) (xs ys : List Event) → AtEachBegin P xs
    → ((before after : List Event) (k : ℕ) (a : Action) → ys ≡ before ++ Begin k a ∷ after → P (xs ++ before) k a) → AtEachBegin P (xs ++ ys)
at-append P xs ys h g before after k a q =
    split (P before k a) xs ys before after (Begin k a) q (λ rest p. h before rest k a p) (λ front p r. subst (λ z. P z k a) (sym p) (g front after k a r))

-- The events of an answer begin nothing.

abbrev pub begins_nothing : Event → Bool
begins_nothing (Begin k a) = false
begins_nothing _ = true

pub no_begin : (R : Type 0) (xs before after : List Event) (k : ℕ) (a : Action) → list_all begins_nothing xs ≡ true → xs ≡ before ++ Begin k a ∷ after → R
no_begin R [] [] after k a h q = absurd (let e : false ≡ true = cc in let f : ⊥ = cc in f)
no_begin R [] (b ∷ bs) after k a h q = absurd (let f : ⊥ = cc in f)
no_begin R (x ∷ xs) [] after k a h q =
    let same : x ≡ Begin k a = cc in
    let g : begins_nothing x ≡ true = sooner (begins_nothing x) _ h in
    absurd (let f : ⊥ = cc in f)
no_begin R (x ∷ xs) (b ∷ bs) after k a h q = let tail : xs ≡ bs ++ Begin k a ∷ after = cc in no_begin R xs bs after k a (later (begins_nothing x) _ h) tail

ended-begins_nothing : (m : ℕ) (o : Outcome) (p : Option (ℕ × Action)) → list_all begins_nothing (option_map_or (λ (p : ℕ × Action). Ended p.0 p.1 o m ∷ []) p []) ≡ true
ended-begins_nothing m o (Some p) = refl
ended-begins_nothing m o None = refl

-- what each of some pairs adds passes
pub map_all : (q : Event → Bool) (f : ℕ × Action → Event) → ((p : ℕ × Action) → q (f p) ≡ true) → (ps : List (ℕ × Action)) → list_all q (map f ps) ≡ true
map_all q f h [] = refl
map_all q f h (p ∷ ps) = and_from (q (f p)) _ (h p) (map_all q f h ps)

pub joined_all : (p : Event → Bool) (xs ys : List Event) → list_all p xs ≡ true → list_all p ys ≡ true → list_all p (xs ++ ys) ≡ true
joined_all p [] ys h g = g
joined_all p (x ∷ xs) ys h g = and_from (p x) _ (sooner (p x) _ h) (joined_all p xs ys (later (p x) _ h) g)

pub flat_all : (p : Event → Bool) (f : ℕ → List Event) → ((k : ℕ) → list_all p (f k) ≡ true) → (ks : List ℕ) → list_all p (flat_map f ks) ≡ true
flat_all p f h [] = refl
flat_all p f h (k ∷ ks) = joined_all p (f k) (flat_map f ks) (h k) (flat_all p f h ks)

module _ (t : Transition) (since : List Event) where
  end-begins_nothing : (k : ℕ) (o : Outcome) → list_all begins_nothing (ended t since k o) ≡ true
  end-begins_nothing k o = ended-begins_nothing (moment_of (journal t since)) o (find (is_number_of k) (in_flight_by_number t since))

  answer-begins_nothing : (given : Answer) → list_all begins_nothing (answer_events t since given) ≡ true
  answer-begins_nothing (answer.End k code) = end-begins_nothing k _
  answer-begins_nothing (answer.Timeout k) = end-begins_nothing k _
  answer-begins_nothing (answer.Lost n) =
      joined_all begins_nothing (map (end_event t.cluster (journal t since) (in_flight_by_number t since) Gone) (filter (λ (p : ℕ × Action). is_on n p.1) (in_flight_by_number t since))) _
      (map_all begins_nothing (end_event t.cluster (journal t since) (in_flight_by_number t since) Gone) (λ p. refl) (filter (λ (p : ℕ × Action). is_on n p.1) (in_flight_by_number t since))) refl
  answer-begins_nothing (answer.Up n) = refl
  answer-begins_nothing (answer.Quorum now) = refl
  answer-begins_nothing (answer.Wait seconds) = refl
  answer-begins_nothing (answer.Report n r interval code) = refl

-- A law of begins: what holds of each begin that is allowed holds at each begin among the events of a transition.

only_begin : (P : List Event → ℕ → Action → Type 0) (since before after : List Event) (k j : ℕ) (a b : Action) → P since k a
    → Begin k a ∷ [] ≡ before ++ Begin j b ∷ after → P (since ++ before) j b
only_begin P since [] after k j a b h q =
    let number : k ≡ j = cc in
    let action : a ≡ b = cc in
    subst (λ z. P z j b) (sym (append-nil since)) (subst (λ z. P since z b) number (subst (λ z. P since k z) action h))
only_begin P since (e ∷ es) after k j a b h q =
    let tail : [] ≡ es ++ Begin j b ∷ after = cc in no_begin (P (since ++ e ∷ es) j b) [] es after j b refl tail

module _ (t : Transition) (whole : Bool) (P : List Event → ℕ → Action → Type 0)
    (holds : (since : List Event) (k : ℕ) (a : Action) → Begins t since k a → P since k a) where
  step_keeps : (since events : List Event) (rest left : Option (List Answer)) → StepsOn t whole since rest events left
      → AtEachBegin P since → AtEachBegin P (since ++ events)
  step_keeps since _ rest _ (begins _ k a allowed) h = at-append P since _ h (λ before after j b q. only_begin P since before after k j a b (holds since k a allowed) q)
  step_keeps since _ rest left (takes _ _ given said taken) h =
      at-append P since _ h (λ before after k a q. no_begin (P (since ++ before) k a) _ before after k a (answer-begins_nothing t since given) q)
  step_keeps since _ rest left (is_silent _ _ k a said ends) h =
      at-append P since _ h (λ before after j b q. no_begin (P (since ++ before) j b) _ before after j b (end-begins_nothing t since k _) q)

  pub at_each_begin : (since later : List Event) (rest left : Option (List Answer)) → GoesBySteps t whole since rest later left
      → AtEachBegin P since → AtEachBegin P later
  at_each_begin since _ rest _ (here _ _) h = h
  at_each_begin since after rest left (one_more _ events _ _ middle _ step more) h =
      at_each_begin (since ++ events) after middle left more (step_keeps since events rest middle step h)

-- What must precede has succeeded.

module _ (t : Transition) (since : List Event) (k : ℕ) (h : may_begin t since k ≡ true) where
  before_it : list_any (λ j. j == k) (numbers t) && not (has_aborted t since) && not (has_begun t since k) && has_room t since ≡ true
  before_it = sooner (list_any (λ j. j == k) (numbers t) && not (has_aborted t since) && not (has_begun t since k) && has_room t since) _ h

  not_before : list_any (λ j. j == k) (numbers t) && not (has_aborted t since) && not (has_begun t since k) ≡ true
  not_before = sooner (list_any (λ j. j == k) (numbers t) && not (has_aborted t since) && not (has_begun t since k)) _ before_it

  pub has_preceded : (j : ℕ) → 0 < j → j ≤ length t.actions → t.precedes j k ≡ true → has_succeeded t since j ≡ true
  has_preceded j low high before =
      let all = later (list_any (λ j. j == k) (numbers t) && not (has_aborted t since) && not (has_begun t since k) && has_room t since) _ h in
      implied (t.precedes j k) (has_succeeded t since j)
      (each_in_range (λ j. not (t.precedes j k) || has_succeeded t since j) 1 (length t.actions) j (omega arith) (omega arith) all) before

  pub not_aborted : has_aborted t since ≡ false
  not_aborted = not-true (has_aborted t since) (later (list_any (λ j. j == k) (numbers t)) _ (sooner (list_any (λ j. j == k) (numbers t) && not (has_aborted t since)) _ not_before))

  pub not_begun : has_begun t since k ≡ false
  not_begun = not-true (has_begun t since k) (later (list_any (λ j. j == k) (numbers t) && not (has_aborted t since)) _ not_before)

-- no begin is before the first event
none_yet : (P : List Event → ℕ → Action → Type 0) → AtEachBegin P []
none_yet P before after k a q = no_begin (P before k a) [] before after k a refl q

pub predecessors-first : (t : Transition) (whole : Bool) (rest left : Option (List Answer)) (later : List Event) → GoesBySteps t whole [] rest later left
    → PredecessorsFirst t later
predecessors-first t whole rest left after goes =
    at_each_begin t whole (λ before k a. (j : ℕ) → 0 < j → j ≤ length t.actions → t.precedes j k ≡ true → has_succeeded t before j ≡ true)
    (λ since k a begin. has_preceded t since k begin.allowed) [] after rest left goes (none_yet _)

pub begins-its_own : (t : Transition) (whole : Bool) (rest left : Option (List Answer)) (later : List Event) → GoesBySteps t whole [] rest later left
    → AtEachBegin (λ before k a. action_at t k ≡ Some a) later
begins-its_own t whole rest left after goes =
    at_each_begin t whole (λ before k a. action_at t k ≡ Some a) (λ since k a begin. begin.action) [] after rest left goes (none_yet _)

pub none_after-abort : (t : Transition) (whole : Bool) (rest left : Option (List Answer)) (later : List Event) → GoesBySteps t whole [] rest later left
    → AtEachBegin (λ before k a. has_aborted t before ≡ false) later
none_after-abort t whole rest left after goes =
    at_each_begin t whole (λ before k a. has_aborted t before ≡ false) (λ since k a begin. not_aborted t since k begin.allowed) [] after rest left goes (none_yet _)
