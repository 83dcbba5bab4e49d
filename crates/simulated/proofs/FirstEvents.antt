-- What one step adds to a journal can be told from what comes behind it: some actions that are gone with their node, and then one event that isn't.
use Rattle.std.proofs.Common.{◌≡◌, ◌<◌, ◌||◌, ℕ, Bool, true, false, if◌then◌else◌, cond, Option, Some, None, List, [], ◌∷◌, ◌++◌, length, map, filter, find, refl, sym, ap, ◌∙◌, arith}
use Rattle.std.specs.Prelude.{⊤}
use Rattle.std.specs.List.{list_any}
use Rattle.std.specs.Option.{option_map_or}
use Rattle.cluster_types.specs.declared.cluster.Cluster.{Cluster}
use Rattle.cluster_types.specs.declared.journal.Action.{Action}
use Rattle.cluster_types.specs.declared.journal.Answer.{Answer}
use Rattle.cluster_types.specs.declared.journal.Answer.TheVariants as answer
use Rattle.cluster_types.specs.declared.journal.Event.{Event}
use Rattle.cluster_types.specs.declared.journal.Event.TheVariants.{Up, Lost, Begin}
use Rattle.cluster_types.specs.declared.journal.Outcome.{Outcome}
use Rattle.cluster_types.specs.declared.journal.Outcome.TheVariants.{Code, TimedOut, Gone}
use Rattle.cluster_types.specs.AnswersThatApply.{added_by, applies_after, end_event, is_in_flight, is_number_of}
use Rattle.cluster_types.specs.Journals.{is_on}
use Rattle.cluster_types.specs.Safety.{is_gone}

-- the first events, up to one that isn't the end of an action that is gone
abbrev pub first_of : List Event → List Event
first_of [] = []
first_of (e ∷ es) = if is_gone e then e ∷ first_of es else e ∷ []

-- whatever comes behind these events, they are the first
abbrev pub AreFirst : List Event → Type 0
AreFirst events = (more : List Event) → first_of (events ++ more) ≡ events

pub one_front : (xs ys a b : List Event) → AreFirst xs → AreFirst ys → xs ++ a ≡ ys ++ b → xs ≡ ys
one_front xs ys a b one two is = sym (one a) ∙ (ap first_of is ∙ two b)

pub some_first : (xs : List Event) → AreFirst xs → 0 < length xs
some_first [] first = absurd (let is : first_of (Up 0 ∷ []) ≡ [] = first (Up 0 ∷ []) in let f : ⊥ = cc in f)
some_first (x ∷ xs) first = omega arith

-- an action begins with the first of these events
abbrev pub begins_one : List Event → Bool
begins_one (Begin k a ∷ es) = true
begins_one _ = false

module _ (c : Cluster) (es : List Event) (flight : List (ℕ × Action)) where
  -- what is said to end is in flight
  abbrev pub IsOfFlight : Answer → Type 0
  IsOfFlight (answer.End k code) = is_in_flight c es flight k ≡ true
  IsOfFlight (answer.Timeout k) = is_in_flight c es flight k ≡ true
  IsOfFlight _ = ⊤

  pub of_flight : (taken : ℕ) (given : Answer) → applies_after c es flight taken given ≡ true → IsOfFlight given
  of_flight taken (answer.End k code) h = h
  of_flight taken (answer.Timeout k) h = h
  of_flight taken (answer.Lost n) h = tt
  of_flight taken (answer.Up n) h = tt
  of_flight taken (answer.Quorum now) h = tt
  of_flight taken (answer.Wait seconds) h = tt
  of_flight taken (answer.Report n r interval code) h = tt

  gone_first : (n : ℕ) (ps : List (ℕ × Action)) (more : List Event)
      → first_of ((map (end_event c es flight Gone) ps ++ Lost n ∷ []) ++ more) ≡ map (end_event c es flight Gone) ps ++ Lost n ∷ []
  gone_first n [] more = refl
  gone_first n (p ∷ ps) more = ap (λ l. end_event c es flight Gone p ∷ l) (gone_first n ps more)

  gone_begins_none : (n : ℕ) (ps : List (ℕ × Action)) → begins_one (map (end_event c es flight Gone) ps ++ Lost n ∷ []) ≡ false
  gone_begins_none n [] = refl
  gone_begins_none n (p ∷ ps) = refl

  module _ (o : Outcome) where
    abbrev ended_by : Option (ℕ × Action) → List Event
    ended_by found = option_map_or (λ (p : ℕ × Action). end_event c es flight o p ∷ []) found []

    end_first : ((p : ℕ × Action) → is_gone (end_event c es flight o p) ≡ false) → (k : ℕ) (ps : List (ℕ × Action)) → list_any (is_number_of k) ps ≡ true
        → (more : List Event) → first_of (ended_by (find (is_number_of k) ps) ++ more) ≡ ended_by (find (is_number_of k) ps)
    end_first other k [] h more = absurd (let f : ⊥ = cc in f)
    end_first other k (p ∷ ps) h more = by (is_number_of k p) h (λ g. end_first other k ps g more)
      where
        by : (b : Bool) → b || list_any (is_number_of k) ps ≡ true
            → (list_any (is_number_of k) ps ≡ true → first_of (ended_by (find (is_number_of k) ps) ++ more) ≡ ended_by (find (is_number_of k) ps))
            → first_of (ended_by (cond b (Some p) (find (is_number_of k) ps)) ++ more) ≡ ended_by (cond b (Some p) (find (is_number_of k) ps))
        by true g rest = rw (other p) refl
        by false g rest = rest g

    end_begins_none : (found : Option (ℕ × Action)) → begins_one (ended_by found) ≡ false
    end_begins_none None = refl
    end_begins_none (Some p) = refl

  -- what an answer adds
  pub answer_first : (given : Answer) → IsOfFlight given → AreFirst (added_by c es flight given)
  answer_first (answer.End k code) flies = end_first (Code code) (λ p. refl) k flight flies
  answer_first (answer.Timeout k) flies = end_first TimedOut (λ p. refl) k flight flies
  answer_first (answer.Lost n) h = gone_first n (filter (λ (p : ℕ × Action). is_on n p.1) flight)
  answer_first (answer.Up n) h = λ more. refl
  answer_first (answer.Quorum now) h = λ more. refl
  answer_first (answer.Wait seconds) h = λ more. refl
  answer_first (answer.Report n r interval code) h = λ more. refl

  pub answer_begins_none : (given : Answer) → begins_one (added_by c es flight given) ≡ false
  answer_begins_none (answer.End k code) = end_begins_none (Code code) (find (is_number_of k) flight)
  answer_begins_none (answer.Timeout k) = end_begins_none TimedOut (find (is_number_of k) flight)
  answer_begins_none (answer.Lost n) = gone_begins_none n (filter (λ (p : ℕ × Action). is_on n p.1) flight)
  answer_begins_none (answer.Up n) = refl
  answer_begins_none (answer.Quorum now) = refl
  answer_begins_none (answer.Wait seconds) = refl
  answer_begins_none (answer.Report n r interval code) = refl
