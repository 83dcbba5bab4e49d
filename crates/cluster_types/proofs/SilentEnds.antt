-- When nothing more is said, the first in flight ends.
use Rattle.std.proofs.Common.{arith, ◌≡◌, ◌≢◌, ◌<◌, ◌≤◌, ◌+◌, ◌-◌, ◌==◌, ◌⊎◌, inl, inr, ℕ, suc, zero, Bool, true, false, if◌then◌else◌, Some, None, List, [], ◌∷◌, length, filter, find, refl, sym, ◌∙◌}
use Rattle.std.specs.Prelude.{slice_get}
use Rattle.std.specs.List.{flat_map, range_with_len}
use Rattle.std.specs.Option.{option_map_or}
use Rattle.std.proofs.lemmas.Bool.{cases_eq}
use Rattle.std.proofs.lemmas.Option.{slice_get_within}
use Rattle.cluster_types.specs.declared.journal.Action.{Action}
use Rattle.cluster_types.specs.declared.journal.Event.{Event}
use Rattle.cluster_types.specs.declared.journal.Outcome.TheVariants.{Code}
use Rattle.cluster_types.specs.AnswersThatApply.{end_event, is_number_of}
use Rattle.cluster_types.specs.Steps.{Transition, EndsSilently, ended, in_flight_by_number, is_number_in_flight, journal, numbered, silent_code, silent_end}

module _ (actions : List Action) (in_flight : ℕ → Bool) where
  abbrev with_action : ℕ → List (ℕ × Action)
  with_action k = option_map_or (λ a. (k, a) ∷ []) (numbered actions k) []

  abbrev from_number : ℕ → ℕ → List (ℕ × Action)
  from_number from n = flat_map with_action (filter in_flight (range_with_len from n))

  -- the first of them
  first_is : (k : ℕ) (a : Action) (from n : ℕ) → numbered actions k ≡ Some a → in_flight k ≡ true → ((j : ℕ) → in_flight j ≡ true → k ≤ j)
      → from ≤ k → k < from + n → (rest : List (ℕ × Action)) × (from_number from n ≡ (k, a) ∷ rest)
  first_is k a from zero at flies lowest low high = absurd (let f : ⊥ = omega arith in f)
  first_is k a from (suc n) at flies lowest low high = go (cases_eq from k) (first_is k a (from + 1) n at flies lowest)
    where
      skipped : (b : Bool) → in_flight from ≡ b → from ≢ k → (from_number (from + 1) n ≡ from_number from (suc n))
      skipped true h other = absurd (let le = lowest from h in let f : ⊥ = omega arith in f)
      skipped false h other = rw h refl

      go : (from ≡ k) ⊎ (from ≢ k)
          → (from + 1 ≤ k → k < from + 1 + n → (rest : List (ℕ × Action)) × (from_number (from + 1) n ≡ (k, a) ∷ rest))
          → (rest : List (ℕ × Action)) × (from_number from (suc n) ≡ (k, a) ∷ rest)
      go (inl is) later = (from_number (from + 1) n, rw is (rw flies (rw at refl)))
      go (inr other) later =
          let more = later (omega arith) (omega arith) in
          (more.0, sym (skipped (in_flight from) refl other) ∙ more.1)

number_within : (actions : List Action) (k : ℕ) (a : Action) → numbered actions k ≡ Some a → (0 < k) × (k < 1 + length actions)
number_within actions k a h = by_zero (k == 0) refl h
  where
    by_zero : (z : Bool) → (k == 0) ≡ z → (if z then None else slice_get actions (k - 1)) ≡ Some a → (0 < k) × (k < 1 + length actions)
    by_zero true e f = cc
    by_zero false e f = let above : 0 < k = grind arith in let lt = slice_get_within actions (k - 1) a f in (above, omega arith)

module _ (t : Transition) (since : List Event) (k : ℕ) (a : Action) where
  of_first : (flight rest : List (ℕ × Action)) → flight ≡ (k, a) ∷ rest
      → option_map_or (λ p. end_event t.cluster (journal t since) flight (Code (silent_code a)) p ∷ []) (find (is_number_of k) flight) []
      ≡ silent_end t.cluster (journal t since) flight
  of_first flight rest e = let f : (k == k) ≡ true = grind arith in rw e (rw f refl)

  pub silent_end-is : EndsSilently t since k a → ended t since k (Code (silent_code a)) ≡ silent_end t.cluster (journal t since) (in_flight_by_number t since)
  silent_end-is ends =
      let within = number_within t.actions k a ends.action in
      let first = first_is t.actions (is_number_in_flight t since) k a 1 (length t.actions) ends.action ends.in_flight ends.lowest (omega (arith, within.0)) within.1 in
      of_first (in_flight_by_number t since) first.0 first.1
