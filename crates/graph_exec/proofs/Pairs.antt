-- The actions in flight with their numbers, by the flags of the numbers.
use Rattle.std.proofs.Common.{arith, ◌≡◌, ◌<◌, ◌≤◌, ◌+◌, ◌==◌, ◌||◌, ℕ, suc, zero, Bool, true, false, cond, List, [], ◌∷◌, ◌++◌, Some, length, map, filter, find, take, slice_get, refl, ap, ◌∙◌, ◌≢◌, ◌⊎◌, inl, inr}
use Rattle.std.specs.List.{list_any, range_with_len}
use Rattle.std.proofs.lemmas.Bool.{cases_eq, ne_eqb, eq-eqb, eqb-true}
use Rattle.std.proofs.lemmas.List.{length-map, take_more}
use Rattle.std.proofs.lemmas.Option.{slice_get-map, slice_get_within, get_or_from_slice_get}
use Rattle.std.specs.Prelude.{option_map}
use Rattle.lemmas.proofs.Searches.{any-more}
use Rattle.cluster_types.specs.declared.journal.Action.{Action}
use Rattle.cluster_types.specs.AnswersThatApply.{is_number_of}
use Rattle.listed.specs.Sets.{is_member, members}
use Rattle.run_safety.proofs.ByNumber.{with_action, flat_is}
use Rattle.graph_exec.specs.Flights.{InFlightOf, pairs_in_flight}
use Rattle.graph_exec.specs.Inner.Flights.{HasFlagOfEach}

-- which numbers are among those that pass a test
none_below : (p : ℕ → Bool) (k a n : ℕ) → k < a → list_any (λ j. j == k) (filter p (range_with_len a n)) ≡ false
none_below p k a zero low = refl
none_below p k a (suc n) low = on (p a) (none_below p k (a + 1) n (omega arith)) where
  on : (b : Bool) → list_any (λ j. j == k) (filter p (range_with_len (a + 1) n)) ≡ false
      → list_any (λ j. j == k) (cond b (a ∷ filter p (range_with_len (a + 1) n)) (filter p (range_with_len (a + 1) n))) ≡ false
  on true rest = rw (ne_eqb a k (λ e. let f : ⊥ = omega arith in f), rest) refl
  on false rest = rest

pub none_above : (p : ℕ → Bool) (k a n : ℕ) → a + n ≤ k → list_any (λ j. j == k) (filter p (range_with_len a n)) ≡ false
none_above p k a zero high = refl
none_above p k a (suc n) high = on (p a) (none_above p k (a + 1) n (omega arith)) where
  on : (b : Bool) → list_any (λ j. j == k) (filter p (range_with_len (a + 1) n)) ≡ false
      → list_any (λ j. j == k) (cond b (a ∷ filter p (range_with_len (a + 1) n)) (filter p (range_with_len (a + 1) n))) ≡ false
  on true rest = rw (ne_eqb a k (λ e. let f : ⊥ = omega arith in f), rest) refl
  on false rest = rest

pub among : (p : ℕ → Bool) (k a n : ℕ) → a ≤ k → k < a + n → list_any (λ j. j == k) (filter p (range_with_len a n)) ≡ p k
among p k a zero low high = absurd (let f : ⊥ = omega arith in f)
among p k a (suc n) low high = on (cases_eq a k) (p a) refl (λ d. among p k (a + 1) n (omega arith) (omega arith)) where
  on : (a ≡ k) ⊎ (a ≢ k) → (b : Bool) → p a ≡ b → (a ≢ k → list_any (λ j. j == k) (filter p (range_with_len (a + 1) n)) ≡ p k)
      → list_any (λ j. j == k) (cond b (a ∷ filter p (range_with_len (a + 1) n)) (filter p (range_with_len (a + 1) n))) ≡ p k
  on (inl e) true is rest = let t : p k ≡ true = rw e at is in rw (t, eq-eqb a k e) refl
  on (inl e) false is rest = let f : p k ≡ false = rw e at is in rw f (none_below p k (a + 1) n (omega arith))
  on (inr d) true is rest = rw (ne_eqb a k d) (rest d)
  on (inr d) false is rest = rest d

pub number_none : (p : ℕ → Bool) (n : ℕ) → list_any (λ j. j == 0) (filter p (range_with_len 1 n)) ≡ false
number_none p n = none_below p 0 1 n (omega arith)

pub of_numbers : (a n k : ℕ) → list_any (λ j. j == k) (range_with_len a n) ≡ true → (a ≤ k) × (k < a + n)
of_numbers a zero k h = cc
of_numbers a (suc n) k h = on (a == k) refl h (of_numbers (a + 1) n k) where
  on : (b : Bool) → (a == k) ≡ b → b || list_any (λ j. j == k) (range_with_len (a + 1) n) ≡ true
      → (list_any (λ j. j == k) (range_with_len (a + 1) n) ≡ true → (a + 1 ≤ k) × (k < a + 1 + n)) → (a ≤ k) × (k < a + suc n)
  on true e h rest = let i = eqb-true a k e in (omega arith, omega arith)
  on false e h rest = let r = rest h in (omega (arith, r.0), omega (arith, r.1))

-- what stands at a place of those that pass is one of the numbers
pub of_members : (p : ℕ → Bool) (a n place k : ℕ) → slice_get (filter p (range_with_len a n)) place ≡ Some k → (a ≤ k) × (k < a + n)
of_members p a zero place k at = cc
of_members p a (suc n) place k at = on (p a) place at (λ i. of_members p (a + 1) n i k) where
  on : (b : Bool) (place : ℕ) → slice_get (cond b (a ∷ filter p (range_with_len (a + 1) n)) (filter p (range_with_len (a + 1) n))) place ≡ Some k
      → ((i : ℕ) → slice_get (filter p (range_with_len (a + 1) n)) i ≡ Some k → (a + 1 ≤ k) × (k < a + 1 + n)) → (a ≤ k) × (k < a + suc n)
  on true zero at rest = let e : a ≡ k = cc in (omega arith, omega arith)
  on true (suc i) at rest = let r = rest i at in (omega (arith, r.0), omega (arith, r.1))
  on false i at rest = let r = rest i at in (omega (arith, r.0), omega (arith, r.1))

-- a number stands among pairs as it stands among numbers
pub any_number : (actions : List Action) (k : ℕ) (ks : List ℕ) → list_any (is_number_of k) (map (with_action actions) ks) ≡ list_any (λ j. j == k) ks
any_number actions k [] = refl
any_number actions k (j ∷ ks) = ap (λ (b : Bool). (j == k) || b) (any_number actions k ks)

-- an action in flight is found by its number
pub found_of : (actions : List Action) (k : ℕ) (ks : List ℕ) → list_any (is_number_of k) (map (with_action actions) ks) ≡ true
    → find (is_number_of k) (map (with_action actions) ks) ≡ Some (with_action actions k)
found_of actions k [] h = cc
found_of actions k (j ∷ ks) h = on (j == k) refl h (found_of actions k ks) where
  on : (b : Bool) → (j == k) ≡ b → b || list_any (is_number_of k) (map (with_action actions) ks) ≡ true
      → (list_any (is_number_of k) (map (with_action actions) ks) ≡ true → find (is_number_of k) (map (with_action actions) ks) ≡ Some (with_action actions k))
      → cond b (Some (with_action actions j)) (find (is_number_of k) (map (with_action actions) ks)) ≡ Some (with_action actions k)
  on true e h rest = let i = eqb-true j k e in rw i refl
  on false e h rest = rest h

-- one place more of a list
pub passes_not_yet : {X : Type 0} (p : X → Bool) (xs : List X) (i : ℕ) (x : X) → slice_get xs i ≡ Some x → p x ≡ false
    → list_any p (take i xs) ≡ false → list_any p (take (i + 1) xs) ≡ false
passes_not_yet p xs i x at fails before =
    let more : take (i + 1) xs ≡ take i xs ++ x ∷ []
    = take_more xs i x (slice_get_within xs i x at) ∙ ap (λ y. take i xs ++ y ∷ []) (get_or_from_slice_get xs i x x at) in
    rw more (any-more p (take i xs) x ∙ rw (before, fails) refl)

module _ (f : InFlightOf) (flight : HasFlagOfEach f) where
  abbrev actions : List Action
  actions = f.progress.graph.actions

  pub pairs_are : pairs_in_flight f ≡ map (with_action actions) (members f.in_flight)
  pairs_are = let s = flight.flags in flat_is actions (is_member f.in_flight) 1 (length f.in_flight) (omega arith) (omega arith)

  pub pairs_many : length (pairs_in_flight f) ≡ length (members f.in_flight)
  pairs_many = ap length pairs_are ∙ length-map (members f.in_flight) (with_action actions)

  any_pairs : (k : ℕ) → list_any (is_number_of k) (pairs_in_flight f) ≡ list_any (λ j. j == k) (members f.in_flight)
  any_pairs k = ap (list_any (is_number_of k)) pairs_are ∙ any_number actions k (members f.in_flight)

  pub is_flying : (k : ℕ) → 0 < k → k ≤ length f.in_flight → list_any (is_number_of k) (pairs_in_flight f) ≡ is_member f.in_flight k
  is_flying k low high = any_pairs k ∙ among (is_member f.in_flight) k 1 (length f.in_flight) (omega arith) (omega arith)

  pub not_flying : (k : ℕ) → (k ≡ 0) ⊎ (length f.in_flight < k) → list_any (is_number_of k) (pairs_in_flight f) ≡ false
  not_flying k (inl e) = any_pairs k ∙ rw e (number_none (is_member f.in_flight) (length f.in_flight))
  not_flying k (inr more) = any_pairs k ∙ none_above (is_member f.in_flight) k 1 (length f.in_flight) (omega arith)

  -- the member at a place, with its action
  pub pair_at : (place k : ℕ) → slice_get (members f.in_flight) place ≡ Some k → slice_get (pairs_in_flight f) place ≡ Some (with_action actions k)
  pair_at place k at =
      ap (λ (ps : List (ℕ × Action)). slice_get ps place) pairs_are ∙ slice_get-map (with_action actions) (members f.in_flight) place
      ∙ ap (option_map (with_action actions)) at

  -- a member is the number of an action
  pub record IsNumber (k : ℕ) : Type 0 where
    pub low : 0 < k
    pub high : k ≤ length actions

  pub placed : (place k : ℕ) → slice_get (members f.in_flight) place ≡ Some k → IsNumber k
  placed place k at =
      let within = of_members (is_member f.in_flight) 1 (length f.in_flight) place k at in
      let s = flight.flags in
      record { low = omega (arith, within.0); high = omega (arith, within.1, s) }
