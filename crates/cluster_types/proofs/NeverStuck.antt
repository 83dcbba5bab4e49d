-- Where nothing aborted, nothing is in flight and nothing may begin, all actions have succeeded, if actions wait for those of lower numbers alone.
use Rattle.std.proofs.Common.{arith, ◌≡◌, ◌<◌, ◌≤◌, ◌+◌, ◌==◌, ◌&&◌, ◌||◌, not, nat_lt, ℕ, suc, zero, Bool, true, false, List, [], ◌∷◌, refl, length, filter}
use Rattle.std.specs.Prelude.{cond}
use Rattle.std.specs.List.{list_all, list_any, range_with_len}
use Rattle.std.proofs.lemmas.Bool.{and_from, not-false, not-true, or_parts}
use Rattle.lemmas.proofs.Booleans.{if_then, one_of, unless}
use Rattle.lemmas.proofs.Ranges.{all_in_range, each_in_range, some_in_range}
use Rattle.cluster_types.specs.declared.cluster.Cluster.{Cluster}
use Rattle.cluster_types.specs.declared.journal.Event.{Event}
use Rattle.cluster_types.specs.declared.journal.Event.TheVariants.{Ended}
use Rattle.cluster_types.specs.declared.journal.Outcome.TheVariants.{Code, TimedOut, Gone}
use Rattle.cluster_types.specs.Journals.{ends_number}
use Rattle.cluster_types.specs.Safety.{is_gone}
use Rattle.cluster_types.specs.Steps.{Transition, aborts, all_succeeded, numbers_in_flight, has_aborted, has_begun, has_number_ended, has_room, has_succeeded, is_number_in_flight, is_settled, is_success, may_begin, numbers, succeeds_number}

left_out : (b : Bool) (x : ℕ) (xs : List ℕ) → cond b (x ∷ xs) xs ≡ [] → (not b ≡ true) × (xs ≡ [])
left_out true x xs h = cc
left_out false x xs h = (refl, h)

none_passes : (p : ℕ → Bool) (xs : List ℕ) → filter p xs ≡ [] → list_all (λ j. not (p j)) xs ≡ true
none_passes p [] h = refl
none_passes p (x ∷ xs) h = let parts = left_out (p x) x (filter p xs) h in and_from (not (p x)) _ parts.0 (none_passes p xs parts.1)

none_in_range : (p : ℕ → Bool) (from count j : ℕ) → from ≤ j → j < from + count → filter p (range_with_len from count) ≡ [] → p j ≡ false
none_in_range p from count j low high h =
    not-true (p j) (each_in_range (λ j. not (p j)) from count j low high (none_passes p (range_with_len from count) h))

-- an end that doesn't abort and isn't gone is a success
success_of : (c : Cluster) (k : ℕ) (e : Event) → ends_number k e ≡ true → aborts c e ≡ false → is_gone e ≡ false → succeeds_number c k e ≡ true
success_of c k (Ended j a (Code code) m) h g f = and_from (j == k) _ h (not-false (is_success c a (Code code)) g)
success_of c k (Ended j a TimedOut m) h g f = and_from (j == k) _ h (not-false (is_success c a TimedOut) g)
success_of c k (Ended j a Gone m) h g f = cc
success_of c k _ h g f = cc

succeeded-of_ended : (c : Cluster) (k : ℕ) (xs : List Event) → list_any (aborts c) xs ≡ false → list_any is_gone xs ≡ false
    → list_any (ends_number k) xs ≡ true → list_any (succeeds_number c k) xs ≡ true
succeeded-of_ended c k [] h g e = cc
succeeded-of_ended c k (x ∷ xs) h g e =
    let none = or_parts (aborts c x) (list_any (aborts c) xs) h in
    let here = or_parts (is_gone x) (list_any is_gone xs) g in
    one_of (ends_number k x) (succeeds_number c k x) (list_any (ends_number k) xs) (list_any (succeeds_number c k) xs)
    (λ f. success_of c k x f none.0 here.0) (succeeded-of_ended c k xs none.1 here.1) e

module _ (t : Transition) (events : List Event) (upward : (j k : ℕ) → t.precedes j k ≡ true → j < k)
    (unaborted : has_aborted t events ≡ false) (none_gone : list_any is_gone events ≡ false)
    (idle : numbers_in_flight t events ≡ []) (settled : is_settled t events ≡ true) where
  -- with nothing in flight there is room
  room : has_room t events ≡ true
  room = of_limit t.cluster.properties.batch_limit (t.cluster.properties.batch_limit == 0) refl
    where
      of_limit : (limit : ℕ) (none : Bool) → (limit == 0) ≡ none → limit == 0 || nat_lt (length (numbers_in_flight t events)) limit ≡ true
      of_limit limit true e = rw e refl
      of_limit limit false e = rw idle (grind arith)

  may : (k : ℕ) → 0 < k → k ≤ length t.actions → has_begun t events k ≡ false
      → ((j : ℕ) → 0 < j → j < k → has_succeeded t events j ≡ true) → may_begin t events k ≡ true
  may k low high fresh earlier =
      and_from (list_any (λ j. j == k) (numbers t) && not (has_aborted t events) && not (has_begun t events k) && has_room t events) _
      (and_from (list_any (λ j. j == k) (numbers t) && not (has_aborted t events) && not (has_begun t events k)) _
      (and_from (list_any (λ j. j == k) (numbers t) && not (has_aborted t events)) _
      (and_from (list_any (λ j. j == k) (numbers t)) _ (some_in_range (λ j. j == k) 1 (length t.actions) k (omega arith) (omega arith) (grind arith)) (rw unaborted refl))
      (rw fresh refl)) room)
      (all_in_range (λ j. not (t.precedes j k) || has_succeeded t events j) 1 (length t.actions)
      (λ j j_low j_high. if_then (t.precedes j k) (has_succeeded t events j) (λ e. earlier j (omega arith) (upward j k e))))

  -- what has begun has succeeded
  done : (k : ℕ) → 0 < k → k ≤ length t.actions → has_begun t events k ≡ true → has_succeeded t events k ≡ true
  done k low high begun =
      succeeded-of_ended t.cluster k events unaborted none_gone
      (unless (has_begun t events k) (has_number_ended t events k) begun
      (none_in_range (is_number_in_flight t events) 1 (length t.actions) k (omega arith) (omega arith) idle))

  up_to : (bound k : ℕ) → 0 < k → k < bound → k ≤ length t.actions → has_succeeded t events k ≡ true
  up_to zero k low below high = absurd (let f : ⊥ = omega arith in f)
  up_to (suc bound) k low below high =
      by_begin (has_begun t events k) refl (λ j j_low j_below. up_to bound j j_low (omega arith) (omega arith))
    where
      by_begin : (b : Bool) → has_begun t events k ≡ b → ((j : ℕ) → 0 < j → j < k → has_succeeded t events j ≡ true) → has_succeeded t events k ≡ true
      by_begin true e earlier = done k low high e
      by_begin false e earlier =
          let allowed = may k low high e earlier in
          let found : list_any (may_begin t events) (numbers t) ≡ true = some_in_range (may_begin t events) 1 (length t.actions) k (omega arith) (omega arith) allowed in
          let not_found : list_any (may_begin t events) (numbers t) ≡ false = not-true _ settled in
          cc

  pub all-succeeded : all_succeeded t events ≡ true
  all-succeeded = all_in_range (has_succeeded t events) 1 (length t.actions) (λ k low high. up_to (suc k) k (omega arith) (omega arith) (omega arith))
