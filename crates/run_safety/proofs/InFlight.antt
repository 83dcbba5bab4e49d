-- What is in flight, where some events come.
use Rattle.std.proofs.Common.{arith, ◌≡◌, ◌<◌, ◌≤◌, ◌-◌, ◌==◌, ◌&&◌, ◌||◌, not, if◌then◌else◌, ℕ, Bool, true, false, List, [], ◌∷◌, ◌++◌, length, filter, eqb-true, slice_get, refl, ◌∙◌}
use Rattle.std.specs.Prelude.{Some, None, map, cond}
use Rattle.std.specs.List.{flat_map, list_any}
use Rattle.std.specs.Option.{option_map_or}
use Rattle.std.proofs.lemmas.Bool.{or_right}
use Rattle.std.proofs.lemmas.List.Folds.{list_any-append}
use Rattle.std.proofs.lemmas.Option.{slice_get_within}
use Rattle.lemmas.proofs.Ranges.{some_in_range}
use Rattle.lemmas.proofs.Booleans.{number_itself}
use Rattle.cluster_types.specs.declared.journal.Action.{Action}
use Rattle.cluster_types.specs.declared.journal.Event.{Event}
use Rattle.cluster_types.specs.declared.journal.Outcome.TheVariants.{Gone}
use Rattle.cluster_types.specs.AnswersThatApply.{end_event}
use Rattle.cluster_types.specs.Journals.{is_on, ends_number}
use Rattle.cluster_types.specs.Steps.{Transition, action_at, begins_number, in_flight_by_number, has_begun, has_number_ended, is_number_in_flight, journal, numbered, numbers}
use Rattle.run_safety.proofs.Shapes.{gone_with}

-- what is in flight, and didn't begin just now, was in flight, and doesn't end just now
parted : (a b c d : Bool) → b ≡ false → (a || b) && not (c || d) ≡ true → (a && not c ≡ true) × (d ≡ false)
parted a true c d f h = cc
parted true false false false f h = (refl, refl)
parted true false false true f h = cc
parted true false true d f h = cc
parted false false c d f h = cc

pub was_in_flight : (t : Transition) (since ys : List Event) (k : ℕ) → list_any (begins_number k) ys ≡ false → is_number_in_flight t (since ++ ys) k ≡ true
    → (is_number_in_flight t since k ≡ true) × (list_any (ends_number k) ys ≡ false)
was_in_flight t since ys k f h =
    parted (has_begun t since k) (list_any (begins_number k) ys) (has_number_ended t since k) (list_any (ends_number k) ys) f
    (rw (list_any-append (begins_number k) since ys, list_any-append (ends_number k) since ys) at h)

-- The numbers of the actions.

pub number_within : (actions : List Action) (k : ℕ) (a : Action) → numbered actions k ≡ Some a → (0 < k) × (k ≤ length actions)
number_within actions k a h = by (k == 0) refl h
  where
    by : (b : Bool) → (k == 0) ≡ b → (if b then None else slice_get actions (k - 1)) ≡ Some a → (0 < k) × (k ≤ length actions)
    by true e h = cc
    by false e h =
        let within = slice_get_within actions (k - 1) a h in
        let low : 0 < k = grind arith in
        (low, omega (arith, within, low))

-- An action in flight on a node that is lost ends with it.

module _ (t : Transition) (since : List Event) (k : ℕ) (a : Action) (test : ℕ × Action → Bool) (here : test (k, a) ≡ true) (is : action_at t k ≡ Some a)
    (flies : is_number_in_flight t since k ≡ true) where
  abbrev pairs : ℕ → List (ℕ × Action)
  pairs j = option_map_or (λ a. (j, a) ∷ []) (action_at t j) []

  among : (ks : List ℕ) → list_any (λ j. j == k) ks ≡ true → list_any test (flat_map pairs (filter (is_number_in_flight t since) ks)) ≡ true
  among [] h = cc
  among (j ∷ ks) h = by (j == k) refl h (among ks)
    where
      first : j ≡ k → list_any test (flat_map pairs (filter (is_number_in_flight t since) (j ∷ ks))) ≡ true
      first e = rw e (rw flies (rw is (rw here refl)))

      more : (b : Bool) → list_any test (flat_map pairs (filter (is_number_in_flight t since) ks)) ≡ true
          → list_any test (flat_map pairs (cond b (j ∷ filter (is_number_in_flight t since) ks) (filter (is_number_in_flight t since) ks))) ≡ true
      more true h = list_any-append test (pairs j) (flat_map pairs (filter (is_number_in_flight t since) ks)) ∙ or_right _ _ h
      more false h = h

      by : (b : Bool) → (j == k) ≡ b → b || list_any (λ j. j == k) ks ≡ true
          → (list_any (λ j. j == k) ks ≡ true → list_any test (flat_map pairs (filter (is_number_in_flight t since) ks)) ≡ true)
          → list_any test (flat_map pairs (filter (is_number_in_flight t since) (j ∷ ks))) ≡ true
      by true e h rest = first (eqb-true j k e)
      by false e h rest = more (is_number_in_flight t since j) (rest h)

  pub among_flying : list_any test (in_flight_by_number t since) ≡ true
  among_flying =
      let within = number_within t.actions k a is in
      among (numbers t) (some_in_range (λ j. j == k) 1 (length t.actions) k (omega (arith, within.0)) (omega (arith, within.1)) (number_itself k))

ends_among : (k n : ℕ) (end : ℕ × Action → Event) → ((p : ℕ × Action) → ends_number k (end p) ≡ (p.0 == k)) → (ps : List (ℕ × Action))
    → list_any (λ (p : ℕ × Action). p.0 == k && is_on n p.1) ps ≡ true → list_any (ends_number k) (map end (filter (λ (p : ℕ × Action). is_on n p.1) ps)) ≡ true
ends_among k n end is [] h = cc
ends_among k n end is (p ∷ ps) h = by (is_on n p.1) (p.0 == k) refl h (ends_among k n end is ps)
  where
    by : (on same : Bool) → (p.0 == k) ≡ same → same && on || list_any (λ (p : ℕ × Action). p.0 == k && is_on n p.1) ps ≡ true
        → (list_any (λ (p : ℕ × Action). p.0 == k && is_on n p.1) ps ≡ true → list_any (ends_number k) (map end (filter (λ (p : ℕ × Action). is_on n p.1) ps)) ≡ true)
        → list_any (ends_number k) (map end (cond on (p ∷ filter (λ (p : ℕ × Action). is_on n p.1) ps) (filter (λ (p : ℕ × Action). is_on n p.1) ps))) ≡ true
    by true true e h rest = rw (is p) (rw e refl)
    by true false e h rest = or_right (ends_number k (end p)) _ (rest h)
    by false true e h rest = rest h
    by false false e h rest = rest h

pub ends_with_node : (t : Transition) (since : List Event) (k n : ℕ) (a : Action) → action_at t k ≡ Some a → is_number_in_flight t since k ≡ true → is_on n a ≡ true
    → list_any (ends_number k) (gone_with t since n) ≡ true
ends_with_node t since k n a is flies on =
    ends_among k n (end_event t.cluster (journal t since) (in_flight_by_number t since) Gone) (λ p. refl) (in_flight_by_number t since)
    (among_flying t since k a (λ (p : ℕ × Action). p.0 == k && is_on n p.1) (rw (number_itself k) on) is flies)
