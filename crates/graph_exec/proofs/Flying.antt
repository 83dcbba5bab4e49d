-- What is in flight, one place after another.
use Rattle.std.proofs.Common.{arith, ◌≡◌, ◌<◌, ◌+◌, ◌==◌, ◌&&◌, ◌||◌, not, ℕ, suc, zero, Bool, true, false, cond, List, [], ◌∷◌, ◌++◌, Option, Some, length, find, map, filter, take, drop, slice_get, refl, sym, ap, ◌∙◌, ◌≢◌, ◌⊎◌, inl, inr}
use Rattle.std.specs.List.{list_any, range_with_len}
use Rattle.std.specs.Option.{option_map_or}
use Rattle.std.proofs.lemmas.Bool.{cases_eq, eq-eqb, ne_eqb}
use Rattle.std.proofs.lemmas.List.{drop_at, length-map, length-take, length-drop, length-append}
use Rattle.std.proofs.lemmas.Option.{slice_get_within}
use Rattle.std.proofs.Math.Bool.{or-false}
use Rattle.std.proofs.lemmas.Map.Keys.{any_passes_from_place}
use Rattle.lemmas.proofs.Ranges.{filter-alike}
use Rattle.lemmas.proofs.Searches.{any-more}
use Rattle.cluster_types.specs.declared.journal.Action.{Action}
use Rattle.cluster_types.specs.declared.journal.Event.{Event}
use Rattle.cluster_types.specs.declared.journal.Event.TheVariants.{Ended}
use Rattle.cluster_types.specs.declared.journal.Outcome.{Outcome}
use Rattle.cluster_types.specs.declared.journal.Outcome.TheVariants.{Gone}
use Rattle.cluster_types.specs.AnswersThatApply.{is_number_of, end_event}
use Rattle.cluster_types.specs.Journals.{ends_number, moment_of}
use Rattle.cluster_types.specs.Steps.{begins_number, ended, numbers_in_flight, in_flight_by_number, has_begun, has_number_ended, is_number_in_flight}
use Rattle.graph_exec.specs.Executors.{ExecutorOf, transition_in}
use Rattle.run_safety.proofs.ByNumber.{action_of, with_action, flat_is}
use Rattle.graph_exec.proofs.Pairs.{found_of, of_members}

-- a list of numbers without the one at a place
module _ (p q : ℕ → Bool) (k : ℕ) (gone : q k ≡ false) (others : (j : ℕ) → j ≢ k → q j ≡ p j) where
  without : (a n place : ℕ) → slice_get (filter p (range_with_len a n)) place ≡ Some k
      → filter q (range_with_len a n) ≡ take place (filter p (range_with_len a n)) ++ drop (suc place) (filter p (range_with_len a n))
  without a zero place at = cc
  without a (suc n) place at = on (cases_eq a k) (p a) refl place at (λ i. without (a + 1) n i) where
    rest : List ℕ
    rest = filter p (range_with_len (a + 1) n)

    on : (a ≡ k) ⊎ (a ≢ k) → (b : Bool) → p a ≡ b → (place : ℕ) → slice_get (cond b (a ∷ rest) rest) place ≡ Some k
        → ((i : ℕ) → slice_get rest i ≡ Some k → filter q (range_with_len (a + 1) n) ≡ take i rest ++ drop (suc i) rest)
        → filter q (a ∷ range_with_len (a + 1) n) ≡ take place (cond b (a ∷ rest) rest) ++ drop (suc place) (cond b (a ∷ rest) rest)
    on (inl e) true is zero at next =
        let f : q a ≡ false = rw e gone in
        rw f (filter-alike q p (a + 1) n (λ j low high. others j (λ i. let g : ⊥ = omega arith in g)))
    on (inl e) true is (suc i) at next = let m = of_members p (a + 1) n i k at in absurd (let g : ⊥ = omega (arith, m.0) in g)
    on (inl e) false is i at next = let m = of_members p (a + 1) n i k at in absurd (let g : ⊥ = omega (arith, m.0) in g)
    on (inr d) true is zero at next = let e : a ≡ k = cc in absurd (d e)
    on (inr d) true is (suc i) at next = let t : q a ≡ true = others a d ∙ is in rw t (ap (◌∷◌ a) (next i at))
    on (inr d) false is i at next = let f : q a ≡ false = others a d ∙ is in rw f (next i at)

-- in a list of numbers with their actions
unmapped : (actions : List Action) (ks : List ℕ) (i k : ℕ) (a : Action) → slice_get (map (with_action actions) ks) i ≡ Some (k, a)
    → (slice_get ks i ≡ Some k) × (a ≡ action_of actions k)
unmapped actions [] i k a at = cc
unmapped actions (j ∷ ks) zero k a at =
    let e : j ≡ k = ap (λ o. option_map_or (λ (p : ℕ × Action). p.0) o 0) at in
    let f : action_of actions j ≡ a = ap (λ o. option_map_or (λ (p : ℕ × Action). p.1) o a) at in
    (ap Some e, sym f ∙ ap (action_of actions) e)
unmapped actions (j ∷ ks) (suc i) k a at = unmapped actions ks i k a at

module _ (r : ExecutorOf) where
  abbrev ks : List ℕ
  ks = numbers_in_flight (transition_in r) r.since

  pub flying_is : in_flight_by_number (transition_in r) r.since ≡ map (with_action r.graph.actions) ks
  flying_is = flat_is r.graph.actions (is_number_in_flight (transition_in r) r.since) 1 (length r.graph.actions) (omega arith) (omega arith)

  pub many_flying : length (in_flight_by_number (transition_in r) r.since) ≡ length ks
  many_flying = ap length flying_is ∙ length-map ks (with_action r.graph.actions)

  -- what the end of an action in flight adds
  pub ended_of : (k : ℕ) → list_any (is_number_of k) (in_flight_by_number (transition_in r) r.since) ≡ true → (outcome : Outcome)
      → ended (transition_in r) r.since k outcome ≡ Ended k (action_of r.graph.actions k) outcome (moment_of (r.planned_at ++ r.since)) ∷ []
  ended_of k flies outcome =
      let found : find (is_number_of k) (in_flight_by_number (transition_in r) r.since) ≡ Some (with_action r.graph.actions k)
      = ap (find (is_number_of k)) flying_is ∙ found_of r.graph.actions k ks (ap (list_any (is_number_of k)) (sym flying_is) ∙ flies) in
      ap (λ (o : Option (ℕ × Action)). option_map_or (λ p. end_event r.cluster (r.planned_at ++ r.since) (in_flight_by_number (transition_in r) r.since) outcome p ∷ []) o []) found

  -- what stands at a place
  pub record StandsAt (place k : ℕ) (a : Action) : Type 0 where
    pub number : slice_get ks place ≡ Some k
    pub action : a ≡ action_of r.graph.actions k
    pub flies : list_any (is_number_of k) (in_flight_by_number (transition_in r) r.since) ≡ true

  pub stands_at : (place k : ℕ) (a : Action) → slice_get (in_flight_by_number (transition_in r) r.since) place ≡ Some (k, a) → StandsAt place k a
  stands_at place k a at =
      let u = unmapped r.graph.actions ks place k a (ap (λ (ps : List (ℕ × Action)). slice_get ps place) (sym flying_is) ∙ at) in
      record { number = u.0; action = u.1; flies = any_passes_from_place (is_number_of k) (in_flight_by_number (transition_in r) r.since) place (k, a) at (eq-eqb k k refl) }

  module _ (place k : ℕ) (a : Action) (s : StandsAt place k a) where
    abbrev pub event : Event
    event = Ended k a Gone (moment_of (r.planned_at ++ r.since))

    pub gone_is : ended (transition_in r) r.since k Gone ≡ event ∷ []
    gone_is = ended_of k s.flies Gone ∙ ap (λ (b : Action). Ended k b Gone (moment_of (r.planned_at ++ r.since)) ∷ []) (sym s.action)

    begun_now : (j : ℕ) → has_begun (transition_in r) (r.since ++ event ∷ []) j ≡ has_begun (transition_in r) r.since j
    begun_now j = any-more (begins_number j) r.since event ∙ or-false (has_begun (transition_in r) r.since j)

    ended_now : (j : ℕ) → has_number_ended (transition_in r) (r.since ++ event ∷ []) j ≡ (has_number_ended (transition_in r) r.since j || (k == j))
    ended_now j = any-more (ends_number j) r.since event

    pub flight_now : numbers_in_flight (transition_in r) (r.since ++ event ∷ []) ≡ take place ks ++ drop (place + 1) ks
    flight_now =
        without (is_number_in_flight (transition_in r) r.since) (is_number_in_flight (transition_in r) (r.since ++ event ∷ [])) k
        (rw (begun_now k, ended_now k, eq-eqb k k refl) (over (has_begun (transition_in r) r.since k) (has_number_ended (transition_in r) r.since k)))
        (λ j d. rw (begun_now j, ended_now j, ne_eqb k j (λ e. d (sym e)), or-false (has_number_ended (transition_in r) r.since j)) refl)
        1 (length r.graph.actions) place s.number
        ∙ ap (λ i. take place ks ++ drop i ks) (let e : suc place ≡ place + 1 = omega arith in e)
      where
        over : (x y : Bool) → (x && not (y || true)) ≡ false
        over true true = refl
        over true false = refl
        over false y = refl

    -- there is one less
    pub one_less : length (numbers_in_flight (transition_in r) (r.since ++ event ∷ [])) < length ks
    one_less =
        let w = slice_get_within ks place k s.number in
        let n = ap length flight_now in
        let l = length-append (take place ks) (drop (place + 1) ks) in
        let t = length-take place ks in
        let d = length-drop (place + 1) ks in
        omega arith

    pub rest_same : drop place (numbers_in_flight (transition_in r) (r.since ++ event ∷ [])) ≡ drop (place + 1) ks
    rest_same =
        let w = slice_get_within ks place k s.number in
        let t = length-take place ks in
        ap (drop place) flight_now ∙ drop_at (take place ks) (drop (place + 1) ks) place (omega arith)
