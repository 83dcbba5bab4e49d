-- How many begins and answers may come yet: each step leaves fewer.
use Rattle.std.proofs.Common.{arith, ◌≡◌, ◌<◌, ◌≤◌, ◌+◌, ◌-◌, ◌==◌, ◌&&◌, ◌||◌, not, nat_lt, ℕ, Bool, true, false, List, [], ◌∷◌, ◌++◌, length, count_by, slice_index_or, refl, sym, ap, ◌∙◌, ◌⊎◌, inl, inr}
use Rattle.std.specs.List.{list_any}
use Rattle.std.proofs.lemmas.Bool.{cases_lt, eq-eqb, ltb-true, not-true, or_left}
use Rattle.std.proofs.lemmas.List.Folds.{list_any-append}
use Rattle.std.proofs.lemmas.List.FromFn.{get_or-range_with_len, length-range_with_len}
use Rattle.std.proofs.lemmas.List.Sums.{count_by-le-length}
use Rattle.lemmas.proofs.Booleans.{sooner, later, contrary}
use Rattle.lemmas.proofs.Counts.{count-append, count-is, count_more, count_one_more}
use Rattle.lemmas.proofs.Searches.{any_last}
use Rattle.cluster_types.specs.declared.journal.Action.{Action}
use Rattle.cluster_types.specs.declared.journal.Answer.{Answer}
use Rattle.cluster_types.specs.declared.journal.Answer.TheVariants as answer
use Rattle.cluster_types.specs.declared.journal.Event.{Event}
use Rattle.cluster_types.specs.declared.journal.Event.TheVariants.{Up, Lost, Quorum, Wait, Begin, Ended}
use Rattle.cluster_types.specs.declared.journal.Outcome.{Outcome}
use Rattle.cluster_types.specs.declared.journal.Outcome.TheVariants.{Code, TimedOut}
use Rattle.cluster_types.specs.AnswersThatApply.{applies_after, is_number_of, monitor_action, most_from_outside}
use Rattle.cluster_types.specs.Journals.{ends_number, moment_of}
use Rattle.cluster_types.specs.Steps.{Begins, EndsSilently, begins_number, ended, answer_events, numbers_in_flight, in_flight_by_number, has_begun, has_number_ended, is_from_outside, is_number_in_flight, numbers, count_from_outside, silent_code}
use Rattle.cluster_types.proofs.StepLaws.{not_begun}
use Rattle.run_safety.proofs.InFlight.{number_within}
use Rattle.graph_exec.specs.Inner.Rounds.{begins_left, ends_left, asks_left}
use Rattle.graph_exec.specs.Executors.{ExecutorOf, transition_in}
use Rattle.graph_exec.specs.Inner.ExecutorFields.{all_gone}
use Rattle.graph_exec.specs.Executors as running
use Rattle.graph_exec.proofs.Flying.{ended_of, flying_is}
use Rattle.run_safety.proofs.ByNumber.{action_of}
use Rattle.graph_exec.proofs.Pairs.{any_number, among, none_above, number_none}

not_before : (p : Event → Bool) (xs ys : List Event) → not (list_any p (xs ++ ys)) ≡ true → not (list_any p xs) ≡ true
not_before p xs ys h =
    contrary (list_any p xs) (list_any p xs || list_any p ys) (or_left (list_any p xs) (list_any p ys)) (ap not (sym (list_any-append p xs ys)) ∙ h)

module _ (r : ExecutorOf) (es : List Event) where
  pub ends_fewer : ends_left (running.later r es) ≤ ends_left r
  ends_fewer =
      count_more (λ k. not (has_number_ended (transition_in r) (r.since ++ es) k)) (λ k. not (has_number_ended (transition_in r) r.since k))
      (λ k h. not_before (ends_number k) r.since es h) (numbers (transition_in r))

  outside_more : count_from_outside (transition_in r) (r.since ++ es) ≡ count_from_outside (transition_in r) r.since + count_by is_from_outside es
  outside_more = count-append is_from_outside r.since es

  pub asks_fewer : asks_left (running.later r es) ≤ asks_left r
  asks_fewer = let e = ends_fewer in let o = outside_more in omega arith

  module _ (k : ℕ) (low : 0 < k) (high : k ≤ length r.graph.actions) where
    at : slice_index_or (numbers (transition_in r)) (k - 1) k ≡ k
    at = get_or-range_with_len 1 (length r.graph.actions) (k - 1) k (omega arith) ∙ (let e : 1 + (k - 1) ≡ k = omega arith in e)

    among_numbers : k - 1 < length (numbers (transition_in r))
    among_numbers = let l = length-range_with_len 1 (length r.graph.actions) in omega arith

    pub one_begun : has_begun (transition_in r) r.since k ≡ false → has_begun (transition_in r) (r.since ++ es) k ≡ true → begins_left (running.later r es) < begins_left r
    one_begun was is =
        count_one_more (λ k. not (has_begun (transition_in r) (r.since ++ es) k)) (λ k. not (has_begun (transition_in r) r.since k))
        (λ k h. not_before (begins_number k) r.since es h) (numbers (transition_in r)) (k - 1) k among_numbers at (rw is refl) (rw was refl)

    pub one_ended : has_number_ended (transition_in r) r.since k ≡ false → has_number_ended (transition_in r) (r.since ++ es) k ≡ true → asks_left (running.later r es) < asks_left r
    one_ended was is =
        let e : ends_left (running.later r es) < ends_left r
        = count_one_more (λ k. not (has_number_ended (transition_in r) (r.since ++ es) k)) (λ k. not (has_number_ended (transition_in r) r.since k))
        (λ k h. not_before (ends_number k) r.since es h) (numbers (transition_in r)) (k - 1) k among_numbers at (rw is refl) (rw was refl) in
        let o = outside_more in
        omega arith

  pub one_told : count_from_outside (transition_in r) r.since < most_from_outside → 0 < count_by is_from_outside es → asks_left (running.later r es) < asks_left r
  one_told few some = let e = ends_fewer in let o = outside_more in omega arith

module _ (r : ExecutorOf) where
  module _ (k : ℕ) (low : 0 < k) (high : k ≤ length r.graph.actions) (up : is_number_in_flight (transition_in r) r.since k ≡ true) (outcome : Outcome) where
    pub ended_is : ended (transition_in r) r.since k outcome ≡ Ended k (action_of r.graph.actions k) outcome (moment_of (r.planned_at ++ r.since)) ∷ []
    ended_is = ended_of r k flies outcome where
      flies : list_any (is_number_of k) (in_flight_by_number (transition_in r) r.since) ≡ true
      flies =
          ap (list_any (is_number_of k)) (flying_is r) ∙ any_number r.graph.actions k (numbers_in_flight (transition_in r) r.since)
          ∙ among (is_number_in_flight (transition_in r) r.since) k 1 (length r.graph.actions) (omega arith) (omega arith) ∙ up

    pub end_leaves : asks_left (running.later r (ended (transition_in r) r.since k outcome)) < asks_left r
    end_leaves =
        rw ended_is (one_ended r (Ended k (action_of r.graph.actions k) outcome (moment_of (r.planned_at ++ r.since)) ∷ []) k low high
        (not-true (has_number_ended (transition_in r) r.since k) (later (has_begun (transition_in r) r.since k) (not (has_number_ended (transition_in r) r.since k)) up))
        (any_last (ends_number k) r.since (Ended k (action_of r.graph.actions k) outcome (moment_of (r.planned_at ++ r.since))) (eq-eqb k k refl)))

  -- an action in flight is one of the transition
  record IsUp (k : ℕ) : Type 0 where
    pub low : 0 < k
    pub high : k ≤ length r.graph.actions
    pub up : is_number_in_flight (transition_in r) r.since k ≡ true

  up_of : (k : ℕ) → list_any (is_number_of k) (in_flight_by_number (transition_in r) r.since) ≡ true → IsUp k
  up_of k flies = on (cases_lt 0 k) (cases_lt (length r.graph.actions) k) where
    there : list_any (λ j. j == k) (numbers_in_flight (transition_in r) r.since) ≡ true
    there = sym (ap (list_any (is_number_of k)) (flying_is r) ∙ any_number r.graph.actions k (numbers_in_flight (transition_in r) r.since)) ∙ flies

    on : (0 < k) ⊎ (k ≤ 0) → (length r.graph.actions < k) ⊎ (k ≤ length r.graph.actions) → IsUp k
    on (inl low) (inr high) = record {
      low = low;
      high = high;
      up = sym (among (is_number_in_flight (transition_in r) r.since) k 1 (length r.graph.actions) (omega arith) (omega arith)) ∙ there;
    }
    on (inl low) (inl past) = let n = none_above (is_number_in_flight (transition_in r) r.since) k 1 (length r.graph.actions) (omega arith) in let t = there in cc
    on (inr none) past =
        let z : k ≡ 0 = omega arith in
        let n = number_none (is_number_in_flight (transition_in r) r.since) (length r.graph.actions) in
        let t : list_any (λ j. j == 0) (numbers_in_flight (transition_in r) r.since) ≡ true = rw z at there in
        cc

  outside_one : (e : Event) → is_from_outside e ≡ true → 0 < count_by is_from_outside (e ∷ [])
  outside_one e h = let c = count-is is_from_outside e [] true h in omega arith

  lost_one : (n : ℕ) → 0 < count_by is_from_outside (all_gone r n ++ Lost n ∷ [])
  lost_one n = let c = count-append is_from_outside (all_gone r n) (Lost n ∷ []) in let o = outside_one (Lost n) refl in omega arith

  few_of : (rest : Bool) → nat_lt (count_from_outside (transition_in r) r.since) most_from_outside && rest ≡ true → count_from_outside (transition_in r) r.since < most_from_outside
  few_of rest h = ltb-true _ _ (sooner (nat_lt (count_from_outside (transition_in r) r.since) most_from_outside) rest h)

  pub take_leaves : (given : Answer) → applies_after r.cluster (r.planned_at ++ r.since) (in_flight_by_number (transition_in r) r.since) (count_from_outside (transition_in r) r.since) given ≡ true
      → asks_left (running.later r (answer_events (transition_in r) r.since given)) < asks_left r
  take_leaves (answer.End k code) h = let u = up_of k h in end_leaves k u.low u.high u.up (Code code)
  take_leaves (answer.Timeout k) h = let u = up_of k h in end_leaves k u.low u.high u.up TimedOut
  take_leaves (answer.Lost n) h =
      one_told r (all_gone r n ++ Lost n ∷ [])
      (few_of (nat_lt n (length r.cluster.nodes)) (sooner (nat_lt (count_from_outside (transition_in r) r.since) most_from_outside && nat_lt n (length r.cluster.nodes)) _ h))
      (lost_one n)
  take_leaves (answer.Up n) h =
      one_told r (Up n ∷ [])
      (few_of (nat_lt n (length r.cluster.nodes)) (sooner (nat_lt (count_from_outside (transition_in r) r.since) most_from_outside && nat_lt n (length r.cluster.nodes)) _ h))
      (outside_one (Up n) refl)
  take_leaves (answer.Quorum now) h = one_told r (Quorum now ∷ []) (ltb-true _ _ h) (outside_one (Quorum now) refl)
  take_leaves (answer.Wait seconds) h = one_told r (Wait seconds ∷ []) (few_of _ h) (outside_one (Wait seconds) refl)
  take_leaves (answer.Report n leaf interval code) h =
      one_told r (Ended 0 (monitor_action r.cluster leaf n interval) (Code code) (moment_of (r.planned_at ++ r.since)) ∷ []) (few_of _ h)
      (outside_one (Ended 0 (monitor_action r.cluster leaf n interval) (Code code) (moment_of (r.planned_at ++ r.since))) refl)

  pub silent_leaves : (k : ℕ) (a : Action) → EndsSilently (transition_in r) r.since k a
      → asks_left (running.later r (ended (transition_in r) r.since k (Code (silent_code a)))) < asks_left r
  silent_leaves k a s = let n = number_within r.graph.actions k a s.action in end_leaves k n.0 n.1 s.in_flight (Code (silent_code a))

  pub begin_leaves : (k : ℕ) (a : Action) → Begins (transition_in r) r.since k a → begins_left (running.later r (Begin k a ∷ [])) < begins_left r
  begin_leaves k a b =
      let n = number_within r.graph.actions k a b.action in
      one_begun r (Begin k a ∷ []) k n.0 n.1 (not_begun (transition_in r) r.since k b.allowed) (any_last (begins_number k) r.since (Begin k a) (eq-eqb k k refl))

  -- at first there are as many as actions, and the answers from outside
  pub asks_most : asks_left r ≤ length r.graph.actions + most_from_outside
  asks_most =
      let c = count_by-le-length (λ k. not (has_number_ended (transition_in r) r.since k)) (numbers (transition_in r)) in
      let l = length-range_with_len 1 (length r.graph.actions) in
      omega arith
