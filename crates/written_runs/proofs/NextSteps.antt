-- What a transition can do next, and how much is left to do then.
use Rattle.std.proofs.Common.{arith, ◌≡◌, ◌≢◌, ◌<◌, ◌≤◌, ◌+◌, ◌-◌, ◌==◌, ◌&&◌, ◌||◌, not, ℕ, zero, suc, Bool, true, false, List, [], ◌∷◌, ◌++◌, length, filter, find, count_by, slice_index_or, eqb-true, refl, sym, ap, ◌∙◌, subst}
use Rattle.std.specs.List.{list_all, list_any, range_with_len}
use Rattle.std.specs.Option.{option_map_or}
use Rattle.std.proofs.lemmas.Bool.{eq-eqb, not-true, or_left}
use Rattle.std.proofs.lemmas.List.Folds.{list_any-append}
use Rattle.std.proofs.lemmas.List.FromFn.{get_or-range_with_len, length-range_with_len}
use Rattle.lemmas.proofs.Booleans.{contrary, later, sooner}
use Rattle.lemmas.proofs.Counts.{count_more, count_one_more}
use Rattle.lemmas.proofs.Searches.{any_last}
use Rattle.cluster_types.specs.declared.journal.Action.{Action}
use Rattle.cluster_types.specs.declared.journal.Event.{Event}
use Rattle.cluster_types.specs.declared.journal.Event.TheVariants.{Begin}
use Rattle.cluster_types.specs.declared.journal.Outcome.TheVariants.{Code}
use Rattle.cluster_types.specs.AnswersThatApply.{end_event, is_number_of}
use Rattle.cluster_types.specs.Journals.{ends_number}
use Rattle.cluster_types.specs.Steps.{Transition, Begins, EndsSilently, HasEnded, IsWaiting, begins, begins_number, ended, has_aborted, has_begun, has_number_ended, in_flight_by_number, is_number_in_flight, journal, may_begin, numbers, numbers_in_flight, silent_code}
use Rattle.cluster_types.specs.Steps as steps
use Rattle.cluster_types.proofs.StepLaws.{begins_nothing, not_begun}
use Rattle.run_safety.proofs.ByNumber.{action_of, numbered_is}
use Rattle.run_safety.proofs.InFlight.{among_flying, number_within}
use Rattle.run_safety.proofs.OneStep.{unsettled}

-- The least number that passes.

record Least (p : ℕ → Bool) (from n : ℕ) : Type 0 where
  number : ℕ
  low : from ≤ number
  high : number < from + n
  passes : p number ≡ true
  least : (j : ℕ) → from ≤ j → p j ≡ true → number ≤ j

least_of : (p : ℕ → Bool) (from n : ℕ) → list_any p (range_with_len from n) ≡ true → Least p from n
least_of p from zero h = absurd (let f : ⊥ = cc in f)
least_of p from (suc n) h = by (p from) refl h (least_of p (from + 1) n)
  where
    above : Least p (from + 1) n → p from ≡ false → Least p from (suc n)
    above l e = record {
      number = l.number;
      low = let w = l.low in omega (arith, w);
      high = let w = l.high in omega (arith, w);
      passes = l.passes;
      least = λ j up h. by_cases j up h;
    }
      where
        by_cases : (j : ℕ) → from ≤ j → p j ≡ true → l.number ≤ j
        by_cases j up h = on (from == j) refl
          where
            on : (b : Bool) → (from == j) ≡ b → l.number ≤ j
            on true same = let at : from ≡ j = eqb-true from j same in let wrong : p from ≡ true = rw at h in absurd (let f : ⊥ = cc in f)
            on false other = l.least j (let apart : from ≢ j = (λ at. let t = eq-eqb from j at in let f : ⊥ = cc in f) in grind arith) h

    by : (b : Bool) → p from ≡ b → b || list_any p (range_with_len (from + 1) n) ≡ true → (list_any p (range_with_len (from + 1) n) ≡ true → Least p (from + 1) n) → Least p from (suc n)
    by true e h next = record { number = from; low = omega arith; high = omega arith; passes = e; least = λ j up h. up }
    by false e h next = above (next h) e

-- a number among these isn't less than the first
not_below : (from n j : ℕ) → list_any (λ k. k == j) (range_with_len from n) ≡ true → from ≤ j
not_below from zero j h = absurd (let f : ⊥ = cc in f)
not_below from (suc n) j h = by (from == j) refl h (not_below (from + 1) n j)
  where
    by : (b : Bool) → (from == j) ≡ b → b || list_any (λ k. k == j) (range_with_len (from + 1) n) ≡ true → (list_any (λ k. k == j) (range_with_len (from + 1) n) ≡ true → from + 1 ≤ j) → from ≤ j
    by true e h next = let at : from ≡ j = eqb-true from j e in omega (arith, at)
    by false e h next = let up = next h in omega (arith, up)

-- a filter that keeps some keeps one that passes
kept_some : (p : ℕ → Bool) (ks : List ℕ) → 0 < length (filter p ks) → list_any p ks ≡ true
kept_some p [] busy = absurd (let f : ⊥ = omega (arith, busy) in f)
kept_some p (k ∷ ks) busy = by (p k) refl (kept_some p ks)
  where
    by : (b : Bool) → p k ≡ b → (0 < length (filter p ks) → list_any p ks ≡ true) → p k || list_any p ks ≡ true
    by true e next = rw e refl
    by false e next = let less : 0 < length (filter p ks) = rw e at busy in rw e (next less)

-- What ends, and what begins nothing.

ends_it : (k : ℕ) (end : ℕ × Action → Event) → ((p : ℕ × Action) → ends_number k (end p) ≡ (p.0 == k)) → (ps : List (ℕ × Action)) → list_any (is_number_of k) ps ≡ true
    → list_any (ends_number k) (option_map_or (λ p. end p ∷ []) (find (is_number_of k) ps) []) ≡ true
ends_it k end is [] h = absurd (let f : ⊥ = cc in f)
ends_it k end is (p ∷ ps) h = by (p.0 == k) refl h (ends_it k end is ps)
  where
    by : (b : Bool) → (p.0 == k) ≡ b → b || list_any (is_number_of k) ps ≡ true
        → (list_any (is_number_of k) ps ≡ true → list_any (ends_number k) (option_map_or (λ p. end p ∷ []) (find (is_number_of k) ps) []) ≡ true)
        → list_any (ends_number k) (option_map_or (λ p. end p ∷ []) (find (is_number_of k) (p ∷ ps)) []) ≡ true
    by true e h next = rw e (rw (is p) (rw e refl))
    by false e h next = rw e (next h)

none_begins : (k : ℕ) (xs : List Event) → list_all begins_nothing xs ≡ true → list_any (begins_number k) xs ≡ false
none_begins k [] h = refl
none_begins k (Begin j a ∷ xs) h = cc
none_begins k (x ∷ xs) h = none_begins k xs h

pub same_any : (p : Event → Bool) (xs ys : List Event) → list_any p ys ≡ false → list_any p (xs ++ ys) ≡ list_any p xs
same_any p xs ys h = list_any-append p xs ys ∙ by (list_any p xs)
  where
    by : (b : Bool) → b || list_any p ys ≡ b
    by true = refl
    by false = h

not_before : (p : Event → Bool) (xs ys : List Event) → not (list_any p (xs ++ ys)) ≡ true → not (list_any p xs) ≡ true
not_before p xs ys h =
    contrary (list_any p xs) (list_any p xs || list_any p ys) (or_left (list_any p xs) (list_any p ys)) (ap not (sym (list_any-append p xs ys)) ∙ h)

-- What a transition can do next.

module _ (t : Transition) where
  -- the numbers that have begun are those of actions
  abbrev pub HaveNumbers : List Event → Type 0
  HaveNumbers since = (k : ℕ) → has_begun t since k ≡ true → 0 < k × k ≤ length t.actions

  -- how many actions haven't begun, and how many haven't ended
  abbrev pub unbegun : List Event → ℕ
  unbegun since = count_by (λ k. not (has_begun t since k)) (numbers t)

  abbrev pub unended : List Event → ℕ
  unended since = count_by (λ k. not (has_number_ended t since k)) (numbers t)

  abbrev pub to_do : List Event → ℕ
  to_do since = unbegun since + unended since

  module _ (since : List Event) where
    fewer_begun : (ys : List Event) → unbegun (since ++ ys) ≤ unbegun since
    fewer_begun ys = count_more (λ k. not (has_begun t (since ++ ys) k)) (λ k. not (has_begun t since k)) (λ k h. not_before (begins_number k) since ys h) (numbers t)

    fewer_ended : (ys : List Event) → unended (since ++ ys) ≤ unended since
    fewer_ended ys = count_more (λ k. not (has_number_ended t (since ++ ys) k)) (λ k. not (has_number_ended t since k)) (λ k h. not_before (ends_number k) since ys h) (numbers t)

    module _ (k : ℕ) (low : 0 < k) (high : k ≤ length t.actions) (ys : List Event) where
      at_place : slice_index_or (numbers t) (k - 1) k ≡ k
      at_place = get_or-range_with_len 1 (length t.actions) (k - 1) k (omega arith) ∙ (let e : 1 + (k - 1) ≡ k = omega arith in e)

      in_place : k - 1 < length (numbers t)
      in_place = let l = length-range_with_len 1 (length t.actions) in omega arith

      one_begun : has_begun t since k ≡ false → has_begun t (since ++ ys) k ≡ true → unbegun (since ++ ys) < unbegun since
      one_begun was is =
          count_one_more (λ k. not (has_begun t (since ++ ys) k)) (λ k. not (has_begun t since k)) (λ k h. not_before (begins_number k) since ys h) (numbers t) (k - 1) k
          in_place at_place (rw is refl) (rw was refl)

      one_ended : has_number_ended t since k ≡ false → has_number_ended t (since ++ ys) k ≡ true → unended (since ++ ys) < unended since
      one_ended was is =
          count_one_more (λ k. not (has_number_ended t (since ++ ys) k)) (λ k. not (has_number_ended t since k)) (λ k h. not_before (ends_number k) since ys h) (numbers t) (k - 1) k
          in_place at_place (rw is refl) (rw was refl)

    -- an action may begin, or an answer is waited for, or the transition has ended
    pub data Next : Type 0 where
      one_begins : (k : ℕ) (a : Action) → Begins t since k a → Next
      one_waits : IsWaiting t since → Next
      has_ended_now : HasEnded t since → Next

    begins_least : Least (may_begin t since) 1 (length t.actions) → Next
    begins_least l =
        one_begins l.number (action_of t.actions l.number) (record {
          action = let w = l.low in let v = l.high in numbered_is t.actions l.number (omega (arith, w)) (omega (arith, v));
          allowed = l.passes;
          lowest = λ j may. l.least j (not_below 1 (length t.actions) j (among j may)) may;
        })
      where
        among : (j : ℕ) → may_begin t since j ≡ true → list_any (λ x. x == j) (numbers t) ≡ true
        among j may =
            sooner (list_any (λ x. x == j) (numbers t)) _ (sooner (list_any (λ x. x == j) (numbers t) && not (has_aborted t since)) _
            (sooner (list_any (λ x. x == j) (numbers t) && not (has_aborted t since) && not (has_begun t since j)) _
            (sooner (list_any (λ x. x == j) (numbers t) && not (has_aborted t since) && not (has_begun t since j) && steps.has_room t since) _ may)))

    pub next_of : Next
    next_of = by (list_any (may_begin t since) (numbers t)) refl
      where
        by : (b : Bool) → list_any (may_begin t since) (numbers t) ≡ b → Next
        by true e = begins_least (least_of (may_begin t since) 1 (length t.actions) e)
        by false e = on (numbers_in_flight t since) refl
          where
            on : (flight : List ℕ) → numbers_in_flight t since ≡ flight → Next
            on [] none = has_ended_now (record { settled = rw e refl; idle = none })
            on (k ∷ ks) some = one_waits (record { settled = rw e refl; busy = rw some (omega arith) })

    -- where nothing more is said, the first in flight ends
    pub silent_next : HaveNumbers since → IsWaiting t since → (k : ℕ) × (a : Action) × EndsSilently t since k a
    silent_next own waits =
        let l = least_of (is_number_in_flight t since) 1 (length t.actions) (kept_some (is_number_in_flight t since) (numbers t) waits.busy) in
        let w = l.low in let v = l.high in (
          l.number,
          action_of t.actions l.number,
          record {
            waiting = waits;
            action = numbered_is t.actions l.number (omega (arith, w)) (omega (arith, v));
            in_flight = l.passes;
            lowest = λ j h. l.least j (let o = own j (sooner (has_begun t since j) _ h) in omega (arith, o.0)) h;
          },
        )

    -- what is left to do after each step
    pub begin_leaves : (k : ℕ) (a : Action) → Begins t since k a → to_do (since ++ Begin k a ∷ []) < to_do since
    begin_leaves k a begin =
        let within = number_within t.actions k a begin.action in
        let less = one_begun k within.0 within.1 (Begin k a ∷ []) (not_begun t since k begin.allowed) (any_last (begins_number k) since (Begin k a) (eq-eqb k k refl)) in
        let no_more = fewer_ended (Begin k a ∷ []) in
        omega (arith, less, no_more)

    pub silent_leaves : (k : ℕ) (a : Action) → EndsSilently t since k a → to_do (since ++ ended t since k (Code (silent_code a))) < to_do since
    silent_leaves k a ends =
        let within = number_within t.actions k a ends.action in
        let flies = among_flying t since k a (is_number_of k) (eq-eqb k k refl) ends.action ends.in_flight in
        let over = ends_it k (end_event t.cluster (journal t since) (in_flight_by_number t since) (Code (silent_code a))) (λ p. refl) (in_flight_by_number t since) flies in
        let is : has_number_ended t (since ++ ended t since k (Code (silent_code a))) k ≡ true
        = list_any-append (ends_number k) since (ended t since k (Code (silent_code a))) ∙ or_true (has_number_ended t since k) over in
        let less = one_ended k within.0 within.1 (ended t since k (Code (silent_code a))) (not-true _ (later (has_begun t since k) _ ends.in_flight)) is in
        let no_more = fewer_begun (ended t since k (Code (silent_code a))) in
        omega (arith, less, no_more)
      where
        or_true : (a : Bool) {b : Bool} → b ≡ true → a || b ≡ true
        or_true true h = refl
        or_true false h = h

    -- the numbers stay those of actions
    pub begin_numbers : (k : ℕ) (a : Action) → Begins t since k a → HaveNumbers since → HaveNumbers (since ++ Begin k a ∷ [])
    begin_numbers k a begin own j h = by (has_begun t since j) refl (sym (list_any-append (begins_number j) since (Begin k a ∷ [])) ∙ h)
      where
        by : (b : Bool) → has_begun t since j ≡ b → b || list_any (begins_number j) (Begin k a ∷ []) ≡ true → 0 < j × j ≤ length t.actions
        by true e g = own j e
        by false e g = on (k == j) refl g
          where
            on : (b : Bool) → (k == j) ≡ b → b || false ≡ true → 0 < j × j ≤ length t.actions
            on true same g = let at : k ≡ j = eqb-true k j same in subst (λ z. 0 < z × z ≤ length t.actions) at (number_within t.actions k a begin.action)
            on false other g = absurd (let f : ⊥ = cc in f)

    pub quiet_numbers : (ys : List Event) → list_all begins_nothing ys ≡ true → HaveNumbers since → HaveNumbers (since ++ ys)
    quiet_numbers ys none own j h = own j (sym (same_any (begins_number j) since ys (none_begins j ys none)) ∙ h)

    pub none_may_begin : IsWaiting t since → (k : ℕ) (a : Action) → Begins t since k a → ⊥
    none_may_begin waits k a begin = unsettled t since k a begin waits.settled
