-- What one event more changes of what is kept.
use Rattle.std.proofs.Common.{arith, ◌≡◌, ◌<◌, ◌≤◌, ◌+◌, ◌-◌, ◌==◌, ◌&&◌, ◌||◌, not, ℕ, Bool, true, false, List, [], ◌∷◌, ◌++◌, length, slice_set, refl, sym, ap, ◌∙◌, ◌≢◌, ◌⊎◌, inl, inr}
use Rattle.std.proofs.lemmas.Bool.{cases_eq, eq-eqb, ne_eqb, or_right}
use Rattle.std.proofs.lemmas.List.{get_or-set_same, get_or-set_other}
use Rattle.std.proofs.Math.Bool.{or-false, or-true}
use Rattle.lemmas.proofs.Booleans.{either}
use Rattle.lemmas.proofs.Searches.{any-more}
use Rattle.cluster_types.specs.declared.journal.Event.{Event}
use Rattle.cluster_types.specs.Journals.{ends_number}
use Rattle.cluster_types.specs.Steps.{begins_number, succeeds_number, has_begun, has_number_ended, has_succeeded}
use Rattle.listed.specs.Sets.{is_member}
use Rattle.run_safety.proofs.Preceded.{success_ends}
use Rattle.graph_exec.specs.Flights.{InFlightOf}
use Rattle.graph_exec.specs.Inner.Logs.{LogOf, logged}
use Rattle.graph_exec.specs.Executors.{transition_in}
use Rattle.graph_exec.specs.Inner.ExecutorFields.{IsNumberKept, InFlightFollows, running, events_to_come}

-- what is in flight after: what was or begins, and doesn't end
flies_on : (begun ended begins ends : Bool) → (ended ≡ true → begun ≡ true) → (begins ≡ true → begun ≡ false)
    → ((begun || begins) && not (ended || ends)) ≡ (((begun && not ended) || begins) && not ends)
flies_on true true begins ends f g = on begins ends g where
  on : (begins ends : Bool) → (begins ≡ true → true ≡ false) → ((true || begins) && not (true || ends)) ≡ (((true && not true) || begins) && not ends)
  on true ends g = let h = g refl in cc
  on false ends g = refl
flies_on true false begins ends f g = refl
flies_on false true begins ends f g = let h = f refl in cc
flies_on false false begins ends f g = refl

-- what one event changes of the flags, as the event says
pub record Adds (log : LogOf) (f after : InFlightOf) (e : Event) : Type 0 where
  pub same : after.progress.graph ≡ f.progress.graph
  pub begun_size : length after.progress.begun ≡ length f.progress.begun
  pub succeeded_size : length after.progress.succeeded ≡ length f.progress.succeeded
  pub flight_size : length after.in_flight ≡ length f.in_flight
  pub begun : (j : ℕ) → 0 < j → j ≤ length f.progress.graph.actions → is_member after.progress.begun j ≡ (is_member f.progress.begun j || begins_number j e)
  pub succeeded : (j : ℕ) → 0 < j → j ≤ length f.progress.graph.actions
      → is_member after.progress.succeeded j ≡ (is_member f.progress.succeeded j || succeeds_number log.cluster j e)
  pub in_flight : (j : ℕ) → 0 < j → j ≤ length f.progress.graph.actions
      → is_member after.in_flight j ≡ ((is_member f.in_flight j || begins_number j e) && not (ends_number j e))
  pub fresh : (j : ℕ) → 0 < j → j ≤ length f.progress.graph.actions → begins_number j e ≡ true → is_member f.progress.begun j ≡ false
  pub known : (j : ℕ) → 0 < j → j ≤ length f.progress.graph.actions → ends_number j e ≡ true → is_member f.progress.begun j ≡ true
  pub from_one : begins_number 0 e ≡ false
  pub fewer : events_to_come (logged log e) after + 1 ≤ events_to_come log f

module _ (log : LogOf) (f after : InFlightOf) (e : Event) (h : InFlightFollows log f) (a : Adds log f after e) where
  module _ (j : ℕ) (low : 0 < j) (high : j ≤ length f.progress.graph.actions) where
    old : IsNumberKept log f j
    old = h.each j low high

    begun_now : has_begun (transition_in (running log f)) (log.since ++ e ∷ []) j ≡ (has_begun (transition_in (running log f)) log.since j || begins_number j e)
    begun_now = any-more (begins_number j) log.since e

    ended_now : has_number_ended (transition_in (running log f)) (log.since ++ e ∷ []) j ≡ (has_number_ended (transition_in (running log f)) log.since j || ends_number j e)
    ended_now = any-more (ends_number j) log.since e

    succeeded_now : has_succeeded (transition_in (running log f)) (log.since ++ e ∷ []) j
        ≡ (has_succeeded (transition_in (running log f)) log.since j || succeeds_number log.cluster j e)
    succeeded_now = any-more (succeeds_number log.cluster j) log.since e

    kept_begun : is_member after.progress.begun j ≡ has_begun (transition_in (running log f)) (log.since ++ e ∷ []) j
    kept_begun = a.begun j low high ∙ ap (λ (b : Bool). b || begins_number j e) old.begun ∙ sym begun_now

    kept : IsNumberKept (logged log e) after j
    kept = record {
      begun = kept_begun;
      succeeded = a.succeeded j low high ∙ ap (λ (b : Bool). b || succeeds_number log.cluster j e) old.succeeded ∙ sym succeeded_now;
      in_flight =
          a.in_flight j low high
          ∙ ap (λ (b : Bool). (b || begins_number j e) && not (ends_number j e)) old.in_flight
          ∙ sym (rw (begun_now, ended_now) (flies_on (has_begun (transition_in (running log f)) log.since j) (has_number_ended (transition_in (running log f)) log.since j)
          (begins_number j e) (ends_number j e) old.ended (λ b. sym old.begun ∙ a.fresh j low high b)));
      ended = λ t. either (has_number_ended (transition_in (running log f)) log.since j) (ends_number j e) (sym ended_now ∙ t)
          (λ before. rw begun_now (rw (old.ended before) refl))
          (λ now. rw begun_now (rw (sym old.begun ∙ a.known j low high now) refl));
      over = λ t. either (has_succeeded (transition_in (running log f)) log.since j) (succeeds_number log.cluster j e) (sym succeeded_now ∙ t)
          (λ before. rw ended_now (rw (old.over before) refl))
          (λ now. rw ended_now (or_right (has_number_ended (transition_in (running log f)) log.since j) (ends_number j e) (success_ends log.cluster j e now)));
    }

  pub follows_more : InFlightFollows (logged log e) after
  follows_more = record {
    begun_size = a.begun_size ∙ h.begun_size ∙ ap (λ g. length g.actions) (sym a.same);
    succeeded_size = a.succeeded_size ∙ h.succeeded_size ∙ ap (λ g. length g.actions) (sym a.same);
    flight_size = a.flight_size ∙ h.flight_size ∙ ap (λ g. length g.actions) (sym a.same);
    each = λ j low high. kept j low (rw a.same at high);
    from_one = any-more (begins_number 0) log.since e ∙ rw (h.from_one, a.from_one) refl;
    has_room = let r = h.has_room in let l = a.fewer in omega arith;
  }

-- a flag that is set, and one that is taken away
pub set_one : (flags : List Bool) (k j : ℕ) → 0 < k → k ≤ length flags → 0 < j → is_member (slice_set flags (k - 1) true) j ≡ (is_member flags j || (k == j))
set_one flags k j low high some = on (cases_eq k j) where
  on : (k ≡ j) ⊎ (k ≢ j) → is_member (slice_set flags (k - 1) true) j ≡ (is_member flags j || (k == j))
  on (inl e) = rw (← e) (get_or-set_same flags (k - 1) true false (omega arith) ∙ sym (rw (eq-eqb k k refl) (or-true (is_member flags k))))
  on (inr d) = get_or-set_other flags (k - 1) (j - 1) true false (λ e. d (omega arith)) ∙ sym (rw (ne_eqb k j d) (or-false (is_member flags j)))

pub unset_one : (flags : List Bool) (k j : ℕ) → 0 < k → k ≤ length flags → 0 < j
    → is_member (slice_set flags (k - 1) false) j ≡ (is_member flags j && not (k == j))
unset_one flags k j low high some = on (cases_eq k j) where
  on : (k ≡ j) ⊎ (k ≢ j) → is_member (slice_set flags (k - 1) false) j ≡ (is_member flags j && not (k == j))
  on (inl e) = rw (← e) (get_or-set_same flags (k - 1) false false (omega arith) ∙ sym (rw (eq-eqb k k refl) (last (is_member flags k)))) where
    last : (b : Bool) → (b && not true) ≡ false
    last true = refl
    last false = refl
  on (inr d) = get_or-set_other flags (k - 1) (j - 1) false false (λ e. d (omega arith)) ∙ sym (rw (ne_eqb k j d) (last (is_member flags j))) where
    last : (b : Bool) → (b && not false) ≡ b
    last true = refl
    last false = refl
