-- Which action may begin.
use Rattle.std.proofs.Common.{arith, ◌≡◌, ◌<◌, ◌≤◌, ◌+◌, ◌-◌, ◌==◌, ◌&&◌, ◌||◌, not, ℕ, suc, zero, Bool, true, false, cond, is_some, List, [], ◌∷◌, Option, Some, None, length, filter, find, slice_get, refl, sym, ap, ◌∙◌}
use Rattle.std.specs.List.{list_any, list_all, flat_map, range_with_len}
use Rattle.std.proofs.lemmas.Bool.{not-true}
use Rattle.std.proofs.lemmas.Option.{get_or_from_slice_get}
use Rattle.lemmas.proofs.Booleans.{later}
use Rattle.lemmas.proofs.Ranges.{any-alike, filter-alike}
use Rattle.cluster_types.specs.declared.journal.Action.{Action}
use Rattle.cluster_types.specs.declared.journal.Action.TheVariants.{Fence}
use Rattle.cluster_types.specs.declared.journal.Event.{Event}
use Rattle.cluster_types.specs.Graphs.{is_before}
use Rattle.cluster_types.specs.Steps as steps
use Rattle.cluster_types.specs.Steps.{Begins, numbers, may_begin, is_settled, has_begun, has_succeeded, has_aborted, has_room, numbers_in_flight, in_flight_by_number, is_number_in_flight, aborts}
use Rattle.listed.specs.Sets.{is_member, members}
use Rattle.graph_exec.specs.ReadyActions.{inputs_have_succeeded, startable}
use Rattle.graph_exec.specs.Flights.{InFlightOf, pairs_in_flight, paired}
use Rattle.graph_exec.specs.Inner.Logs.{LogOf}
use Rattle.graph_exec.specs.Executors.{ExecutorOf, transition_in}
use Rattle.graph_exec.specs.Inner.ExecutorFields.{InFlightFollows, running}
use Rattle.graph_exec.proofs.FirstOf.{IsFirst, first_is, none_passes, never}
use Rattle.run_safety.proofs.ByNumber.{numbered_is}
use Rattle.graph_exec.proofs.Pairs.{among, of_numbers, pairs_many}

abbrev pub one : Bool → ℕ
one b = cond b 1 0

first_of_five : (a b c d e : Bool) → a && b && c && d && e ≡ true → a ≡ true
first_of_five true b c d e h = refl
first_of_five false b c d e h = cc

-- the tests of a begin, in the order in which they are made
moved : (m a b c d : Bool) → m ≡ true → (m && not a && not b && c && d) ≡ ((not a && c) && (d && not b))
moved true true b c d e = refl
moved true false true true true e = refl
moved true false true true false e = refl
moved true false true false d e = refl
moved true false false true true e = refl
moved true false false true false e = refl
moved true false false false d e = refl
moved false a b c d e = cc

all_numbers : (n k : ℕ) → 0 < k → k ≤ n → list_any (λ j. j == k) (range_with_len 1 n) ≡ true
all_numbers n k low high =
    ap (list_any (λ j. j == k)) (sym (every 1 n)) ∙ among (λ (j : ℕ). true) k 1 n (omega arith) (omega arith) where
      every : (a n : ℕ) → filter (λ (j : ℕ). true) (range_with_len a n) ≡ range_with_len a n
      every a zero = refl
      every a (suc n) = ap (◌∷◌ a) (every (a + 1) n)

-- where two tests agree on the numbers from one on, both pass for all of these numbers, or neither does
module _ (p q : ℕ → Bool) where
  all-alike : (from n : ℕ) → ((k : ℕ) → from ≤ k → k < from + n → p k ≡ q k) → list_all p (range_with_len from n) ≡ list_all q (range_with_len from n)
  all-alike from zero same = refl
  all-alike from (suc n) same =
      rw (same from (omega arith) (omega arith), all-alike (from + 1) n (λ k ge lt. same k (omega arith) (omega arith))) refl

-- an event aborts where there is a first that does
pub found_so : (p : Event → Bool) (es : List Event) (o : Option Event) → find p es ≡ o → list_any p es ≡ is_some o
found_so p [] None e = refl
found_so p [] (Some x) e = cc
found_so p (x ∷ es) o e = on (p x) refl e (found_so p es o) where
  on : (b : Bool) → p x ≡ b → cond b (Some x) (find p es) ≡ o → (find p es ≡ o → list_any p es ≡ is_some o) → b || list_any p es ≡ is_some o
  on true is e rest = ap is_some e
  on false is e rest = rest e

module _ (log : LogOf) (f : InFlightOf) (h : InFlightFollows log f) where
  abbrev r : ExecutorOf
  r = running log f

  abbrev count : ℕ
  count = length f.progress.graph.actions

  -- the actions in flight are those of the transition
  pub same_flight : members f.in_flight ≡ numbers_in_flight (transition_in r) r.since
  same_flight =
      ap (λ m. filter (is_member f.in_flight) (range_with_len 1 m)) h.flight_size
      ∙ filter-alike (is_member f.in_flight) (is_number_in_flight (transition_in r) r.since) 1 count (λ k low high. (h.each k low (omega arith)).in_flight)

  pub same_pairs : pairs_in_flight f ≡ in_flight_by_number (transition_in r) r.since
  same_pairs = ap (flat_map (paired f.progress.graph.actions)) same_flight

  free : (k : ℕ) → inputs_have_succeeded f.progress.graph f.progress.succeeded k
      ≡ list_all (λ j. not (is_before r.graph j k) || has_succeeded (transition_in r) r.since j) (range_with_len 1 count)
  free k =
      all-alike (λ j. not (is_before r.graph j k) || is_member f.progress.succeeded j)
      (λ j. not (is_before r.graph j k) || has_succeeded (transition_in r) r.since j) 1 count
      (λ j low high. ap (λ b. not (is_before r.graph j k) || b) (h.each j low (omega arith)).succeeded)

  abbrev test : ℕ → Bool
  test k = inputs_have_succeeded f.progress.graph f.progress.succeeded k && not (is_member f.progress.begun k)

  abbrev is_open : Bool
  is_open = not (has_aborted (transition_in r) r.since) && has_room (transition_in r) r.since

  allowed : (k : ℕ) → 0 < k → k ≤ count → may_begin (transition_in r) r.since k ≡ (is_open && test k)
  allowed k low high =
      moved (list_any (λ j. j == k) (numbers (transition_in r))) (has_aborted (transition_in r) r.since) (has_begun (transition_in r) r.since k) (has_room (transition_in r) r.since)
      (list_all (λ j. not (is_before r.graph j k) || has_succeeded (transition_in r) r.since j) (range_with_len 1 count))
      (all_numbers count k low high)
      ∙ sym (rw (free k, (h.each k low high).begun) refl)

  -- none may begin, since something aborted or there is no room
  pub settled_by : is_open ≡ false → is_settled (transition_in r) r.since ≡ true
  settled_by shut =
      ap not (any-alike (may_begin (transition_in r) r.since) (λ j. false) 1 count
      (λ k low high. allowed k low (omega arith) ∙ ap (λ b. b && test k) shut) ∙ never 1 count)

  -- none may begin, since none is left
  pub settled_for : slice_get (startable f.progress) 0 ≡ None → is_settled (transition_in r) r.since ≡ true
  settled_for none = on is_open refl where
    on : (b : Bool) → is_open ≡ b → is_settled (transition_in r) r.since ≡ true
    on true e =
        ap not (any-alike (may_begin (transition_in r) r.since) test 1 count
        (λ k low high. allowed k low (omega arith) ∙ ap (λ b. b && test k) e) ∙ none_passes test 1 count none)
    on false e = settled_by e

  -- the first of those that are left
  module _ (k : ℕ) (at : slice_get (startable f.progress) 0 ≡ Some k) where
    first : IsFirst test 1 count k
    first = first_is test 1 count k at

    pub low : 0 < k
    low = first.low

    pub high : k ≤ count
    high = omega (arith, first.high)

    pub not_begun : is_member f.progress.begun k ≡ false
    not_begun = not-true (is_member f.progress.begun k) (later (inputs_have_succeeded f.progress.graph f.progress.succeeded k) (not (is_member f.progress.begun k)) first.passes)

    within : (j : ℕ) → may_begin (transition_in r) r.since j ≡ true → list_any (λ i. i == j) (numbers (transition_in r)) ≡ true
    within j may =
        first_of_five (list_any (λ i. i == j) (numbers (transition_in r))) (not (has_aborted (transition_in r) r.since)) (not (has_begun (transition_in r) r.since j))
        (has_room (transition_in r) r.since) (list_all (λ i. not (is_before r.graph i j) || has_succeeded (transition_in r) r.since i) (numbers (transition_in r))) may

    pub begins : (a : Action) → slice_get f.progress.graph.actions (k - 1) ≡ Some a → is_open ≡ true → Begins (transition_in r) r.since k a
    begins a is shut = record {
      action = numbered_so;
      allowed = allowed k low high ∙ rw (shut, first.passes) refl;
      lowest = λ j may. on j (among_so j (within j may)) may;
    } where
      numbered_so : steps.action_at (transition_in r) k ≡ Some a
      numbered_so = numbered_is f.progress.graph.actions k low high ∙ ap Some (get_or_from_slice_get f.progress.graph.actions (k - 1) a (Fence 0) is)

      among_so : (j : ℕ) → list_any (λ i. i == j) (range_with_len 1 count) ≡ true → (1 ≤ j) × (j < 1 + count)
      among_so j is = of_numbers 1 count j is

      on : (j : ℕ) → (1 ≤ j) × (j < 1 + count) → may_begin (transition_in r) r.since j ≡ true → k ≤ j
      on j w may = first.least j w.0 w.1 (later is_open (test j) (sym (allowed j w.0 (omega (arith, w.1))) ∙ may))

  -- as many as are in flight are counted
  pub counted_flight : length (pairs_in_flight f) ≡ length (numbers_in_flight (transition_in r) r.since)
  counted_flight = pairs_many f (record { flags = h.flight_size }) ∙ ap length same_flight

  -- after an event that aborts none may begin, and none when as many are in flight as may be
  pub settled_abort : (o : Option Event) → o ≡ find (aborts log.cluster) log.since → is_some o ≡ true → is_settled (transition_in r) r.since ≡ true
  settled_abort o is some = settled_by (rw (found_so (aborts log.cluster) log.since o (sym is) ∙ some) refl)

  pub settled_full : has_room (transition_in r) r.since ≡ false → is_settled (transition_in r) r.since ≡ true
  settled_full full = settled_by (rw full (on (has_aborted (transition_in r) r.since))) where
    on : (b : Bool) → (not b && false) ≡ false
    on true = refl
    on false = refl

  pub opened : (o : Option Event) → o ≡ find (aborts log.cluster) log.since → is_some o ≡ false → has_room (transition_in r) r.since ≡ true → is_open ≡ true
  opened o is none room = rw (found_so (aborts log.cluster) log.since o (sym is) ∙ none, room) refl
