-- What the end of an action changes.
use Rattle.std.proofs.Common.{arith, ◌≡◌, ◌<◌, ◌≤◌, ◌+◌, ◌-◌, ◌==◌, ◌&&◌, ◌||◌, not, if◌then◌else◌, ℕ, Bool, true, false, [], ◌∷◌, ◌++◌, length, count_by, slice_index_or, slice_set, refl, sym, ap, ◌∙◌, ◌⊎◌, inl, inr}
use Rattle.std.specs.List.{list_any}
use Rattle.std.proofs.lemmas.Bool.{cases_lt, eqb-true, ne_eqb, not-true}
use Rattle.std.proofs.lemmas.List.{length-set}
use Rattle.std.proofs.lemmas.List.Sums.{sum_by-set}
use Rattle.std.proofs.Math.Bool.{or-false, and-true, and-false}
use Rattle.lemmas.proofs.Booleans.{sooner, later}
use Rattle.lemmas.proofs.Counts.{count-append}
use Rattle.cluster_types.specs.declared.journal.Action.{Action}
use Rattle.cluster_types.specs.declared.journal.Event.{Event}
use Rattle.cluster_types.specs.declared.journal.Event.TheVariants.{Ended}
use Rattle.cluster_types.specs.declared.journal.Outcome.{Outcome}
use Rattle.cluster_types.specs.AnswersThatApply.{is_number_of}
use Rattle.cluster_types.specs.Journals.{moment_of}
use Rattle.cluster_types.specs.Steps.{is_success, is_from_outside, ended, in_flight_by_number, has_begun, has_number_ended, has_succeeded}
use Rattle.listed.specs.Sets.{is_member}
use Rattle.graph_exec.specs.Flights.{InFlightOf, pairs_in_flight}
use Rattle.graph_exec.specs.Inner.Flights.{with_ended}
use Rattle.graph_exec.specs.Inner.Logs.{LogOf}
use Rattle.graph_exec.specs.Executors.{ExecutorOf, transition_in}
use Rattle.graph_exec.specs.Inner.ExecutorFields.{InFlightFollows, running}
use Rattle.graph_exec.proofs.Beginning.{one, same_pairs}
use Rattle.graph_exec.proofs.Flying.{ended_of}
use Rattle.graph_exec.proofs.OneMore.{Adds, set_one, unset_one}
use Rattle.run_safety.proofs.ByNumber.{action_of}
use Rattle.graph_exec.proofs.Pairs.{is_flying, not_flying}

module _ (log : LogOf) (f : InFlightOf) (h : InFlightFollows log f) where
  abbrev r : ExecutorOf
  r = running log f

  module _ (k : ℕ) (flies : list_any (is_number_of k) (in_flight_by_number (transition_in r) r.since) ≡ true) where
    flies_here : list_any (is_number_of k) (pairs_in_flight f) ≡ true
    flies_here = ap (list_any (is_number_of k)) (same_pairs log f h) ∙ flies

    pub low : 0 < k
    low = on (cases_lt 0 k) where
      on : (0 < k) ⊎ (k ≤ 0) → 0 < k
      on (inl l) = l
      on (inr none) = let n = not_flying f (record { flags = h.flight_size }) k (inl (omega arith)) in let e = flies_here in cc

    within : k ≤ length f.in_flight
    within = on (cases_lt (length f.in_flight) k) where
      on : (length f.in_flight < k) ⊎ (k ≤ length f.in_flight) → k ≤ length f.in_flight
      on (inl more) = let n = not_flying f (record { flags = h.flight_size }) k (inr more) in let e = flies_here in cc
      on (inr l) = l

    pub high : k ≤ length f.progress.graph.actions
    high = rw h.flight_size at within

    is_up : is_member f.in_flight k ≡ true
    is_up = sym (is_flying f (record { flags = h.flight_size }) k low within) ∙ flies_here

    up : (has_begun (transition_in r) r.since k && not (has_number_ended (transition_in r) r.since k)) ≡ true
    up = sym (h.each k low high).in_flight ∙ is_up

    -- it has begun, and hasn't succeeded
    pub has_run : is_member f.progress.begun k ≡ true
    has_run = (h.each k low high).begun ∙ sooner (has_begun (transition_in r) r.since k) (not (has_number_ended (transition_in r) r.since k)) up

    pub not_yet : is_member f.progress.succeeded k ≡ false
    not_yet = (h.each k low high).succeeded ∙ on (has_succeeded (transition_in r) r.since k) refl where
      on : (b : Bool) → has_succeeded (transition_in r) r.since k ≡ b → b ≡ false
      on true e =
          let o = (h.each k low high).over e in
          let n = not-true (has_number_ended (transition_in r) r.since k) (later (has_begun (transition_in r) r.since k) (not (has_number_ended (transition_in r) r.since k)) up) in
          cc
      on false e = refl

    abbrev action : Action
    action = action_of f.progress.graph.actions k

    pub ended_is : (outcome : Outcome) → ended (transition_in r) r.since k outcome ≡ Ended k action outcome (moment_of (r.planned_at ++ r.since)) ∷ []
    ended_is outcome = ended_of r k flies outcome

    counted_flying : count_by (λ b. b) (slice_set f.in_flight (k - 1) false) + 1 ≡ count_by (λ b. b) f.in_flight
    counted_flying =
        let l = low in
        let w = within in
        let m : count_by (λ b. b) (slice_set f.in_flight (k - 1) false) + one (slice_index_or f.in_flight (k - 1) false) ≡ count_by (λ b. b) f.in_flight + 0
        = sum_by-set (λ (b : Bool). one b) f.in_flight (k - 1) false false (omega arith) in
        let v : one (slice_index_or f.in_flight (k - 1) false) ≡ 1 = ap (λ (b : Bool). one b) is_up in
        omega arith

    -- there is room for the end
    pub end_room : 0 < log.room
    end_room = let c = counted_flying in let t = h.has_room in omega arith

    module _ (outcome : Outcome) (moment : ℕ) (success : Bool) (is : success ≡ is_success log.cluster action outcome) where
      abbrev event : Event
      event = Ended k action outcome moment

      same_outside : count_by is_from_outside (log.since ++ event ∷ []) ≡ count_by is_from_outside log.since
      same_outside =
          let l = low in
          let inside : (k == 0) ≡ false = ne_eqb k 0 (λ e. let g : ⊥ = omega arith in g) in
          let c : count_by is_from_outside (log.since ++ event ∷ []) ≡ count_by is_from_outside log.since + (0 + one (k == 0))
          = count-append is_from_outside log.since (event ∷ []) in
          let v : one (k == 0) ≡ 0 = ap (λ (b : Bool). one b) inside in
          omega arith

      succeeded_so : (j : ℕ) → 0 < j → (b : Bool) → b ≡ is_success log.cluster action outcome
          → is_member (if b then slice_set f.progress.succeeded (k - 1) true else f.progress.succeeded) j
          ≡ (is_member f.progress.succeeded j || (k == j && is_success log.cluster action outcome))
      succeeded_so j some true e =
          set_one f.progress.succeeded k j low (rw h.succeeded_size high) some
          ∙ ap (λ (b : Bool). is_member f.progress.succeeded j || b) (sym (and-true (k == j)) ∙ ap (λ (b : Bool). k == j && b) e)
      succeeded_so j some false e =
          sym (or-false (is_member f.progress.succeeded j))
          ∙ ap (λ (b : Bool). is_member f.progress.succeeded j || b) (sym (and-false (k == j)) ∙ ap (λ (b : Bool). k == j && b) e)

      succeeded_long : (b : Bool) → length (if b then slice_set f.progress.succeeded (k - 1) true else f.progress.succeeded) ≡ length f.progress.succeeded
      succeeded_long true = length-set f.progress.succeeded (k - 1) true
      succeeded_long false = refl

      pub end_adds : Adds log f (with_ended f k success) event
      end_adds = record {
        same = refl;
        begun_size = refl;
        succeeded_size = succeeded_long success;
        flight_size = length-set f.in_flight (k - 1) false;
        begun = λ j some most. sym (or-false (is_member f.progress.begun j));
        succeeded = λ j some most. succeeded_so j some success is;
        in_flight = λ j some most. unset_one f.in_flight k j low within some ∙ ap (λ (b : Bool). b && not (k == j)) (sym (or-false (is_member f.in_flight j)));
        fresh = λ j some most b. cc;
        known = λ j some most b. let e : k ≡ j = eqb-true k j b in rw (← e) has_run;
        from_one = refl;
        fewer = let c = counted_flying in let o = same_outside in omega arith;
      }
