-- That the begin of an action is kept.
use Rattle.std.proofs.Common.{arith, ◌≡◌, ◌<◌, ◌≤◌, ◌+◌, ◌-◌, ◌==◌, ◌&&◌, ◌||◌, not, ℕ, Bool, true, false, [], ◌∷◌, ◌++◌, Some, length, count_by, slice_index_or, slice_set, slice_get, refl, sym, ap, ◌∙◌}
use Rattle.std.proofs.lemmas.List.{length-set}
use Rattle.std.proofs.lemmas.Bool.{eqb-true, ne_eqb}
use Rattle.std.proofs.lemmas.List.Sums.{sum_by-set}
use Rattle.std.proofs.Math.Bool.{or-false, and-true}
use Rattle.lemmas.proofs.Counts.{count-append}
use Rattle.cluster_types.specs.declared.journal.Action.{Action}
use Rattle.cluster_types.specs.declared.journal.Event.TheVariants.{Begin}
use Rattle.cluster_types.specs.Steps as steps
use Rattle.listed.specs.Sets.{is_member}
use Rattle.graph_exec.specs.ReadyActions.{startable}
use Rattle.graph_exec.specs.Flights.{InFlightOf}
use Rattle.graph_exec.specs.Inner.Flights.{with_begun}
use Rattle.graph_exec.specs.Inner.Logs.{LogOf}
use Rattle.graph_exec.specs.Executors.{ExecutorOf, transition_in}
use Rattle.graph_exec.specs.Inner.ExecutorFields.{InFlightFollows, running}
use Rattle.graph_exec.proofs.Beginning as beginning
use Rattle.graph_exec.proofs.Beginning.{one}
use Rattle.graph_exec.proofs.OneMore.{Adds, set_one}

module _ (log : LogOf) (f : InFlightOf) (h : InFlightFollows log f) (k : ℕ) (at : slice_get (startable f.progress) 0 ≡ Some k) where
  abbrev r : ExecutorOf
  r = running log f

  low : 0 < k
  low = beginning.low log f h k at

  high : k ≤ length f.progress.graph.actions
  high = beginning.high log f h k at

  not_begun : is_member f.progress.begun k ≡ false
  not_begun = beginning.not_begun log f h k at

  counted_begun : count_by not (slice_set f.progress.begun (k - 1) true) + 1 ≡ count_by not f.progress.begun
  counted_begun =
      let l = low in
      let g = high in
      let s = h.begun_size in
      let m : count_by not (slice_set f.progress.begun (k - 1) true) + one (not (slice_index_or f.progress.begun (k - 1) false)) ≡ count_by not f.progress.begun + 0
      = sum_by-set (λ (b : Bool). one (not b)) f.progress.begun (k - 1) true false (omega arith) in
      let v : one (not (slice_index_or f.progress.begun (k - 1) false)) ≡ 1 = ap (λ (b : Bool). one (not b)) not_begun in
      omega arith

  not_flying : is_member f.in_flight k ≡ false
  not_flying =
      (h.each k low high).in_flight
      ∙ ap (λ b. b && not (steps.has_number_ended (transition_in r) r.since k)) (sym (h.each k low high).begun ∙ not_begun)

  counted_flying : count_by (λ b. b) (slice_set f.in_flight (k - 1) true) ≡ count_by (λ b. b) f.in_flight + 1
  counted_flying =
      let l = low in
      let g = high in
      let s = h.flight_size in
      let m : count_by (λ b. b) (slice_set f.in_flight (k - 1) true) + one (slice_index_or f.in_flight (k - 1) false) ≡ count_by (λ b. b) f.in_flight + 1
      = sum_by-set (λ (b : Bool). one b) f.in_flight (k - 1) true false (omega arith) in
      let v : one (slice_index_or f.in_flight (k - 1) false) ≡ 0 = ap (λ (b : Bool). one b) not_flying in
      omega arith

  same_outside : (a : Action) → count_by steps.is_from_outside (log.since ++ Begin k a ∷ []) ≡ count_by steps.is_from_outside log.since
  same_outside a = let c : count_by steps.is_from_outside (log.since ++ Begin k a ∷ []) ≡ count_by steps.is_from_outside log.since + 0 = count-append steps.is_from_outside log.since (Begin k a ∷ []) in omega arith

  pub begin_adds : (a : Action) → Adds log f (with_begun f k) (Begin k a)
  begin_adds a = record {
    same = refl;
    begun_size = length-set f.progress.begun (k - 1) true;
    succeeded_size = refl;
    flight_size = length-set f.in_flight (k - 1) true;
    begun = λ j some within. set_one f.progress.begun k j low (rw h.begun_size high) some;
    succeeded = λ j some within. sym (or-false (is_member f.progress.succeeded j));
    in_flight = λ j some within. set_one f.in_flight k j low (rw h.flight_size high) some ∙ sym (and-true (is_member f.in_flight j || (k == j)));
    fresh = λ j some within is. let e : k ≡ j = eqb-true k j is in rw (← e) not_begun;
    known = λ j some within is. cc;
    from_one = let l = low in ne_eqb k 0 (λ e. let g : ⊥ = omega arith in g);
    fewer =
        let b = counted_begun in
        let g = counted_flying in
        let o = same_outside a in
        omega arith;
  }

  -- there is room for the event
  pub begin_room : 0 < log.room
  begin_room = let b = counted_begun in let r = h.has_room in omega arith
