-- What an answer from outside changes.
use Rattle.std.proofs.Common.{arith, ◌≡◌, ◌<◌, ◌+◌, ◌&&◌, ◌||◌, not, ℕ, Bool, true, false, [], ◌∷◌, ◌++◌, count_by, refl, sym, ap}
use Rattle.std.proofs.lemmas.Bool.{eqb-true, ne_eqb}
use Rattle.std.proofs.Math.Bool.{or-false}
use Rattle.lemmas.proofs.Counts.{count-append}
use Rattle.cluster_types.specs.declared.journal.Event.{Event}
use Rattle.cluster_types.specs.declared.journal.Event.TheVariants.{Up, Down, Lost, Quorum, Wait, Cleanup, Begin, Ended}
use Rattle.cluster_types.specs.AnswersThatApply.{most_from_outside}
use Rattle.cluster_types.specs.Journals.{ends_number}
use Rattle.cluster_types.specs.Steps.{begins_number, succeeds_number, is_from_outside}
use Rattle.listed.specs.Sets.{is_member}
use Rattle.graph_exec.specs.Flights.{InFlightOf}
use Rattle.graph_exec.specs.Inner.Logs.{LogOf}
use Rattle.graph_exec.specs.Inner.ExecutorFields.{InFlightFollows}
use Rattle.graph_exec.proofs.Beginning.{one}
use Rattle.graph_exec.proofs.OneMore.{Adds}

module _ (log : LogOf) (f : InFlightOf) (h : InFlightFollows log f) (event : Event) (outer : is_from_outside event ≡ true) (few : count_by is_from_outside log.since < most_from_outside) where
  begins_none : (j : ℕ) (e : Event) → is_from_outside e ≡ true → begins_number j e ≡ false
  begins_none j (Begin k a) o = cc
  begins_none j (Ended k a outcome moment) o = refl
  begins_none j (Up n) o = refl
  begins_none j (Down n) o = refl
  begins_none j (Lost n) o = refl
  begins_none j (Quorum now) o = refl
  begins_none j (Wait seconds) o = refl
  begins_none j (Cleanup leaf n) o = refl

  ends_none : (j : ℕ) (e : Event) → 0 < j → is_from_outside e ≡ true → ends_number j e ≡ false
  ends_none j (Ended k a outcome moment) some o = let z = eqb-true k 0 o in ne_eqb k j (λ e. let g : ⊥ = omega arith in g)
  ends_none j (Begin k a) some o = refl
  ends_none j (Up n) some o = refl
  ends_none j (Down n) some o = refl
  ends_none j (Lost n) some o = refl
  ends_none j (Quorum now) some o = refl
  ends_none j (Wait seconds) some o = refl
  ends_none j (Cleanup leaf n) some o = refl

  succeeds_none : (j : ℕ) (e : Event) → 0 < j → is_from_outside e ≡ true → succeeds_number log.cluster j e ≡ false
  succeeds_none j (Ended k a outcome moment) some o = let g = ends_none j (Ended k a outcome moment) some o in rw g refl
  succeeds_none j (Begin k a) some o = refl
  succeeds_none j (Up n) some o = refl
  succeeds_none j (Down n) some o = refl
  succeeds_none j (Lost n) some o = refl
  succeeds_none j (Quorum now) some o = refl
  succeeds_none j (Wait seconds) some o = refl
  succeeds_none j (Cleanup leaf n) some o = refl

  unchanged : (b begins ends : Bool) → begins ≡ false → ends ≡ false → b ≡ ((b || begins) && not ends)
  unchanged b true ends f g = cc
  unchanged b false true f g = cc
  unchanged true false false f g = refl
  unchanged false false false f g = refl

  one_outside : count_by is_from_outside (log.since ++ event ∷ []) ≡ count_by is_from_outside log.since + 1
  one_outside =
      let c : count_by is_from_outside (log.since ++ event ∷ []) ≡ count_by is_from_outside log.since + (0 + one (is_from_outside event))
      = count-append is_from_outside log.since (event ∷ []) in
      let v : one (is_from_outside event) ≡ 1 = ap (λ (b : Bool). one b) outer in
      omega arith

  pub tell_adds : Adds log f f event
  tell_adds = record {
    same = refl;
    begun_size = refl;
    succeeded_size = refl;
    flight_size = refl;
    begun = λ j some most. rw (begins_none j event outer) (sym (or-false (is_member f.progress.begun j)));
    succeeded = λ j some most. rw (succeeds_none j event some outer) (sym (or-false (is_member f.progress.succeeded j)));
    in_flight = λ j some most. unchanged (is_member f.in_flight j) (begins_number j event) (ends_number j event) (begins_none j event outer) (ends_none j event some outer);
    fresh = λ j some most b. let n = begins_none j event outer in cc;
    known = λ j some most b. let n = ends_none j event some outer in cc;
    from_one = begins_none 0 event outer;
    fewer = let o = one_outside in omega arith;
  }

  pub tell_room : 0 < log.room
  tell_room = let t = h.has_room in omega arith
