-- What one more event is to the failures of a cell.
use Rattle.std.proofs.Common.{◌≡◌, ℕ, ◌+◌, ◌-◌, ◌≤◌, min, Bool, true, false, not, ◌&&◌, if◌then◌else◌, Option, Some, None, List, [], ◌∷◌, ◌++◌, length, filter, reverse, refl, ap, ◌∙◌, length-append, append-nil, arith}
use Rattle.std.proofs.lemmas.List.{drop-append-le, drop_all, reverse-append, length-reverse}
use Rattle.std.proofs.lemmas.List.Elements.{filter-append}
use Rattle.std.proofs.lemmas.List.Sums.{prefix_len-le-length}
use Rattle.std.specs.List.{last_or, after_last, suffix_len}
use Rattle.lemmas.proofs.Lasts.{after_last-here, after_last-more, last-more}
use Rattle.lemmas.proofs.Searches.{any-more}
use Rattle.cluster_types.specs.declared.cluster.Cluster.{Cluster}
use Rattle.cluster_types.specs.declared.journal.Event.{Event}
use Rattle.cluster_types.specs.Cells.{is_reset}
use Rattle.cluster_types.specs.Failures.{since_reset, outcomes, is_outcome, is_failure, failures_in_force, is_start, has_code, hard_codes, fatal_codes, asks_for_stop}
use Rattle.cluster_types.specs.NodeStates.{asks_for_fence}
use Rattle.state_unpack.specs.Tally.{tally_of}
use Rattle.state_unpack.specs.Inner.Tally.{with_failure, tally_after}

tally-more : (c : Cluster) (found : List Event) (e : Event) → tally_of c (found ++ e ∷ []) ≡ with_failure c (tally_of c found) e
tally-more c found e =
    let size = length-append found (e ∷ []) in
    let count : min (length (found ++ e ∷ [])) 1000000 ≡ min (min (length found) 1000000 + 1) 1000000 = omega (arith, size) in
    rw (count, any-more is_start found e, any-more (has_code hard_codes) found e, any-more (has_code fatal_codes) found e, any-more (asks_for_stop c) found e, any-more (asks_for_fence c) found e, last-more None found e) refl

module _ (c : Cluster) (r n : ℕ) (es : List Event) (e : Event) where
  -- the outcomes in force
  pub outcomes-reset : is_reset r n e ≡ true → outcomes c r n (es ++ e ∷ []) ≡ []
  outcomes-reset reset = rw (after_last-here (is_reset r n) es e reset) refl

  pub outcomes-more : is_reset r n e ≡ false → outcomes c r n (es ++ e ∷ []) ≡ outcomes c r n es ++ filter (is_outcome c r n) (e ∷ [])
  outcomes-more more = rw (after_last-more (is_reset r n) es e more) (filter-append (is_outcome c r n) (since_reset r n es) (e ∷ []))

  -- and the failures among them
  in_force-reset : is_reset r n e ≡ true → failures_in_force c r n (es ++ e ∷ []) ≡ []
  in_force-reset reset = ap (filter is_failure) (outcomes-reset reset)

  pub in_force-more : is_reset r n e ≡ false → failures_in_force c r n (es ++ e ∷ []) ≡ failures_in_force c r n es ++ filter is_failure (filter (is_outcome c r n) (e ∷ []))
  in_force-more more = ap (filter is_failure) (outcomes-more more) ∙ filter-append is_failure (outcomes c r n es) (filter (is_outcome c r n) (e ∷ []))

  one_event : (outcome failure : Bool) → is_outcome c r n e ≡ outcome → is_failure e ≡ failure
      → tally_of c (failures_in_force c r n es ++ filter is_failure (filter (is_outcome c r n) (e ∷ [])))
      ≡ (if outcome && failure then with_failure c (tally_of c (failures_in_force c r n es)) e else tally_of c (failures_in_force c r n es))
  one_event true true o f = rw (o, f) (tally-more c (failures_in_force c r n es) e)
  one_event true false o f = rw (o, f) (ap (tally_of c) (append-nil (failures_in_force c r n es)))
  one_event false failure o f = rw o (ap (tally_of c) (append-nil (failures_in_force c r n es)))

  -- so the events can be gone through one by one
  pub in_force-after : tally_of c (failures_in_force c r n (es ++ e ∷ [])) ≡ tally_after c r n (tally_of c (failures_in_force c r n es)) e
  in_force-after = split (is_reset r n e) refl
    where
      split : (t : Bool) → is_reset r n e ≡ t
          → tally_of c (failures_in_force c r n (es ++ e ∷ [])) ≡ tally_after c r n (tally_of c (failures_in_force c r n es)) e
      split true reset = rw (in_force-reset reset, reset) refl
      split false more = rw (in_force-more more, more) (one_event (is_outcome c r n e) (is_failure e) refl refl)
