-- What one more event tells of a cell.
use Rattle.std.proofs.Common.{◌≡◌, ℕ, Bool, true, false, not, ◌&&◌, ◌||◌, if◌then◌else◌, is_some, slice_get, Option, Some, None, List, [], ◌∷◌, ◌++◌, map, refl, sym, ap, ◌∙◌, append-nil}
use Rattle.std.proofs.Math.Bool.{or-false, or-true}
use Rattle.std.specs.List.{list_any, last_or, after_last, range_with_len}
use Rattle.std.specs.Option.{option_map_or}
use Rattle.lemmas.proofs.Searches.{any-more}
use Rattle.cluster_types.specs.declared.cluster.Cluster.{Cluster}
use Rattle.cluster_types.specs.declared.journal.Event.{Event}
use Rattle.cluster_types.specs.declared.leaf.Monitor.{Monitor}
use Rattle.cluster_types.specs.Cells.{is_reset}
use Rattle.cluster_types.specs.CellStates.{last_outcome, begins_sending_to, ends_monitors, is_end_of_monitor, is_monitor_running}
use Rattle.cluster_types.specs.Failures.{outcomes, is_outcome}
use Rattle.cluster_types.specs.Fields.{monitors}
use Rattle.cluster_types.proofs.MayLaws.{may-last, promoted-last}
use Rattle.lemmas.proofs.Lasts.{after_last-here, after_last-more, last-more}
use Rattle.state_unpack.proofs.MoreFailures.{outcomes-reset, outcomes-more, in_force-after}
use Rattle.state_unpack.specs.Facts.{leaves_open, monitor_runs, facts_of}
use Rattle.state_unpack.specs.Inner.Facts.{answers, running_after, facts_after}

module _ (c : Cluster) (r n : ℕ) (es : List Event) (e : Event) where
  -- the last outcome in force: none after a reset, this event if it is one, or the one before
  last-after : (reset outcome : Bool) → is_reset r n e ≡ reset → is_outcome c r n e ≡ outcome
      → last_outcome c r n (es ++ e ∷ []) ≡ (if reset then None else (if outcome then Some e else last_outcome c r n es))
  last-after true outcome h o = ap (last_or None) (outcomes-reset c r n es e h)
  last-after false true h o = ap (last_or None) (outcomes-more c r n es e h) ∙ (rw o (last-more None (outcomes c r n es) e))
  last-after false false h o = ap (last_or None) (outcomes-more c r n es e h) ∙ (rw o (ap (last_or None) (append-nil (outcomes c r n es))))

  pub seen-after : (reset outcome : Bool) → is_reset r n e ≡ reset → is_outcome c r n e ≡ outcome
      → is_some (last_outcome c r n (es ++ e ∷ [])) ≡ (not reset && (is_some (last_outcome c r n es) || outcome))
  seen-after true outcome h o = rw (last-after true outcome h o) refl
  seen-after false true h o = rw (last-after false true h o) (sym (or-true (is_some (last_outcome c r n es))))
  seen-after false false h o = rw (last-after false false h o) (sym (or-false (is_some (last_outcome c r n es))))

  left-after : (reset outcome : Bool) → is_reset r n e ≡ reset → is_outcome c r n e ≡ outcome
      → option_map_or leaves_open (last_outcome c r n (es ++ e ∷ [])) false
      ≡ (not reset && (if outcome then leaves_open e else option_map_or leaves_open (last_outcome c r n es) false))
  left-after true outcome h o = rw (last-after true outcome h o) refl
  left-after false true h o = rw (last-after false true h o) refl
  left-after false false h o = rw (last-after false false h o) refl

  awaited-after : (outcome : Bool) → is_outcome c r n e ≡ outcome
      → list_any (begins_sending_to r n) (after_last (is_outcome c r n) (es ++ e ∷ []))
      ≡ (not outcome && (list_any (begins_sending_to r n) (after_last (is_outcome c r n) es) || begins_sending_to r n e))
  awaited-after true o = ap (list_any (begins_sending_to r n)) (after_last-here (is_outcome c r n) es e o)
  awaited-after false o =
      ap (list_any (begins_sending_to r n)) (after_last-more (is_outcome c r n) es e o) ∙ any-more (begins_sending_to r n) (after_last (is_outcome c r n) es) e

  running-after : (ends : Bool) (interval : ℕ) → ends_monitors r n e ≡ ends
      → is_monitor_running r n interval (es ++ e ∷ []) ≡ (not ends && (is_monitor_running r n interval es || is_end_of_monitor r n interval e))
  running-after true interval h = ap (list_any (is_end_of_monitor r n interval)) (after_last-here (ends_monitors r n) es e h)
  running-after false interval h =
      ap (list_any (is_end_of_monitor r n interval)) (after_last-more (ends_monitors r n) es e h) ∙ any-more (is_end_of_monitor r n interval) (after_last (ends_monitors r n) es) e

  runs-after : (i : ℕ) → monitor_runs c r n (es ++ e ∷ []) i ≡ (not (ends_monitors r n e) && (monitor_runs c r n es i || answers c r n e i))
  runs-after i = split (slice_get (monitors c r) i) (ends_monitors r n e) refl
    where
      split : (found : Option Monitor) (ends : Bool) → ends_monitors r n e ≡ ends
          → option_map_or (λ (m : Monitor). is_monitor_running r n m.interval_ms (es ++ e ∷ [])) found false
          ≡ (not ends && (option_map_or (λ (m : Monitor). is_monitor_running r n m.interval_ms es) found false || option_map_or (λ (m : Monitor). is_end_of_monitor r n m.interval_ms e) found false))
      split None true h = refl
      split None false h = refl
      split (Some m) ends h = running-after ends m.interval_ms h

  all_running-after : map (monitor_runs c r n (es ++ e ∷ [])) (range_with_len 0 8) ≡ running_after c r n (map (monitor_runs c r n es) (range_with_len 0 8)) e
  all_running-after =
      rw (runs-after 0, runs-after 1, runs-after 2, runs-after 3, runs-after 4, runs-after 5, runs-after 6, runs-after 7) refl

  -- so the events can be gone through one by one
  pub facts-after : facts_of c r n (es ++ e ∷ []) ≡ facts_after c r n (facts_of c r n es) e
  facts-after =
      rw (
        in_force-after c r n es e,
        seen-after (is_reset r n e) (is_outcome c r n e) refl refl,
        left-after (is_reset r n e) (is_outcome c r n e) refl refl,
        awaited-after (is_outcome c r n e) refl,
        may-last c r n e es,
        promoted-last c r n e es,
        all_running-after,
      ) refl
