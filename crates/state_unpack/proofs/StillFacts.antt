-- What is told of a cell stays as it is by an event that tells nothing of it.
use Rattle.std.proofs.Common.{◌≡◌, ℕ, Bool, false, slice_get, Option, Some, None, List, [], ◌∷◌, ◌++◌, refl, ◌∙◌}
use Rattle.std.specs.Option.{option_map_or}
use Rattle.std.proofs.Math.Bool.{or-false, and-true}
use Rattle.cluster_types.specs.declared.cluster.Cluster.{Cluster}
use Rattle.cluster_types.specs.declared.journal.Event.{Event}
use Rattle.cluster_types.specs.declared.leaf.Monitor.{Monitor}
use Rattle.cluster_types.specs.CellStates.{is_end_of_monitor}
use Rattle.cluster_types.specs.Fields.{monitors}
use Rattle.cluster_types.specs.May.{may_be_running, is_left_promoted, opens, closes, opens_promoted, closes_promoted}
use Rattle.state_unpack.specs.Facts.{facts_of, monitor_runs}
use Rattle.state_unpack.specs.Inner.Facts.{facts_after, runs_after, answers}
use Rattle.state_unpack.specs.Inner.Touching.{touches}
use Rattle.state_unpack.proofs.MoreFacts.{facts-after}
use Rattle.state_unpack.proofs.Untouched.{no_reset, no_outcome, no_sending, no_end, no_answer, no_opening, no_closing, no_promotion, no_demotion, stays_in}

module _ (c : Cluster) (r n : ℕ) (e : Event) (quiet : touches r n e ≡ false) where
  no_answer_of : (i : ℕ) → answers c r n e i ≡ false
  no_answer_of i = split (slice_get (monitors c r) i)
    where
      split : (found : Option Monitor) → option_map_or (λ (m : Monitor). is_end_of_monitor r n m.interval_ms e) found false ≡ false
      split None = refl
      split (Some m) = no_answer r n m.interval_ms e quiet

  runs_on : (i : ℕ) (was : Bool) → runs_after c r n e i was ≡ was
  runs_on i was = rw (no_end r n e quiet, no_answer_of i) (or-false was)

  never_opens : opens c r n e ≡ false
  never_opens = rw (no_opening r n e quiet) refl

  never_closes : closes c r n e ≡ false
  never_closes = rw (stays_in r n c.properties.fencing e quiet, no_closing r n e quiet) refl

  never_promotes : opens_promoted c r n e ≡ false
  never_promotes = rw (no_promotion r n e quiet) refl

  never_demotes : closes_promoted c r n e ≡ false
  never_demotes = rw (stays_in r n c.properties.fencing e quiet, no_demotion r n e quiet) refl

  still : (es : List Event) → facts_after c r n (facts_of c r n es) e ≡ facts_of c r n es
  still es =
      rw (
        no_reset r n e quiet,
        no_outcome r n c e quiet,
        no_sending r n e quiet,
        never_opens,
        never_closes,
        never_promotes,
        never_demotes,
        runs_on 0 (monitor_runs c r n es 0),
        runs_on 1 (monitor_runs c r n es 1),
        runs_on 2 (monitor_runs c r n es 2),
        runs_on 3 (monitor_runs c r n es 3),
        runs_on 4 (monitor_runs c r n es 4),
        runs_on 5 (monitor_runs c r n es 5),
        runs_on 6 (monitor_runs c r n es 6),
        runs_on 7 (monitor_runs c r n es 7),
      )
      (rw (or-false (facts_of c r n es).seen, or-false (facts_of c r n es).awaited, and-true (may_be_running c r n es), and-true (is_left_promoted c r n es)) refl)

  pub facts-stay : (es : List Event) → facts_of c r n (es ++ e ∷ []) ≡ facts_of c r n es
  facts-stay es = facts-after c r n es e ∙ still es
