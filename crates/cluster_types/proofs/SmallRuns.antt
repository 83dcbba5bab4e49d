-- Plans and transitions of small clusters, of which the examples speak.
use Rattle.std.proofs.Common.{ℕ, Bool, false, List, [], filter}
use Rattle.std.specs.Prelude.{◌-◌, slice_get, length}
use Rattle.std.specs.List.{range_with_len}
use Rattle.std.specs.Option.{option_map_or}
use Rattle.cluster_types.specs.declared.cluster.Cluster.{Cluster}
use Rattle.cluster_types.specs.declared.journal.Action.{Action}
use Rattle.cluster_types.specs.declared.journal.Event.{Event}
use Rattle.cluster_types.specs.declared.placement.Decision.{Decision}
use Rattle.cluster_types.specs.Choice.{after_decisions}
use Rattle.cluster_types.specs.Numbers.{is_earlier}
use Rattle.cluster_types.specs.Pins.{pinned_targets}
use Rattle.cluster_types.specs.Precedence.{must_precede}
use Rattle.cluster_types.specs.Steps.{Transition, may_begin}
use Rattle.cluster_types.specs.Tables.{Targets}

-- the table after these decisions, with no promotion scores
abbrev pub table_by : Cluster → List Event → List Decision → Targets
table_by c es ds = after_decisions c es [] (pinned_targets c es) ds

-- the actions that must precede one, of all that are needed
abbrev pub predecessors : Cluster → List Action → Action → List Action
predecessors c actions y = filter (λ x. must_precede c actions (is_earlier c actions) x y) actions

-- the action of a number, from 1, passes
abbrev pub passes_at : List Action → (Action → Bool) → ℕ → Bool
passes_at actions test k = option_map_or test (slice_get actions (k - 1)) false

-- the transition with these actions, planned at this journal
abbrev pub transition : Cluster → List Action → List Event → Transition
transition c actions es = record {
  cluster = c;
  actions = actions;
  precedes = λ j k. passes_at actions (λ y. passes_at actions (λ x. must_precede c actions (is_earlier c actions) x y) j) k;
  planned_at = es;
}

-- which of its numbers may begin after these events
abbrev pub beginners : Transition → List Event → List ℕ
beginners t since = filter (may_begin t since) (range_with_len 1 (length t.actions))
