use Rattle.std.proofs.Common.{◌≡◌, ◌++◌, take}
use Rattle.std.specs.List.{flat_map}
use Rattle.cluster_types.specs.Texts.{event_lines, run_line}
use Rattle.trace_text.proofs.runs.push_events.Given as goal

abbrev pub invariant-loop-event : goal.invariant-loop-event
invariant-loop-event l =
    l.text.items ≡ l.fn.text.items ++ flat_map (λ e. flat_map (run_line l.cluster) (event_lines e)) (take l.event-index l.events)
