use Rattle.std.proofs.Common.{◌≡◌, ◌++◌, filter, map, take}
use Rattle.planner.specs.Inner.Actions.{stays_needed, step_action}
use Rattle.planner.proofs.needed_actions.listing.push_steps.Given as goal

abbrev pub invariant-loop-step : goal.invariant-loop-step
invariant-loop-step l =
    l.list.items ≡ l.fn.list.items ++ map (step_action l.leaf l.node) (filter (stays_needed l.is_sent_there) (take l.step-index l.steps))
