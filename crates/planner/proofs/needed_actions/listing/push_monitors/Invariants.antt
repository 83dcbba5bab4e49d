use Rattle.std.proofs.Common.{◌≡◌, ◌++◌, drop, map}
use Rattle.planner.specs.Inner.Actions.{leaf_monitor, wanted}
use Rattle.planner.proofs.needed_actions.listing.push_monitors.Given as goal

-- what is left to add gives what was to be added
abbrev pub invariant-loop-monitor : goal.invariant-loop-monitor
invariant-loop-monitor l =
    l.fn.list.items ++ map (leaf_monitor l.leaf l.node) (wanted l.target l.has_steps l.running l.monitors)
    ≡ l.list.items ++ map (leaf_monitor l.leaf l.node) (wanted l.target l.has_steps l.left (drop l.monitor-index l.monitors))
