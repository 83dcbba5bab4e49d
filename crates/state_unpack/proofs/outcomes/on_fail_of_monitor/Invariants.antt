use Rattle.std.proofs.Common.{◌≡◌, drop}
use Rattle.cluster_types.specs.Outcomes.{on_fail_of_monitor}
use Rattle.state_unpack.proofs.outcomes.on_fail_of_monitor.Given as goal

abbrev pub invariant-loop-monitor : goal.invariant-loop-monitor
invariant-loop-monitor l = on_fail_of_monitor l.monitors l.interval_ms ≡ on_fail_of_monitor (drop l.monitor-index l.monitors) l.interval_ms
