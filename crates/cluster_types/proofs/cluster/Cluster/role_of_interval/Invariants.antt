use Rattle.std.proofs.Common.{◌≡◌, drop}
use Rattle.cluster_types.specs.AnswersThatApply.{role_of_interval}
use Rattle.cluster_types.proofs.cluster.Cluster.role_of_interval.Given as goal

abbrev pub invariant-loop-monitor : goal.invariant-loop-monitor
invariant-loop-monitor l = role_of_interval l.monitors l.interval_ms ≡ role_of_interval (drop l.monitor-index l.monitors) l.interval_ms
