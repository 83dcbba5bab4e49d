use Rattle.std.proofs.Common.{◌≡◌, ◌≤◌, length}
use Rattle.graph_exec.specs.WatcherLines.{plan_lines}
use Rattle.sim_core.specs.Inner.Auditors.{audited_cluster}
use Rattle.sim_core.proofs.Told.{HearsOn}
use Rattle.sim_core.proofs.auditor.Auditor.hear_plan.Given as goal

abbrev pub invariant-loop-line : goal.invariant-loop-line
invariant-loop-line l = record {
  hears : HearsOn l.fn.self l.self (plan_lines (audited_cluster l.fn.self) l.transition l.placed) l.lines;
  cluster : audited_cluster l.self ≡ audited_cluster l.fn.self;
  count : l.fn.self.stops ≤ l.self.stops;
}

abbrev pub decreases-loop-line : goal.decreases-loop-line
decreases-loop-line l = length l.lines
