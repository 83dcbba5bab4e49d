use Rattle.std.proofs.Common.{◌-◌, length}
use Rattle.cluster_types.specs.Steps.{numbers_in_flight}
use Rattle.graph_exec.specs.Executors.{transition_in}
use Rattle.graph_exec.proofs.Losses.{Losing}
use Rattle.graph_exec.proofs.transition.course.Course.end_all_on.Given as goal

abbrev pub invariant-loop-place : goal.invariant-loop-place
invariant-loop-place l = Losing l.fn.self l.self l.node l.place

abbrev pub decreases-loop-place : goal.decreases-loop-place
decreases-loop-place l = length (numbers_in_flight (transition_in l.self) l.self.since) - l.place
