use Rattle.graph_exec.proofs.Promised.{promised}
use Rattle.graph_exec.proofs.transition.executor.Executor.flight.Goals as goal

pub returns-clause-promises : goal.returns-clause-promises
returns-clause-promises c = rw (← c.self.view_is) (promised c.self.inside.course c.self.invariant)
