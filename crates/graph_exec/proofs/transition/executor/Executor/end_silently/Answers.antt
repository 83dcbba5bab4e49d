use Rattle.graph_exec.proofs.Stepping.{silent_under_way}
use Rattle.graph_exec.proofs.transition.executor.Executor.end_silently.Goals as goal

pub invariant_of-self : goal.invariant_of-self
invariant_of-self c = silent_under_way _ _ c.self.invariant _ c.end_silently.ensures

pub returns-clause-under_way : goal.returns-clause-under_way
returns-clause-under_way c = silent_under_way _ _ c.self.invariant _ c.end_silently.ensures
