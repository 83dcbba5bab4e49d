use Rattle.graph_exec.proofs.Stepping.{begun_under_way}
use Rattle.graph_exec.proofs.transition.executor.Executor.begin_next.Goals as goal

pub invariant_of-self : goal.invariant_of-self
invariant_of-self c = begun_under_way _ _ c.self.invariant c.begin_next.result c.begin_next.ensures.begins c.begin_next.ensures.settled

pub returns-clause-under_way : goal.returns-clause-under_way
returns-clause-under_way c = begun_under_way _ _ c.self.invariant c.begin_next.result c.begin_next.ensures.begins c.begin_next.ensures.settled
