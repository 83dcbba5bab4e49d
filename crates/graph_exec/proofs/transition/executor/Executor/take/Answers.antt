use Rattle.graph_exec.proofs.Stepping.{taken_under_way}
use Rattle.graph_exec.proofs.transition.executor.Executor.take.Goals as goal

pub invariant_of-self : goal.invariant_of-self
invariant_of-self c = taken_under_way _ _ c.self.invariant c.args.answer c.take.result c.take.ensures.ok c.take.ensures.err

pub returns-clause-under_way : goal.returns-clause-under_way
returns-clause-under_way c = taken_under_way _ _ c.self.invariant c.args.answer c.take.result c.take.ensures.ok c.take.ensures.err
