use Rattle.cluster_types.specs.Steps.{here}
use Rattle.graph_exec.proofs.transition.executor.Executor.on.Goals as goal

pub invariant_of-result : goal.invariant_of-result
invariant_of-result c = rw c.in_ok-course.ensures.ok (record { graph = c.edges-edges.ensures.graph; steps = here _ _ })
