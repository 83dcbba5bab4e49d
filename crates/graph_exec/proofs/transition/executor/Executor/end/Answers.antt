use Rattle.std.proofs.Common.{sym, ◌∙◌}
use Rattle.graph_exec.proofs.NeverStuck.{completes}
use Rattle.graph_exec.proofs.transition.executor.Executor.end.Goals as goal

pub returns-in-None-clause-ends : goal.returns-in-None-clause-ends
returns-in-None-clause-ends c =
    let none = sym c.abort.ensures ∙ c.in-None.is in
    rw (← c.self.view_is) (completes c.self.inside.course c.self.invariant (rw (← c.self.view_is) at c.requires) none)
