use Rattle.std.proofs.Common.{◌∙◌, sym}
use Rattle.graph_exec.proofs.Scripted.{says_next, says_nothing}
use Rattle.graph_exec.proofs.transition.script.ScriptOutcomes.next.Goals as goal

pub returns-in_default-clause-gives : goal.returns-in_default-clause-gives
returns-in_default-clause-gives c =
    rw (← c.self.view_is) (says_nothing c.self.inside.answers.items c.self.inside.taken (rw c.as_slice.ensures.value at (sym c.answer_at.ensures ∙ c.in_default.is)))

pub returns-clause-gives : goal.returns-clause-gives
returns-clause-gives c =
    rw (← c.self.view_is)
    (says_next c.self.inside.answers.items c.self.inside.taken c.in-Some.answer (rw c.as_slice.ensures.value at (sym c.answer_at.ensures ∙ c.in-Some.is)))
