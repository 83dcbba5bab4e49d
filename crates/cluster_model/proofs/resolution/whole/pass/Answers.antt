use Rattle.std.proofs.Common.{sym, ap, ◌∙◌}
use Rattle.std.specs.Prelude.{Option}
use Rattle.std.specs.Option.{option_or}
use Rattle.faults.specs.Reading.{unless}
use Rattle.faults.specs.declared.fault.Fault.{Fault}
use Rattle.cluster_model.specs.declared.resolution.fault.ModelCause.{ModelCause}
use Rattle.cluster_model.proofs.Sound.{is-answer}
use Rattle.cluster_model.proofs.resolution.whole.pass.Goals as goal

pub returns-in-Some : goal.returns-in-Some
returns-in-Some c = λ d leaves same.
    is-answer c.in-Some.fault _
    (ap (λ (loop : Option (Fault ModelCause)). unless (option_or loop c.args.other) tt) (sym (c.in_ok-loop_fault.ensures d leaves same))
    ∙ ap (λ (found : Option (Fault ModelCause)). unless found tt) (sym c.or.ensures ∙ c.in-Some.is))

pub returns-in-None : goal.returns-in-None
returns-in-None c = λ d leaves same.
    ap (λ (loop : Option (Fault ModelCause)). unless (option_or loop c.args.other) tt) (sym (c.in_ok-loop_fault.ensures d leaves same))
    ∙ ap (λ (found : Option (Fault ModelCause)). unless found tt) (sym c.or.ensures ∙ c.in-None.is)
