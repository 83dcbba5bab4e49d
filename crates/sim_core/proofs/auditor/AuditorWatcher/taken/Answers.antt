use Rattle.std.proofs.Common.{refl}
use Rattle.cluster_types.specs.declared.run.RunLine.TheVariants as line
use Rattle.cluster_types.specs.AnswersThatApply.{added_by}
use Rattle.sim_core.proofs.Shows.{shows_event}
use Rattle.sim_core.proofs.auditor.AuditorWatcher.taken.Goals as goal

pub returns-clause-shown : goal.returns-clause-shown
returns-clause-shown c v flight taken seen applies lines was =
    shows_event c.args.self.now c.hear.new.self (line.Taken c.args.answer) refl (added_by v.cluster v.events flight c.args.answer) lines c.hear.result
    c.hear.ensures.passes c.hear.ensures.stops v was
