use Rattle.std.proofs.Common.{◌∙◌}
use Rattle.sim_core.proofs.Audited.{answers_said, cut_found, other_found, whole_found}
use Rattle.sim_core.proofs.auditing.audit.Goals as goal

pub returns-in-Ok : goal.returns-in-Ok
returns-in-Ok c =
    whole_found c.args.cluster.now c.args.journal c.args.run.now.lines c.args.after c.over-auditor.result c.replay_watched.new.watcher c.over-auditor.ensures.place
    (c.over-auditor.ensures.lines ∙ c.as_slice-lines.ensures) _ _ _ c.new-script.result.left
    (answers_said _ _ _ _ c.new-script.ensures c.in_ok-answers.ensures.answers c.as_slice-lines.ensures) _ _ c.in-Ok.journal _ c.over_then.result c.in-Ok.ensures.run
    c.over_then.ensures.all c.over_then.ensures.more

pub returns-in-Err-Unexpected : goal.returns-in-Err-Unexpected
returns-in-Err-Unexpected c =
    cut_found c.args.cluster.now c.args.journal c.args.run.now.lines c.args.after c.over-auditor.result c.replay_watched.new.watcher c.over-auditor.ensures.place
    (c.over-auditor.ensures.lines ∙ c.as_slice-lines.ensures) _ _ _ c.new-script.result.left
    (answers_said _ _ _ _ c.new-script.ensures c.in_ok-answers.ensures.answers c.as_slice-lines.ensures) _ _ c.in-Err-Unexpected.journal _ c.undue.result
    c.in-Err-Unexpected.field-0-1 (rw c.in-Err-Unexpected.field-0-is at c.in-Err-Unexpected.ensures.run) c.undue.ensures

pub returns-in-Err-Stopped : goal.returns-in-Err-Stopped
returns-in-Err-Stopped c =
    other_found c.args.cluster.now c.args.journal c.args.run.now.lines c.args.after c.over-auditor.result c.replay_watched.new.watcher c.over-auditor.ensures.place
    (c.over-auditor.ensures.lines ∙ c.as_slice-lines.ensures) _ _ _ c.new-script.result.left
    (answers_said _ _ _ _ c.new-script.ensures c.in_ok-answers.ensures.answers c.as_slice-lines.ensures) _ _ c.in-Err-Stopped.journal _ c.other_due.result
    (rw c.in-Err-Stopped.field-0-is at c.in-Err-Stopped.ensures.run) c.other_due.ensures
