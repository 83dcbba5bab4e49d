use Rattle.std.proofs.lemmas.Result.{IfOk-weaker}
use Rattle.cluster_types.specs.Tables.{targets_of}
use Rattle.planner.proofs.needed_actions.building.actions.Goals as goal

pub returns : goal.returns
returns c =
    IfOk-weaker c.actions_of.result _ _
    (λ list are. λ events promotions told allowed pins.
    are events promotions (targets_of c.args.placed.now.table) told allowed (c.in_ok-work.ensures events promotions told allowed pins)) c.actions_of.ensures
