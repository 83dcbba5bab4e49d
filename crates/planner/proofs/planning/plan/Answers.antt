use Rattle.std.proofs.lemmas.Result.{IfOk-weaker}
use Rattle.planner.proofs.planning.plan.Goals as goal

pub returns : goal.returns
returns c = IfOk-weaker c.plan_of.result _ _ (λ plan is. is c.args.journal.now.events c.args.journal.now.promotions c.in_ok-states.ensures) c.plan_of.ensures
