use Rattle.std.proofs.Common.{◌≡◌, drop, map, ◌++◌}
use Rattle.cluster_model.specs.SuccessivePairs.{pairs_after, successive}
use Rattle.cluster_model.specs.Inner.Orders.{step_order}
use Rattle.cluster_model.proofs.resolution.orders.add_steps.Given as goal

abbrev pub invariant-loop-step : goal.invariant-loop-step
invariant-loop-step l = l.fn.orders ++ map (step_order l.directory l.id l.kind l.symmetrical) (successive l.steps)
    ≡ l.orders ++ map (step_order l.directory l.id l.kind l.symmetrical) (pairs_after l.before (drop l.step-index l.others))
