use Rattle.std.proofs.Common.{◌≡◌, drop}
use Rattle.std.specs.List.{list_any}
use Rattle.cluster_model.specs.SuccessivePairs.{pairs_after, successive}
use Rattle.cluster_model.specs.Inner.Checks.{lacks_in_pair}
use Rattle.cluster_model.proofs.resolution.checks.some_pair_lacks.Given as goal

abbrev pub invariant-loop-step : goal.invariant-loop-step
invariant-loop-step l = list_any (lacks_in_pair l.directory) (successive l.steps)
    ≡ list_any (lacks_in_pair l.directory) (pairs_after l.before (drop l.step-index l.others))
