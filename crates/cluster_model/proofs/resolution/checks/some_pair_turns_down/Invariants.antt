use Rattle.std.proofs.Common.{◌≡◌, drop}
use Rattle.std.specs.List.{list_any}
use Rattle.cluster_model.specs.SuccessivePairs.{pairs_after, successive}
use Rattle.cluster_model.specs.Checks.{turns_down}
use Rattle.cluster_model.proofs.resolution.checks.some_pair_turns_down.Given as goal

abbrev pub invariant-loop-step : goal.invariant-loop-step
invariant-loop-step l = list_any turns_down (successive l.steps) ≡ list_any turns_down (pairs_after l.before (drop l.step-index l.others))
