use Rattle.std.proofs.Common.{◌≡◌, false}
use Rattle.std.specs.List.{list_any, range_with_len}
use Rattle.score.specs.NodeSet.{has}
use Rattle.placement.proofs.totals.fitting.has_any.Given as goal

abbrev pub invariant-loop-node : goal.invariant-loop-node
invariant-loop-node l = list_any (has l.set) (range_with_len 0 l.node) ≡ false
