use Rattle.std.proofs.Common.{◌≡◌, filter, map}
use Rattle.std.specs.List.{range_with_len}
use Rattle.cluster_types.specs.Decisions.{greatest_of}
use Rattle.score.specs.NodeSet.{has}
use Rattle.placement.specs.Scores.{score_in}
use Rattle.placement.proofs.order.keys.greatest_among.Given as goal

abbrev pub invariant-loop-node : goal.invariant-loop-node
invariant-loop-node l = l.greatest ≡ greatest_of (map (score_in l.scores l.decision) (filter (has l.among) (range_with_len 0 l.node)))
