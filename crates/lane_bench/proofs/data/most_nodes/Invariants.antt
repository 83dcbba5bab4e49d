use Rattle.std.proofs.Common.{◌≡◌, ℕ, ◌<◌, true}
use Rattle.score.specs.NodeSet.{has}
use Rattle.lane_bench.proofs.data.most_nodes.Given as goal

abbrev pub invariant-loop-node : goal.invariant-loop-node
invariant-loop-node l = (n : ℕ) → has l.set n ≡ true → n < 256
