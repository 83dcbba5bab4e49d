use Rattle.std.proofs.Common.{◌≡◌, ◌<◌, ℕ, true}
use Rattle.score.specs.NodeSet.{has}
use Rattle.score.proofs.node_set.NodeSet.of.Given as goal

abbrev pub invariant-loop-node : goal.invariant-loop-node
invariant-loop-node g l = record {
  passed : (n : ℕ) → n < l.node → goal.F-post g l.passes n (has l.set n);
  there : (n : ℕ) → has l.set n ≡ true → n < l.node;
}
