use Rattle.std.proofs.Common.{◌≡◌, ℕ, ◌*◌, ◌==◌, ◌&&◌, nat_lt, false, length}
use Rattle.simulated.specs.Inner.Firsts.{IsSaidOf}
use Rattle.simulated.proofs.heard_cells.forget_node.Given as goal

abbrev pub invariant-loop-leaf : goal.invariant-loop-leaf
invariant-loop-leaf l = record {
  full : length l.heard.items ≡ length l.cluster.leaves * length l.cluster.nodes;
  said : IsSaidOf l.cluster (λ (r n : ℕ). nat_lt r l.leaf && l.node == n) false l.fn.heard.items l.heard.items;
}
