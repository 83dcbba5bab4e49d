use Rattle.std.proofs.Common.{◌≡◌, ◌≤◌, ◌<◌, ◌+◌, ◌-◌}
use Rattle.listed.specs.Counting.{width}
use Rattle.listed.proofs.set.shape.Given as goal

abbrev pub invariant-loop-leaves : goal.invariant-loop-leaves
invariant-loop-leaves l = record {
  width : l.leaves ≡ width l.height;
  low : l.height < l.leaves;
  small : l.leaves ≤ 4294967296 + 4294967296;
}

abbrev pub decreases-loop-leaves : goal.decreases-loop-leaves
decreases-loop-leaves l = l.most - l.leaves
