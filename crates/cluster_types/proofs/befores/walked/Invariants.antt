use Rattle.std.proofs.Common.{◌≡◌, ◌≤◌, length}
use Rattle.cluster_types.specs.Inner.Walks.{AreMarked}
use Rattle.cluster_types.proofs.befores.walked.Given as goal

abbrev pub invariant-loop-lowest : goal.invariant-loop-lowest
invariant-loop-lowest l = record {
  size : length l.marks.items ≡ l.edges.positions;
  above : l.actions ≤ l.lowest;
  within : l.lowest ≤ l.edges.positions;
  marked : AreMarked l.actions l.edges.list l.position l.lowest l.marks.items;
}

abbrev pub decreases-loop-lowest : goal.decreases-loop-lowest
decreases-loop-lowest l = l.lowest
