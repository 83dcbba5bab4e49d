use Rattle.std.proofs.Common.{◌≡◌, ◌≤◌, ◌+◌, cond, false, take, Contains}
use Rattle.cluster_types.specs.declared.cluster.Cluster.{Cluster}
use Rattle.edges.specs.declared.edge.Edge.{Edge}
use Rattle.placement.specs.Ties.{AreTies}
use Rattle.placement.specs.Inner.Ties.{AreTied, is_missed, unmarked}
use Rattle.placement.proofs.totals.ties.pass.Given as goal

abbrev pub invariant-loop-tie : goal.invariant-loop-tie
invariant-loop-tie l = record {
  tied : (c : Cluster) → AreTies c l.ties → AreTied c l.leaf l.fn.marks.items → AreTied c l.leaf l.marks.items;
  fewer : unmarked l.marks.items + cond l.changed 1 0 ≤ unmarked l.fn.marks.items;
  same : l.changed ≡ false → l.marks.items ≡ l.fn.marks.items;
  none : l.changed ≡ false → (tie : Edge) → Contains (take l.tie-index l.ties) tie → is_missed l.leaf l.fn.marks.items tie ≡ false;
}
