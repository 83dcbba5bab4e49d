use Rattle.std.proofs.Common.{◌≡◌, ◌+◌, cond, false, Contains}
use Rattle.edges.specs.declared.edge.Edge.{Edge}
use Rattle.placement.specs.Inner.Ties.{AreTied, is_missed, unmarked}
use Rattle.placement.proofs.totals.ties.tied.Given as goal

abbrev pub invariant-loop-changed : goal.invariant-loop-changed
invariant-loop-changed l = record {
  known : AreTied l.cluster l.leaf l.marks.items;
  none : l.changed ≡ false → (tie : Edge) → Contains l.ties tie → is_missed l.leaf l.marks.items tie ≡ false;
}

abbrev pub decreases-loop-changed : goal.decreases-loop-changed
decreases-loop-changed l = unmarked l.marks.items + cond l.changed 1 0
