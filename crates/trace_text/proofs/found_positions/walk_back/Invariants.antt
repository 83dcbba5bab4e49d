use Rattle.std.proofs.Common.{◌≡◌, ◌-◌, length}
use Rattle.trace_text.specs.Inner.Walk.{GoesBack}
use Rattle.trace_text.proofs.found_positions.walk_back.Given as goal

abbrev pub invariant-loop-gate : goal.invariant-loop-gate
invariant-loop-gate l = record {
  size : length l.found ≡ l.graph.edges.positions;
  back : GoesBack l.actions l.graph.edges.list (l.number - 1) l.behind l.found;
}

abbrev pub decreases-loop-gate : goal.decreases-loop-gate
decreases-loop-gate l = l.graph.edges.positions - l.behind
