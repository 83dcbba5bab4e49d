use Rattle.std.proofs.Common.{◌≡◌, ◌≤◌, ◌-◌, length, replicate}
use Rattle.state_unpack.specs.Inner.Facts.{no_facts}
use Rattle.state_unpack.proofs.telling.nothing_told.Given as goal

abbrev pub invariant-loop-cells : goal.invariant-loop-cells
invariant-loop-cells l = record {
  few : length l.cells.items ≤ l.count;
  all : l.cells.items ≡ replicate (length l.cells.items) no_facts;
}

abbrev pub decreases-loop-cells : goal.decreases-loop-cells
decreases-loop-cells l = l.count - length l.cells.items
