use Rattle.std.proofs.Common.{◌≡◌, ◌≤◌, ◌-◌, false, length, replicate}
use Rattle.simulated.proofs.heard_cells.nothing_heard.Given as goal

abbrev pub invariant-loop-heard : goal.invariant-loop-heard
invariant-loop-heard l = record {
  few : length l.heard.items ≤ l.count;
  all : l.heard.items ≡ replicate (length l.heard.items) false;
}

abbrev pub decreases-loop-heard : goal.decreases-loop-heard
decreases-loop-heard l = l.count - length l.heard.items
