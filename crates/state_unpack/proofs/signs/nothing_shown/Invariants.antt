use Rattle.std.proofs.Common.{◌≡◌, ◌≤◌, ◌-◌, None, length, replicate}
use Rattle.state_unpack.proofs.signs.nothing_shown.Given as goal

abbrev pub invariant-loop-signs : goal.invariant-loop-signs
invariant-loop-signs l = record {
  few : length l.signs.items ≤ l.nodes;
  all : l.signs.items ≡ replicate (length l.signs.items) None;
}

abbrev pub decreases-loop-signs : goal.decreases-loop-signs
decreases-loop-signs l = l.nodes - length l.signs.items
