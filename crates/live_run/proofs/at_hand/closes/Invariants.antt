use Rattle.std.proofs.Common.{◌≡◌, length}
use Rattle.live_run.specs.Inner.PlainLines.{is_closed_line}
use Rattle.live_run.proofs.at_hand.closes.Given as goal

abbrev pub invariant-loop-byte : goal.invariant-loop-byte
invariant-loop-byte l = is_closed_line l.fn.bytes ≡ is_closed_line l.left

abbrev pub decreases-loop-byte : goal.decreases-loop-byte
decreases-loop-byte l = length l.left
