use Rattle.std.proofs.Common.{◌≡◌, false, take}
use Rattle.cluster_io.specs.NextLine.{has_feed}
use Rattle.cluster_io.proofs.line_scan.first_feed.Given as goal

abbrev pub invariant-loop-i : goal.invariant-loop-i
invariant-loop-i l = has_feed (take l.i l.bytes) ≡ false
