use Rattle.std.proofs.Common.{◌-◌, ◌≤◌, length}
use Rattle.cluster_io.specs.Inner.Scanning.{Looked}
use Rattle.cluster_io.proofs.line_scan.look.Given as goal

abbrev pub invariant-loop-feed : goal.invariant-loop-feed
invariant-loop-feed l = record {
  looked : Looked l.bounds l.held l.at;
  further : l.fn.scan.scanned ≤ l.at.scanned;
}

abbrev pub decreases-loop-feed : goal.decreases-loop-feed
decreases-loop-feed l = length l.held - l.at.scanned
