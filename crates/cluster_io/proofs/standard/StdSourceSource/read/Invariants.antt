use Rattle.std.proofs.Common.{◌≡◌, ◌+◌, ◌-◌, ◌^◌, ◌≤◌, min, false}
use Rattle.std.specs.Io.KnownBytes.{Keeps}
use Rattle.cluster_io.proofs.standard.StdSourceSource.read.Given as goal

abbrev pub invariant-loop-interrupted : goal.invariant-loop-interrupted
invariant-loop-interrupted g l = record {
  tries : l.interrupted ≤ 1000;
  faults : l.self.faults ≡ l.fn.self.faults;
  going : l.self.ended ≡ false;
  kept : Keeps (g.R.Read.remaining l.fn.self.calls.reader) (g.R.Read.remaining l.self.calls.reader);
  failures : l.self.calls.failures ≡ l.fn.self.calls.failures;
  answers : l.self.calls.answers ≡ l.fn.self.calls.answers;
  interruptions : min (l.fn.self.calls.interruptions + l.interrupted) (2 ^ 64 - 1) ≤ l.self.calls.interruptions;
  few : l.self.calls.interruptions ≤ l.fn.self.calls.interruptions + l.interrupted;
}

abbrev pub decreases-loop-interrupted : goal.decreases-loop-interrupted
decreases-loop-interrupted g l = 1000 - l.interrupted
