use Rattle.std.proofs.Common.{◌≡◌, ◌≤◌, ◌*◌, take}
use Rattle.cluster_types.specs.Journals.{moment_of}
use Rattle.cluster_types.proofs.moment.moment_of.Given as goal

abbrev pub invariant-loop-event : goal.invariant-loop-event
invariant-loop-event l = record {
  sum : l.moment ≡ moment_of (take l.event-index l.events);
  few : l.moment ≤ l.event-index * 18446744073709551615;
}
