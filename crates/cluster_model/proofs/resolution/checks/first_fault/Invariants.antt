use Rattle.std.proofs.Common.{◌≡◌, ◌≤◌, ◌*◌, ◌^◌, [], drop}
use Rattle.cluster_model.specs.FirstFaults.{first_fault}
use Rattle.cluster_model.specs.Inner.Resolution.{own_cause}
use Rattle.cluster_model.specs.Inner.Search.{sound_count}
use Rattle.cluster_model.proofs.Passes.{fault_after}
use Rattle.cluster_model.proofs.resolution.checks.first_fault.Given as goal

abbrev pub invariant-loop-statement : goal.invariant-loop-statement
invariant-loop-statement l = record {
  fault : first_fault (own_cause l.directory) [] l.statements ≡ (fault_after l.directory l.sound l.counts (drop l.statement-index l.statements)).fault;
  sound : sound_count (own_cause l.directory) [] l.statements ≡ (fault_after l.directory l.sound l.counts (drop l.statement-index l.statements)).sound;
  so_many : l.sound ≡ l.statement-index;
  nodes : l.counts.nodes ≤ l.statement-index;
  leaves : l.counts.leaves ≤ l.statement-index;
  rules : l.counts.rules ≤ l.statement-index * 2 ^ 66;
}
