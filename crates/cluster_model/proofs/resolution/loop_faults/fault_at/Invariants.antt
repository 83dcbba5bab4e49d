use Rattle.std.proofs.Common.{◌≡◌, ◌≤◌, ◌*◌, [], drop}
use Rattle.cluster_model.specs.FirstFaults.{first_fault}
use Rattle.cluster_model.specs.Inner.Search.{closing_cause}
use Rattle.cluster_model.proofs.Closing.{fault_from}
use Rattle.cluster_model.proofs.resolution.loop_faults.fault_at.Given as goal

abbrev pub invariant-loop-statement : goal.invariant-loop-statement
invariant-loop-statement l = record {
  same : first_fault (closing_cause l.colocation l.order) [] l.statements
      ≡ fault_from l.colocation l.order l.colocations l.orders (drop l.statement-index l.statements);
  colocations : l.colocations ≤ l.statement-index * 18446744073709551615;
  orders : l.orders ≤ l.statement-index * 18446744073709551615;
}
