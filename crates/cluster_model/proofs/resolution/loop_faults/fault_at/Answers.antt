use Rattle.std.proofs.Common.{arith}
use Rattle.cluster_model.proofs.Closing.{closing_from}
use Rattle.cluster_model.proofs.resolution.loop_faults.fault_at.Goals as goal

pub loop-statement-init : goal.loop-statement-init
loop-statement-init c = record {
  same = closing_from c.args.colocation c.args.order c.args.statements.now;
  colocations = omega arith;
  orders = omega arith;
}
