use Rattle.std.proofs.Common.{◌≡◌, take}
use Rattle.cluster_model.specs.Operations.{monitors_of}
use Rattle.cluster_model.proofs.expansion.operations.monitors_of.Given as goal

abbrev pub invariant-loop-op : goal.invariant-loop-op
invariant-loop-op l = l.monitors ≡ monitors_of (take l.op-index l.ops)
