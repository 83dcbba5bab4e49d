use Rattle.std.proofs.Common.{◌++◌, take}
use Rattle.cluster_model.specs.Inner.Faults.{HaveTheSame}
use Rattle.cluster_model.proofs.expansion.seen_names.add_all.Given as goal

abbrev pub invariant-loop-name : goal.invariant-loop-name
invariant-loop-name l = HaveTheSame l.names (l.fn.names ++ take l.name-index l.more)
