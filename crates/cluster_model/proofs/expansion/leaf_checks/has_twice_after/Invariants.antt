use Rattle.std.proofs.Common.{◌≡◌, ◌++◌, drop}
use Rattle.cluster_model.specs.Faults.{has_twice}
use Rattle.cluster_model.proofs.expansion.leaf_checks.has_twice_after.Given as goal

abbrev pub invariant-loop-part : goal.invariant-loop-part
invariant-loop-part l = has_twice (l.names ++ l.fn.before) l.parts ≡ has_twice (l.names ++ l.before) (drop l.part-index l.parts)
