use Rattle.std.proofs.Common.{◌≡◌, drop}
use Rattle.cluster_model.specs.Inner.Faults.{first_expand_fault}
use Rattle.cluster_model.proofs.expansion.leaf_checks.first_fault.Given as goal

abbrev pub invariant-loop-statement : goal.invariant-loop-statement
invariant-loop-statement l =
    first_expand_fault l.kinds l.fn.seen l.statements ≡ first_expand_fault l.kinds l.seen (drop l.statement-index l.statements)
