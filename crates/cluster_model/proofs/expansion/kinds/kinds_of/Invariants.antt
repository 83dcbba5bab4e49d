use Rattle.std.proofs.Common.{◌≡◌, ◌++◌, drop}
use Rattle.cluster_model.specs.Inner.Faults.{kinds_of}
use Rattle.cluster_model.proofs.expansion.kinds.kinds_of.Given as goal

abbrev pub invariant-loop-statement : goal.invariant-loop-statement
invariant-loop-statement l = kinds_of l.statements ≡ l.kinds ++ kinds_of (drop l.statement-index l.statements)
