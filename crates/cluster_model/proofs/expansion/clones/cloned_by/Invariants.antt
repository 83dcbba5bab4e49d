use Rattle.std.proofs.Common.{◌≡◌, ◌++◌, drop}
use Rattle.cluster_model.specs.Inner.Clones.{cloned_by}
use Rattle.cluster_model.proofs.expansion.clones.cloned_by.Given as goal

abbrev pub invariant-loop-statement : goal.invariant-loop-statement
invariant-loop-statement l = cloned_by l.nodes l.statements ≡ l.cloned ++ cloned_by l.nodes (drop l.statement-index l.statements)
