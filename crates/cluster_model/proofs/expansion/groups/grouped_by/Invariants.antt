use Rattle.std.proofs.Common.{◌≡◌, ◌++◌, drop}
use Rattle.cluster_model.specs.Inner.Groups.{grouped_by}
use Rattle.cluster_model.proofs.expansion.groups.grouped_by.Given as goal

abbrev pub invariant-loop-statement : goal.invariant-loop-statement
invariant-loop-statement l = grouped_by l.cloned l.statements ≡ l.grouped ++ grouped_by l.cloned (drop l.statement-index l.statements)
