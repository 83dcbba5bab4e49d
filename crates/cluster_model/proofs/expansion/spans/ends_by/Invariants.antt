use Rattle.std.proofs.Common.{◌≡◌, ◌++◌, drop}
use Rattle.cluster_model.specs.Inner.Spans.{ends_by}
use Rattle.cluster_model.proofs.expansion.spans.ends_by.Given as goal

abbrev pub invariant-loop-statement : goal.invariant-loop-statement
invariant-loop-statement l = ends_by l.numbers l.statements ≡ l.groups ++ ends_by l.numbers (drop l.statement-index l.statements)
