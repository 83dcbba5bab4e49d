use Rattle.std.proofs.Common.{◌≡◌, take}
use Rattle.cluster_model.specs.Inner.Spans.{spans_in}
use Rattle.cluster_model.proofs.expansion.spans.spans_in.Given as goal

abbrev pub invariant-loop-statement : goal.invariant-loop-statement
invariant-loop-statement l = l.spans ≡ spans_in l.numbers l.groups (take l.statement-index l.statements)
