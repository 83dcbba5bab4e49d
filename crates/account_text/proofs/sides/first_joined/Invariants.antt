use Rattle.std.proofs.Common.{◌≡◌, None, take}
use Rattle.cluster_types.specs.Tables.{targets_of}
use Rattle.account_text.specs.Inner.Sides as spec
use Rattle.account_text.proofs.sides.first_joined.Given as goal

abbrev pub invariant-loop-rule : goal.invariant-loop-rule
invariant-loop-rule l = spec.first_joined (targets_of l.table) l.decision l.node (take l.rule-index l.sides) ≡ None
