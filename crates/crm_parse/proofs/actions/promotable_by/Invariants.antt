use Rattle.std.proofs.Common.{◌≡◌, take}
use Rattle.crm_parse.specs.Statements.{promotable_by}
use Rattle.crm_parse.proofs.actions.promotable_by.Given as goal

abbrev pub invariant-loop-statement : goal.invariant-loop-statement
invariant-loop-statement l = l.names ≡ promotable_by (take l.statement-index l.drafts)
