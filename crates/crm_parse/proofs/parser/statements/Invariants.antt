use Rattle.std.proofs.Common.{◌≡◌, map}
use Rattle.crm_parse.specs.Statements.{statement_of}
use Rattle.crm_parse.proofs.parser.statements.Given as goal

abbrev pub invariant-loop-draft : goal.invariant-loop-draft
invariant-loop-draft l = l.statements ≡ map (statement_of l.promotable) l.yielded
