use Rattle.std.proofs.Common.{◌≡◌, [], drop}
use Rattle.crm_parse.specs.Statements.{with_lines}
use Rattle.crm_parse.proofs.parser.with_lines.Given as goal

abbrev pub invariant-loop-line : goal.invariant-loop-line
invariant-loop-line l = with_lines [] l.lines ≡ with_lines l.drafts (drop l.line-index l.lines)
