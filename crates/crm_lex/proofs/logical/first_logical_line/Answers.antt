use Rattle.crm_lex.proofs.PhysicalLines.{few_lines}
use Rattle.crm_lex.proofs.logical.first_logical_line.Goals as goal

pub returns-clause-few : goal.returns-clause-few
returns-clause-few c = few_lines _
