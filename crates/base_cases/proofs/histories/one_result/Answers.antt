use Rattle.std.proofs.Common.{arith, length}
use Rattle.crm_lex.proofs.PhysicalLines.{few_lines}
use Rattle.base_cases.proofs.histories.one_result.Goals as goal

pub lex_one-requires : goal.lex_one-requires
lex_one-requires g c = let few = few_lines c.as_bytes.result.now in omega arith
