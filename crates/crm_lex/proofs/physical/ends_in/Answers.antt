use Rattle.std.proofs.Common.{arith}
use Rattle.crm_lex.proofs.Ends.{ends_in-last}
use Rattle.crm_lex.proofs.physical.ends_in.Goals as goal

pub returns-in-len1-up : goal.returns-in-len1-up
returns-in-len1-up c = ends_in-last c.args.byte c.args.bytes.now (omega (arith, c.in-len1-up.len_at_least))
