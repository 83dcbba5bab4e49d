use Rattle.std.proofs.Common.{arith}
use Rattle.crm_lex.proofs.Joints.{joint-some}
use Rattle.crm_lex.proofs.logical.joint.Goals as goal

pub returns-else-is_empty-clause-joint : goal.returns-else-is_empty-clause-joint
returns-else-is_empty-clause-joint c = joint-some c.args.rest.now (grind (arith, c.if-is_empty.ensures))
