use Rattle.std.proofs.Common.{◌∙◌}
use Rattle.loops.proofs.placing.is_migrating.Goals as goal

pub returns : goal.returns
returns c = λ actions are. c.flag_at.ensures ∙ are c.args.leaf
