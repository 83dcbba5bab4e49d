use Rattle.std.proofs.Common.{◌∙◌}
use Rattle.crm_parse.proofs.promotable.Promotable.has.Goals as goal

pub returns : goal.returns
returns c = rw (← c.self.view_is) (c.has.ensures ∙ c.self.invariant c.args.name.now)
