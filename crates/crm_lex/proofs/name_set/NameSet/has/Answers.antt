use Rattle.std.proofs.Common.{◌∙◌}
use Rattle.crm_lex.proofs.Orders.{found}
use Rattle.crm_lex.proofs.name_set.NameSet.has.Goals as goal

pub returns : goal.returns
returns c = rw (← c.self.view_is) (c.contains.ensures ∙ found c.self.inside.names.keys c.args.name.now)
