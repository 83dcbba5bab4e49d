use Rattle.std.proofs.Common.{◌∙◌}
use Rattle.cluster_model.proofs.TableRows.{found}
use Rattle.cluster_model.proofs.name_table.place_of.Goals as goal

pub returns : goal.returns
returns c = c.copied.ensures ∙ c.get.ensures.value ∙ found c.args.name.now c.args.places.now.entries
