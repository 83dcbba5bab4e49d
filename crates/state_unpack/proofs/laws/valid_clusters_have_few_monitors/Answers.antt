use Rattle.state_unpack.proofs.CellsKnown.{valid-few}
use Rattle.state_unpack.proofs.laws.valid_clusters_have_few_monitors.Goals as goal

pub returns : goal.returns
returns c = valid-few
