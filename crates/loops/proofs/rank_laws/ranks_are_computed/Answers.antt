use Rattle.loops.proofs.RankChains.{rank_computed}
use Rattle.loops.proofs.rank_laws.ranks_are_computed.Goals as goal

pub returns : goal.returns
returns c = rank_computed
