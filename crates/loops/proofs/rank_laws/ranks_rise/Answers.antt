use Rattle.loops.proofs.RankChains.{rank_rises}
use Rattle.loops.proofs.rank_laws.ranks_rise.Goals as goal

pub returns : goal.returns
returns c = rank_rises
