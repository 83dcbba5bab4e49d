use Rattle.loops.proofs.OneRanking.{rank_ranks}
use Rattle.loops.proofs.rank_laws.ranks_are_one_above.Goals as goal

pub returns : goal.returns
returns c = rank_ranks
