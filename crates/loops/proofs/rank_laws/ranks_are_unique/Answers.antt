use Rattle.loops.proofs.OneRanking.{one_ranking}
use Rattle.loops.proofs.rank_laws.ranks_are_unique.Goals as goal

pub returns : goal.returns
returns c = one_ranking
