use Rattle.placement.proofs.TableOfStates.{total-is}
use Rattle.placement.proofs.totals.laws.scores_are_bases.Goals as goal

pub returns : goal.returns
returns c = total-is
