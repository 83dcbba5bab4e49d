use Rattle.score.specs.Inner.Choice.{SaysEnough}
use Rattle.score.proofs.candidate_set.word_from.Given as goal

abbrev pub invariant-loop-node : goal.invariant-loop-node
invariant-loop-node l = SaysEnough l.totals l.first l.node l.word
