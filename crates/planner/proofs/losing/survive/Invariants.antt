use Rattle.planner.specs.Losses.{AreLosses}
use Rattle.planner.specs.Inner.OnlineBefore.{online_before}
use Rattle.planner.proofs.losing.survive.Given as goal

abbrev pub invariant-loop-node : goal.invariant-loop-node
invariant-loop-node l = AreLosses l.cluster l.journal.events l.journal.promotions (online_before l.cluster l.journal.events l.node) l.losses.items
