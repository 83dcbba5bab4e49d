use Rattle.placement.proofs.Picking.{Picked}
use Rattle.placement.proofs.choice.choosing.choose.Given as goal

abbrev pub invariant-loop-turn : goal.invariant-loop-turn
invariant-loop-turn l = Picked l.totals l.loads l.fn.among l._turn l.chosen l.left
