use Rattle.edges.proofs.Filled.{Begins}
use Rattle.edges.proofs.rows.beginnings.Given as goal

abbrev pub invariant-loop-position : goal.invariant-loop-position
invariant-loop-position l = Begins l.positions l.edges l.position l.below l.begins.items
