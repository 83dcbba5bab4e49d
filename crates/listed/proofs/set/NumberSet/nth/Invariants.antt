use Rattle.std.proofs.Common.{◌-◌}
use Rattle.listed.proofs.PlacesOfTrees.{Looks}
use Rattle.listed.proofs.set.NumberSet.nth.Given as goal

abbrev pub invariant-loop : goal.invariant-loop
invariant-loop l = Looks l.self-inside.flags.items l.self-inside.leaves (l.self-inside.height - l.counter) l.node l.left l.place
