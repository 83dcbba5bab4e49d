use Rattle.std.proofs.Common.{◌-◌, []}
use Rattle.edges.specs.Inner.Clearing.{Clears}
use Rattle.edges.proofs.clearing.backward_order.Given as goal

abbrev pub invariant-loop-taken : goal.invariant-loop-taken
invariant-loop-taken l = Clears l.positions l.edges l.taken [] l.clearing.waiting.items l.clearing.cleared.items

abbrev pub decreases-loop-taken : goal.decreases-loop-taken
decreases-loop-taken l = l.positions - l.taken
