use Rattle.std.proofs.Common.{◌≡◌, ◌-◌, [], vec_capacity}
use Rattle.graph_exec.specs.Inner.ClearedPositions.{ClearsGates}
use Rattle.graph_exec.proofs.transition.queue.Queue.drain.Given as goal

abbrev pub invariant-loop-taken : goal.invariant-loop-taken
invariant-loop-taken l = record {
  clears : ClearsGates l.graph l.self.begun.items l.self.succeeded.items l.self.ready l.taken [] l.self.left.items l.self.cleared.items;
  begun : l.self.begun ≡ l.fn.self.begun;
  succeeded : l.self.succeeded ≡ l.fn.self.succeeded;
  room : vec_capacity l.self.cleared ≡ vec_capacity l.fn.self.cleared;
}

abbrev pub decreases-loop-taken : goal.decreases-loop-taken
decreases-loop-taken l = l.graph.edges.positions - l.taken
