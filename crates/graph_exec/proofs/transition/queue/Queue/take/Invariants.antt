use Rattle.std.proofs.Common.{◌≡◌, ◌+◌, drop, vec_capacity}
use Rattle.graph_exec.specs.Inner.ClearedPositions.{ClearsGates}
use Rattle.graph_exec.proofs.transition.queue.Queue.take.Given as goal

abbrev pub invariant-loop-target : goal.invariant-loop-target
invariant-loop-target l = record {
  clears : ClearsGates l.graph l.self.begun.items l.self.succeeded.items l.self.ready (l.taken + 1) (drop l.target-index l.target-items) l.self.left.items l.self.cleared.items;
  begun : l.self.begun ≡ l.fn.self.begun;
  succeeded : l.self.succeeded ≡ l.fn.self.succeeded;
  room : vec_capacity l.self.cleared ≡ vec_capacity l.fn.self.cleared;
}
