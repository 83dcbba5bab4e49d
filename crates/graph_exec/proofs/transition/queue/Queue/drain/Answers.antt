use Rattle.std.proofs.Common.{arith, length, ◌≤◌, []}
use Rattle.graph_exec.proofs.QueueSteps.{few_cleared}
use Rattle.graph_exec.proofs.transition.queue.Queue.drain.Goals as goal

pub loop-taken-smaller : goal.loop-taken-smaller
loop-taken-smaller c =
    let f : length c.loop-taken.self.cleared.items ≤ c.args.graph.now.edges.positions
    = few_cleared c.args.graph.now c.loop-taken.self.begun.items c.loop-taken.self.succeeded.items c.loop-taken.self.ready c.loop-taken.taken []
    c.loop-taken.self.left.items c.loop-taken.self.cleared.items c.loop-taken.invariant.clears in
    omega arith
