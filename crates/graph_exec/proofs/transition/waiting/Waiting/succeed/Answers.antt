use Rattle.std.proofs.Common.{arith, vec_capacity, ◌≡◌, length}
use Rattle.graph_exec.proofs.Moves.{success_clears, success_room}
use Rattle.graph_exec.proofs.transition.waiting.Waiting.succeed.Goals as goal

pub succeed-requires-clause-room : goal.succeed-requires-clause-room
succeed-requires-clause-room c =
    let room = success_room c.self.inside.graph c.self.inside.rows c.self.inside.queue.begun.items c.self.inside.queue.succeeded.items
    c.self.inside.queue.ready c.self.inside.queue.left.items c.self.inside.queue.cleared.items (vec_capacity c.self.inside.queue.cleared) c.self.invariant
    c.args.number c.requires.from_one (rw (← c.self.view_is) at c.requires.to_count) (rw (← c.self.view_is) at c.requires.begun)
    (rw (← c.self.view_is) at c.requires.not_yet) in
    omega arith

pub drain-requires-clause-clears : goal.drain-requires-clause-clears
drain-requires-clause-clears c =
    let clears = success_clears c.self.inside.graph c.self.inside.rows c.self.inside.queue.begun.items c.self.inside.queue.succeeded.items
    c.self.inside.queue.ready c.self.inside.queue.left.items c.self.inside.queue.cleared.items (vec_capacity c.self.inside.queue.cleared) c.self.invariant
    c.args.number c.requires.from_one (rw (← c.self.view_is) at c.requires.to_count) (rw (← c.self.view_is) at c.requires.begun)
    (rw (← c.self.view_is) at c.requires.not_yet) in
    let from : c.len-from.result ≡ length c.self.inside.queue.cleared.items = omega arith in
    rw (from, c.succeed.ensures.begun, c.succeed.ensures.succeeded, c.succeed.ensures.ready, c.succeed.ensures.left, c.succeed.ensures.cleared) clears
