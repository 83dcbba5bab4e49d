use Rattle.std.proofs.Common.{arith, vec_capacity}
use Rattle.graph_exec.proofs.Moves.{startable_found, begun_rests, sizes}
use Rattle.graph_exec.proofs.transition.waiting.Waiting.begin.Goals as goal

pub begin-requires-clause-from_one : goal.begin-requires-clause-from_one
begin-requires-clause-from_one c =
    let m = startable_found c.self.inside.graph c.self.inside.rows c.self.inside.queue.begun.items c.self.inside.queue.succeeded.items
    c.self.inside.queue.ready c.self.inside.queue.left.items c.self.inside.queue.cleared.items (vec_capacity c.self.inside.queue.cleared) c.self.invariant
    c.args.number (rw (← c.self.view_is) at c.requires) in
    m.low

pub begin-requires-clause-to_count : goal.begin-requires-clause-to_count
begin-requires-clause-to_count c =
    let m = startable_found c.self.inside.graph c.self.inside.rows c.self.inside.queue.begun.items c.self.inside.queue.succeeded.items
    c.self.inside.queue.ready c.self.inside.queue.left.items c.self.inside.queue.cleared.items (vec_capacity c.self.inside.queue.cleared) c.self.invariant
    c.args.number (rw (← c.self.view_is) at c.requires) in
    let s = sizes c.self.inside.graph c.self.inside.rows c.self.inside.queue.begun.items c.self.inside.queue.succeeded.items
    c.self.inside.queue.ready c.self.inside.queue.left.items c.self.inside.queue.cleared.items (vec_capacity c.self.inside.queue.cleared) c.self.invariant in
    let h = m.high in
    omega arith

pub invariant_of-self : goal.invariant_of-self
invariant_of-self c =
    let m = startable_found c.self.inside.graph c.self.inside.rows c.self.inside.queue.begun.items c.self.inside.queue.succeeded.items
    c.self.inside.queue.ready c.self.inside.queue.left.items c.self.inside.queue.cleared.items (vec_capacity c.self.inside.queue.cleared) c.self.invariant
    c.args.number (rw (← c.self.view_is) at c.requires) in
    let r = begun_rests c.self.inside.graph c.self.inside.rows c.self.inside.queue.begun.items c.self.inside.queue.succeeded.items
    c.self.inside.queue.ready c.self.inside.queue.left.items c.self.inside.queue.cleared.items (vec_capacity c.self.inside.queue.cleared) c.self.invariant
    c.args.number m in
    rw (c.begin.ensures.begun, c.begin.ensures.ready, c.begin.ensures.left, c.begin.ensures.cleared, c.begin.ensures.succeeded) r
