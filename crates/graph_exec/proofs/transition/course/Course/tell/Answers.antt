use Rattle.graph_exec.proofs.Outside.{tell_adds, tell_room}
use Rattle.graph_exec.proofs.OneMore.{follows_more}
use Rattle.graph_exec.proofs.transition.course.Course.tell.Goals as goal

pub add-requires-clause-room : goal.add-requires-clause-room
add-requires-clause-room c = tell_room _ _ c.self.invariant c.args.event c.requires.outer (rw (← c.self.view_is) at c.requires.few)

pub add-requires-clause-moment : goal.add-requires-clause-moment
add-requires-clause-moment c = rw (← c.self.view_is) at c.requires.moment

pub invariant_of-self : goal.invariant_of-self
invariant_of-self c =
    let adds = tell_adds _ _ c.self.invariant c.args.event c.requires.outer (rw (← c.self.view_is) at c.requires.few) in
    rw c.add.ensures (follows_more _ _ _ _ c.self.invariant adds)
