use Rattle.std.proofs.Common.{◌∙◌, ap, slice_get, ℕ, List}
use Rattle.graph_exec.proofs.Free.{are_startable}
use Rattle.graph_exec.proofs.transition.waiting.Waiting.next.Goals as goal

pub returns : goal.returns
returns c =
    let s = are_startable c.self.inside.graph c.self.invariant.graph c.self.inside.queue.begun.items c.self.inside.queue.succeeded.items
    c.self.inside.queue.ready c.self.inside.queue.left.items c.self.inside.queue.cleared.items c.self.invariant.clears in
    rw (← c.self.view_is) (c.first.ensures ∙ ap (λ (xs : List ℕ). slice_get xs 0) s)
