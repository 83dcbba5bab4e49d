use Rattle.std.proofs.Common.{◌∙◌, sym}
use Rattle.graph_exec.proofs.Pairs.{pairs_many}
use Rattle.graph_exec.proofs.transition.flight.InFlight.count.Goals as goal

pub returns : goal.returns
returns c = rw (← c.self.view_is) (c.count.ensures ∙ sym (pairs_many _ c.self.invariant))
