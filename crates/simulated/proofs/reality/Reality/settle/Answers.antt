use Rattle.simulated.proofs.Showing.{shows_calm}
use Rattle.simulated.proofs.reality.Reality.settle.Goals as goal

pub returns-clause-shows : goal.returns-clause-shows
returns-clause-shows c = λ w shows.
    let s = c.self.inside in
    shows_calm s.cluster.now s.nodes.items s.cells.items s.rising s.number s.state s.faults w (rw (← c.self.view_is) at shows) c.raise.new.cells.items
    c.raise.ensures.held
