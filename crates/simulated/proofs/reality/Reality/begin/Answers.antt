use Rattle.simulated.proofs.Showing.{shows_begun}
use Rattle.simulated.proofs.reality.Reality.begin.Goals as goal

pub returns-clause-shows : goal.returns-clause-shows
returns-clause-shows c = λ w shows.
    let s = c.self.inside in
    rw (← c.self.view_is)
    (shows_begun s.cluster.now s.nodes.items s.cells.items s.rising s.number s.state s.faults w (rw (← c.self.view_is) at shows) c.begin.new.cells.items c.args.action
    c.begin.ensures.held)
