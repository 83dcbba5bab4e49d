use Rattle.std.proofs.Common.{◌∙◌}
use Rattle.simulated.proofs.Showing.{drawn_is, shows_drawn}
use Rattle.simulated.proofs.reality.Reality.draw.Goals as goal

pub returns-clause-drawn : goal.returns-clause-drawn
returns-clause-drawn c = λ w shows.
    let s = c.self.inside in
    rw (← c.self.view_is)
    (c.taken_of.ensures.value
    ∙ drawn_is s.cluster.now s.nodes.items s.cells.items s.rising s.number s.state s.faults w (rw (← c.self.view_is) at shows) _ c.args.bound c.next_state-self-inside.ensures)

pub returns-clause-shows : goal.returns-clause-shows
returns-clause-shows c = λ w shows.
    let s = c.self.inside in
    shows_drawn s.cluster.now s.nodes.items s.cells.items s.rising s.number s.state s.faults w (rw (← c.self.view_is) at shows) _ c.next_state-self-inside.ensures
