use Rattle.std.proofs.Common.{◌+◌, length, refl, ap}
use Rattle.simulated.specs.Turns.{after_joining}
use Rattle.simulated.proofs.Showing.{joined_alone, shows_changed}
use Rattle.simulated.proofs.reality.Reality.join.Goals as goal

pub returns-clause-shows : goal.returns-clause-shows
returns-clause-shows c = λ w before.
    let s = c.self.inside in
    let of = s.cluster.now in
    let shows = rw (← c.self.view_is) at before in
    shows_changed of s.nodes.items s.cells.items s.rising s.number s.state s.faults w shows c.set_node.new.nodes.items c.clear_node.new.cells.items s.rising (s.faults + 1)
    (after_joining of w c.args.node) (c.set_node.ensures.held (length of.nodes) w.nodes shows.nodes) (c.clear_node.ensures.held w.cells shows.cells)
    (joined_alone of s.nodes.items s.cells.items s.rising s.number s.state s.faults w shows c.args.node) refl (ap (λ g. g + 1) shows.faults)
