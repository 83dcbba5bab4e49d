use Rattle.std.proofs.Common.{◌+◌, length, refl, ap}
use Rattle.simulated.specs.Turns.{after_leaving}
use Rattle.simulated.proofs.Showing.{left_alone, shows_changed}
use Rattle.simulated.proofs.reality.Reality.leave.Goals as goal

pub returns-clause-shows : goal.returns-clause-shows
returns-clause-shows c = λ w before.
    let s = c.self.inside in
    let of = s.cluster.now in
    let shows = rw (← c.self.view_is) at before in
    rw (← c.self.view_is)
    (shows_changed of s.nodes.items s.cells.items s.rising s.number s.state s.faults w shows c.set_node.new.nodes.items c.leave_cells.new.cells.items s.rising (s.faults + 1)
    (after_leaving of w c.args.node) (rw c.left_behind.ensures at (c.set_node.ensures.held (length of.nodes) w.nodes shows.nodes))
    (c.leave_cells.ensures.held w.cells shows.cells) (left_alone of s.nodes.items s.cells.items s.rising s.number s.state s.faults w shows c.args.node) refl
    (ap (λ g. g + 1) shows.faults))
