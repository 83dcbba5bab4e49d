use Rattle.std.proofs.Common.{◌+◌, refl, ap}
use Rattle.simulated.specs.declared.turn.Fate.TheVariants as fate
use Rattle.simulated.specs.Turns.{after_end}
use Rattle.simulated.proofs.Showing.{shows_changed, undone_alone}
use Rattle.simulated.proofs.reality.Reality.end_undone.Goals as goal

pub returns-clause-shows : goal.returns-clause-shows
returns-clause-shows c = λ w before.
    let s = c.self.inside in
    let of = s.cluster.now in
    let shows = rw (← c.self.view_is) at before in
    rw (← c.self.view_is)
    (shows_changed of s.nodes.items s.cells.items s.rising s.number s.state s.faults w shows s.nodes.items c.undo.new.cells.items s.rising (s.faults + 1)
    (after_end of w fate.Undone c.args.action) shows.nodes (c.undo.ensures.held w.cells shows.cells)
    (undone_alone of s.nodes.items s.cells.items s.rising s.number s.state s.faults w shows c.args.action) refl (ap (λ g. g + 1) shows.faults))
