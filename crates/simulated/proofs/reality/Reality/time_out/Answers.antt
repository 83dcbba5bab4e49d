use Rattle.std.proofs.Common.{◌+◌, refl, ap}
use Rattle.simulated.specs.declared.turn.Fate.TheVariants as fate
use Rattle.simulated.specs.Turns.{after_end}
use Rattle.simulated.proofs.Showing.{shows_changed}
use Rattle.simulated.proofs.reality.Reality.time_out.Goals as goal

pub returns-clause-shows : goal.returns-clause-shows
returns-clause-shows c = λ w before.
    let s = c.self.inside in
    let of = s.cluster.now in
    let shows = rw (← c.self.view_is) at before in
    let calm = rw (← c.self.view_is) at c.requires.calm in
    rw (← c.self.view_is)
    (shows_changed of s.nodes.items s.cells.items s.rising s.number s.state s.faults w shows s.nodes.items c.give_up-self-inside.new.cells.items c.give_up-self-inside.result (s.faults + 1)
    (after_end of w fate.TimedOut c.args.action) shows.nodes (c.give_up-self-inside.ensures.held w.cells shows.cells)
    (c.give_up-self-inside.ensures.alone w.cells shows.cells (rw calm at shows.alone)) refl (ap (λ g. g + 1) shows.faults))
