use Rattle.std.proofs.Common.{length, refl, ap}
use Rattle.cluster_types.specs.declared.journal.Answer.TheVariants as answer
use Rattle.simulated.specs.declared.turn.Fate.TheVariants as fate
use Rattle.simulated.specs.Turns.{after_end}
use Rattle.simulated.proofs.Showing.{done_alone, shows_changed}
use Rattle.simulated.proofs.reality.Reality.end_truly.Goals as goal

pub returns-clause-answer : goal.returns-clause-answer
returns-clause-answer c = λ w before.
    let shows = rw (← c.self.view_is) at before in
    let code = rw c.as_slice.ensures.value at c.true_code-code.ensures in
    rw (← c.self.view_is) (ap (λ x. answer.End c.args.number x) (code w.cells shows.cells))

pub returns-clause-shows : goal.returns-clause-shows
returns-clause-shows c = λ w before.
    let s = c.self.inside in
    let of = s.cluster.now in
    let shows = rw (← c.self.view_is) at before in
    rw (← c.self.view_is)
    (shows_changed of s.nodes.items s.cells.items s.rising s.number s.state s.faults w shows c.fence.new.nodes.items c.act.new.cells.items s.rising s.faults
    (after_end of w fate.True c.args.action) (c.fence.ensures.held (length of.nodes) w.nodes shows.nodes) (c.act.ensures.held w.cells shows.cells)
    (done_alone of s.nodes.items s.cells.items s.rising s.number s.state s.faults w shows c.args.action) refl shows.faults)
