use Rattle.state_unpack.proofs.JournalSoFar.{knows-more}
use Rattle.state_unpack.proofs.known_states.Known.tell.Goals as goal

pub returns-clause-known : goal.returns-clause-known
returns-clause-known c = λ of es knows.
    let s = c.self.inside in
    rw (c.quorum_after-self-inside.ensures, c.seconds.ensures)
    (knows-more of es c.args.event s.cluster.now s.cells.items c.tell.new.cells.items s.signs.items c.show.new.signs.items s.quorum s.moment
    (rw (← c.self.view_is) at knows) c.tell.ensures c.show.ensures)
