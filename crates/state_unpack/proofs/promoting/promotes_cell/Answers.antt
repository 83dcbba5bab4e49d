use Rattle.state_unpack.proofs.promoting.promotes_cell.Goals as goal

pub returns-in-Ended : goal.returns-in-Ended
returns-in-Ended c = rw c.in-Ended.is (c.promotes_as_it_ends.ensures c.in-Ended.number c.in-Ended.moment)
