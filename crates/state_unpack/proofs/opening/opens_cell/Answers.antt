use Rattle.state_unpack.proofs.opening.opens_cell.Goals as goal

pub returns-in-Begin : goal.returns-in-Begin
returns-in-Begin c = rw c.in-Begin.is (c.opens_as_it_begins.ensures c.in-Begin.number)

pub returns-in-Ended : goal.returns-in-Ended
returns-in-Ended c = rw c.in-Ended.is (c.opens_as_it_ends.ensures c.in-Ended.number c.in-Ended.moment)
