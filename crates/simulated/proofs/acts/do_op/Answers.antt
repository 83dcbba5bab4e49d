use Rattle.simulated.proofs.acts.do_op.Goals as goal

pub returns-in-Start-clause-held : goal.returns-in-Start-clause-held
returns-in-Start-clause-held c = rw c.in-Start.is c.set_cell.ensures.held

pub returns-in-Stop-clause-held : goal.returns-in-Stop-clause-held
returns-in-Stop-clause-held c = rw c.in-Stop.is c.set_cell-in-Stop.ensures.held

pub returns-in-Promote-clause-held : goal.returns-in-Promote-clause-held
returns-in-Promote-clause-held c = rw c.in-Promote.is (rw c.promoted.ensures at c.set_cell-in-Promote.ensures.held)

pub returns-in-Demote-clause-held : goal.returns-in-Demote-clause-held
returns-in-Demote-clause-held c = rw c.in-Demote.is c.demote.ensures.held
