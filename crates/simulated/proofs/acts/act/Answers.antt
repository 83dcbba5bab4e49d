use Rattle.simulated.proofs.acts.act.Goals as goal

pub returns-in-Fence-clause-held : goal.returns-in-Fence-clause-held
returns-in-Fence-clause-held c = rw c.in-Fence.is c.clear_node.ensures.held

pub returns-in-Operation-clause-held : goal.returns-in-Operation-clause-held
returns-in-Operation-clause-held c = rw c.in-Operation.is c.do_op.ensures.held

pub returns-in-MigrateTo-clause-held : goal.returns-in-MigrateTo-clause-held
returns-in-MigrateTo-clause-held c = rw c.in-MigrateTo.is c.set_if_found.ensures.held
