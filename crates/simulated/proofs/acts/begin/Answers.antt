use Rattle.simulated.proofs.acts.begin.Goals as goal

pub returns-in-MigrateTo-clause-held : goal.returns-in-MigrateTo-clause-held
returns-in-MigrateTo-clause-held c = rw c.in-MigrateTo.is c.set_if_found.ensures.held
