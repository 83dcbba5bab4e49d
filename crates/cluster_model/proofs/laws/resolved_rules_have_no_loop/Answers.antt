use Rattle.cluster_model.proofs.Loopless.{needs_without_loop, steps_without_loop}
use Rattle.cluster_model.proofs.laws.resolved_rules_have_no_loop.Goals as goal

pub returns-clause-needs : goal.returns-clause-needs
returns-clause-needs c leaves statements cluster r = needs_without_loop leaves statements cluster r

pub returns-clause-steps : goal.returns-clause-steps
returns-clause-steps c leaves statements cluster r = steps_without_loop leaves statements cluster r
