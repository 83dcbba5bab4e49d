use Rattle.graph_exec.proofs.Served.{made_for, serves_made}
use Rattle.graph_exec.proofs.run.planning.plan_for.Goals as goal

pub returns-clause-states : goal.returns-clause-states
returns-clause-states c = made_for _ _ _ c.requires.told c.in_ok-plan.ensures

pub returns-clause-serves : goal.returns-clause-serves
returns-clause-serves c = serves_made _ _ _ c.requires.told c.in_ok-plan.ensures
