use Rattle.sim_core.proofs.top.carry_out.Goals as goal

pub returns-in-Help-clause-answers : goal.returns-in-Help-clause-answers
returns-in-Help-clause-answers g c = rw c.in-Help.is (c.tell.ensures.says _ _)

pub returns-in-Version-clause-answers : goal.returns-in-Version-clause-answers
returns-in-Version-clause-answers g c = rw c.in-Version.is (c.tell-in-Version.ensures.says _ _)

pub returns-in-Gen-clause-answers : goal.returns-in-Gen-clause-answers
returns-in-Gen-clause-answers g c = rw c.in-Gen.is (c.with_case.ensures.says _ _)

pub returns-in-Gen-clause-status : goal.returns-in-Gen-clause-status
returns-in-Gen-clause-status g c = rw c.in-Gen.is c.with_case.ensures.status

pub returns-in-Scores-clause-status : goal.returns-in-Scores-clause-status
returns-in-Scores-clause-status g c = rw c.in-Scores.is c.with_input-in-Scores.ensures.status

pub returns-in-Why-clause-status : goal.returns-in-Why-clause-status
returns-in-Why-clause-status g c = rw c.in-Why.is c.with_input-in-Why.ensures.status

pub returns-in-Graph-clause-status : goal.returns-in-Graph-clause-status
returns-in-Graph-clause-status g c = rw c.in-Graph.is c.with_input-in-Graph.ensures.status

pub returns-in-Survive-clause-status : goal.returns-in-Survive-clause-status
returns-in-Survive-clause-status g c = rw c.in-Survive.is c.with_input-in-Survive.ensures.status

pub returns-in-Audit-clause-status : goal.returns-in-Audit-clause-status
returns-in-Audit-clause-status g c = rw c.in-Audit.is c.with_input-in-Audit.ensures.status

pub returns-in-World-clause-answers : goal.returns-in-World-clause-answers
returns-in-World-clause-answers g c = rw c.in-World.is c.with_input-in-World.ensures.says

pub returns-in-World-clause-status : goal.returns-in-World-clause-status
returns-in-World-clause-status g c = rw c.in-World.is c.with_input-in-World.ensures.status
