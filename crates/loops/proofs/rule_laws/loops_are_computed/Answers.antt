use Rattle.loops.proofs.LoopTests.{needs_tested, steps_tested}
use Rattle.loops.proofs.rule_laws.loops_are_computed.Goals as goal

pub returns-clause-needs : goal.returns-clause-needs
returns-clause-needs c = needs_tested

pub returns-clause-steps : goal.returns-clause-steps
returns-clause-steps c = steps_tested
