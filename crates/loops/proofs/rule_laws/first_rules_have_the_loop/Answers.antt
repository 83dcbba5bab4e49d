use Rattle.std.proofs.Common.{refl}
use Rattle.loops.specs.FirstLoops.{with_first_colocations, with_first_orders}
use Rattle.loops.proofs.LoopTests.{needs_closed, steps_closed}
use Rattle.loops.proofs.rule_laws.first_rules_have_the_loop.Goals as goal

pub returns-clause-needs : goal.returns-clause-needs
returns-clause-needs c cluster place count joined first few = needs_closed cluster (with_first_colocations cluster count) joined count few refl refl place first

pub returns-clause-steps : goal.returns-clause-steps
returns-clause-steps c cluster place count ordered first few = steps_closed cluster (with_first_orders cluster count) ordered count few refl refl place first
