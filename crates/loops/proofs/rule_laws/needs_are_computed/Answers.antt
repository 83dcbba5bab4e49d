use Rattle.loops.proofs.ComputedChains.{needs_computed}
use Rattle.loops.proofs.rule_laws.needs_are_computed.Goals as goal

pub returns : goal.returns
returns c = needs_computed
