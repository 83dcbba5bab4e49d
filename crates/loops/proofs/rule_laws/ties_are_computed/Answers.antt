use Rattle.loops.proofs.ComputedChains.{lenders_tied, ties_computed}
use Rattle.loops.proofs.rule_laws.ties_are_computed.Goals as goal

pub returns-clause-ties : goal.returns-clause-ties
returns-clause-ties c = ties_computed

pub returns-clause-lenders : goal.returns-clause-lenders
returns-clause-lenders c = lenders_tied
