use Rattle.edges.proofs.ThroughOthers.{ways_computed, ways_through_computed}
use Rattle.edges.proofs.laws.ways_are_computed.Goals as goal

pub returns-clause-through : goal.returns-clause-through
returns-clause-through c = ways_through_computed

pub returns-clause-whole : goal.returns-clause-whole
returns-clause-whole c = ways_computed
