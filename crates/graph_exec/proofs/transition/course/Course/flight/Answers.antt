use Rattle.std.proofs.Common.{refl}
use Rattle.graph_exec.proofs.Beginning.{same_pairs}
use Rattle.graph_exec.proofs.transition.course.Course.flight.Goals as goal

pub returns-clause-pairs : goal.returns-clause-pairs
returns-clause-pairs c = rw (← c.self.view_is) (same_pairs _ _ c.self.invariant)

pub returns-clause-from_one : goal.returns-clause-from_one
returns-clause-from_one c = rw (← c.self.view_is) c.self.invariant.from_one

pub returns-clause-graph : goal.returns-clause-graph
returns-clause-graph c = rw (← c.self.view_is) refl
