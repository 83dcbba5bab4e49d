use Rattle.std.proofs.Common.{refl, ◌∙◌}
use Rattle.trace_text.proofs.walk.Predecessors.walk_to.Goals as goal

pub invariant_of-self : goal.invariant_of-self
invariant_of-self c = record {
  graph = c.self.invariant.graph;
  sources = c.self.invariant.sources;
  size = c.walk_back-self-inside.ensures.size ∙ c.self.invariant.size;
  few = c.walk_back-self-inside.ensures.few;
}

pub returns : goal.returns
returns c = rw (← c.self.view_is, c.walk_back-self-inside.ensures.befores) refl
