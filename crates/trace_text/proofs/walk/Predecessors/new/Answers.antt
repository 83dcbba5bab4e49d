use Rattle.std.proofs.Common.{arith, ◌∙◌, ap, length}
use Rattle.std.proofs.lemmas.List.{length-replicate}
use Rattle.cluster_types.specs.declared.graph_edges.Edges.{Edges}
use Rattle.trace_text.proofs.walk.Predecessors.new.Goals as goal

pub source_rows-requires : goal.source_rows-requires
source_rows-requires c = rw c.edges-edges.ensures.edges c.edges-edges.ensures.graph.within

pub invariant_of-result : goal.invariant_of-result
invariant_of-result c = record {
  graph = c.edges-edges.ensures.graph;
  sources = rw c.edges-edges.ensures.edges at c.in_ok-sources.ensures;
  size = ap length c.in_ok-found.ensures ∙ (length-replicate _ _ ∙ ap (λ (e : Edges). e.positions) c.edges-edges.ensures.edges);
  few = omega arith;
}
