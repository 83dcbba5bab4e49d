use Rattle.cluster_types.proofs.Walks.{are_befores, ends_of_graph}
use Rattle.cluster_types.proofs.graph.Graph.befores.Goals as goal

pub walked-requires-clause-within : goal.walked-requires-clause-within
walked-requires-clause-within c = ends_of_graph c.args.self.now c.edges.result.now c.edges.ensures.edges c.edges.ensures.graph

pub returns : goal.returns
returns c =
    are_befores c.args.self.now c.edges.result.now c.count-actions.result c.args.number c.in_ok-marks.marks.items c.as_slice.result.now
    c.in_ok-numbers_marked.field-0.items c.edges.ensures.graph c.edges.ensures.edges c.count-actions.ensures c.requires.from_one c.requires.to_count
    c.in_ok-marks.ensures.marked c.as_slice.ensures.value c.in_ok-numbers_marked.ensures
