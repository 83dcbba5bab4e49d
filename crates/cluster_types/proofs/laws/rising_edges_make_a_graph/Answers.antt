use Rattle.cluster_types.proofs.RisingEdges.{graph-rising}
use Rattle.cluster_types.proofs.laws.rising_edges_make_a_graph.Goals as goal

pub returns : goal.returns
returns c = graph-rising
