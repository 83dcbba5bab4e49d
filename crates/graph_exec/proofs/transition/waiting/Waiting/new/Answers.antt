use Rattle.graph_exec.proofs.transition.waiting.Waiting.new.Goals as goal

pub new-requires : goal.new-requires
new-requires c = rw (c.as_slice.ensures, c.edges-edges.ensures.edges) c.edges-edges.ensures.graph.within
