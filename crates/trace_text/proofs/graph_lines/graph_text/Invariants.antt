use Rattle.std.proofs.Common.{◌≡◌, length, take}
use Rattle.std.specs.List.{enumerate_from, flat_map}
use Rattle.cluster_types.specs.Graphs.{is_before}
use Rattle.cluster_types.specs.Texts.{graph_line}
use Rattle.trace_text.proofs.graph_lines.graph_text.Given as goal

abbrev pub invariant-loop-place : goal.invariant-loop-place
invariant-loop-place l = record {
  so_far : l.text.items ≡ flat_map (graph_line l.cluster (is_before l.graph) (length l.graph.actions)) (take l.place (enumerate_from 1 l.graph.actions));
  graph : l.before.graph ≡ l.graph;
}
