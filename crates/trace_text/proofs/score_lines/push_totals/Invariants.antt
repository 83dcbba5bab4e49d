use Rattle.std.proofs.Common.{◌≡◌, ◌++◌, take}
use Rattle.std.specs.List.{enumerate_from, flat_map}
use Rattle.cluster_types.specs.Texts.{score_line}
use Rattle.trace_text.proofs.score_lines.push_totals.Given as goal

abbrev pub invariant-loop-node : goal.invariant-loop-node
invariant-loop-node l = l.text.items ≡ l.fn.text.items ++ flat_map (score_line l.cluster l.leaf) (take l.node (enumerate_from 0 l.totals))
