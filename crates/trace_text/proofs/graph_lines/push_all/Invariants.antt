use Rattle.std.proofs.Common.{◌≡◌, ◌++◌, ℕ, length, codes}
use Rattle.std.specs.Fmt.{decimal}
use Rattle.std.specs.List.{flat_map}
use Rattle.trace_text.proofs.graph_lines.push_all.Given as goal

abbrev pub invariant-loop-number : goal.invariant-loop-number
invariant-loop-number l = record {
  so_far : l.text.items ++ flat_map (λ (j : ℕ). codes " " ++ decimal j) l.before.left
      ≡ l.fn.text.items ++ flat_map (λ (j : ℕ). codes " " ++ decimal j) l.fn.before.left;
  graph : l.before.graph ≡ l.fn.before.graph;
}

abbrev pub decreases-loop-number : goal.decreases-loop-number
decreases-loop-number l = length l.before.left
