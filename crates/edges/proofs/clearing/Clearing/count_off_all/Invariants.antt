use Rattle.std.proofs.Common.{◌≤◌, ◌==◌, ℕ, List, count_by, slice_index_or, drop}
use Rattle.edges.specs.declared.edge.Edge.{Edge}
use Rattle.edges.specs.Inner.Clearing.{Clears}
use Rattle.edges.proofs.clearing.Clearing.count_off_all.Given as goal

abbrev pub invariant-loop-source : goal.invariant-loop-source
invariant-loop-source l = record {
  enough : (x : ℕ) → count_by (◌==◌ x) (drop l.source-index l.sources) ≤ slice_index_or l.self.waiting.items x 0;
  kept : (positions taken : ℕ) (edges : List Edge) → Clears positions edges taken l.sources l.fn.self.waiting.items l.fn.self.cleared.items
      → Clears positions edges taken (drop l.source-index l.sources) l.self.waiting.items l.self.cleared.items;
}
