use Rattle.std.proofs.Common.{◌≡◌, ◌||◌, ℕ, length, take}
use Rattle.std.specs.List.{list_any}
use Rattle.listed.specs.Flags.{is_marked}
use Rattle.cluster_types.specs.Inner.Walks.{joins}
use Rattle.cluster_types.proofs.befores.mark_sources.Given as goal

abbrev pub invariant-loop-edge : goal.invariant-loop-edge
invariant-loop-edge l = record {
  size : length l.marks.items ≡ length l.fn.marks.items;
  so_far : (x : ℕ) → is_marked l.marks.items x ≡ (is_marked l.fn.marks.items x || list_any (joins x l.position) (take l.edge-index l.edges));
}
