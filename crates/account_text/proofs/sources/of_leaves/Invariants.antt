use Rattle.std.proofs.Common.{◌≡◌, ◌≤◌, ℕ, Some, length, slice_get, vec_capacity}
use Rattle.account_text.specs.declared.leaf_sources.LeafSources.{LeafSources}
use Rattle.account_text.specs.Inner.Sources.{IsSourceOf}
use Rattle.account_text.proofs.sources.of_leaves.Given as goal

abbrev pub invariant-loop-leaf : goal.invariant-loop-leaf
invariant-loop-leaf l = record {
  size : length l.leaves.items ≡ l.leaf;
  room : length l.cluster.leaves ≤ vec_capacity l.leaves;
  each : (r : ℕ) (sources : LeafSources) → slice_get l.leaves.items r ≡ Some sources → IsSourceOf l.cluster l.moment r sources;
}
