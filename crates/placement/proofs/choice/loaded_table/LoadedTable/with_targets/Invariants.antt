use Rattle.std.proofs.Common.{◌≡◌, ℕ, ◌==◌, ◌&&◌, nat_lt, if◌then◌else◌}
use Rattle.cluster_types.specs.Tables.{targets_of}
use Rattle.score.specs.NodeSet.{has}
use Rattle.placement.specs.Loads.{IsLoaded}
use Rattle.placement.proofs.choice.loaded_table.LoadedTable.with_targets.Given as goal

abbrev pub invariant-loop-node : goal.invariant-loop-node
invariant-loop-node l = record {
  loaded : IsLoaded l.cluster l.loaded.table l.loaded.loads.items;
  targets : (r n : ℕ) → targets_of l.loaded.table r n
      ≡ (if r == l.leaf && nat_lt n l.node && has l.nodes n then l.target else targets_of l.fn.self.table r n);
}
