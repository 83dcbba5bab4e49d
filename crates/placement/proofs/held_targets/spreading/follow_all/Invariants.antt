use Rattle.std.proofs.Common.{◌≡◌, ◌≤◌, ◌+◌, List, length, Contains}
use Rattle.cluster_types.specs.Tables.{targets_of}
use Rattle.placement.specs.declared.held_targets.dependencies.Dependency.{Dependency}
use Rattle.placement.specs.Inner.Taking.{TakenAway, roles_in}
use Rattle.placement.proofs.held_targets.spreading.follow_all.Given as goal

abbrev pub invariant-loop-rule : goal.invariant-loop-rule
invariant-loop-rule l = record {
  nodes : l.left.nodes ≡ l.fn.table.nodes;
  size : length l.left.targets ≡ length l.fn.table.targets;
  taken : (all : List Dependency) → ((rule : Dependency) → Contains l.rules rule → Contains all rule)
      → TakenAway all l.fn.table.nodes (targets_of l.fn.table) (targets_of l.left);
  fewer : roles_in l.left.targets + length l.lost.items ≤ roles_in l.fn.table.targets + length l.fn.lost.items;
}
