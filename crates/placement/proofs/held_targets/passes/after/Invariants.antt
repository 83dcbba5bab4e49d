use Rattle.std.proofs.Common.{◌≡◌, ◌<◌, ◌≤◌, ◌+◌, ℕ, List, cond, false, length, Contains}
use Rattle.cluster_types.specs.Tables.{targets_of}
use Rattle.placement.specs.declared.held_targets.dependencies.Dependency.{Dependency}
use Rattle.placement.specs.Inner.Taking.{TakenAway, roles_in, takes}
use Rattle.placement.proofs.held_targets.passes.after.Given as goal

abbrev pub invariant-loop-node : goal.invariant-loop-node
invariant-loop-node l = record {
  nodes : l.left.table.nodes ≡ l.fn.left.table.nodes;
  size : length l.left.table.targets ≡ length l.fn.left.table.targets;
  taken : (rules : List Dependency) → Contains rules l.rule
      → TakenAway rules l.fn.left.table.nodes (targets_of l.fn.left.table) (targets_of l.left.table);
  fewer : roles_in l.left.table.targets + cond l.left.changed 1 0 ≤ roles_in l.fn.left.table.targets + cond l.fn.left.changed 1 0;
  unchanged : l.left.changed ≡ false → l.fn.left.changed ≡ false;
  same : l.left.changed ≡ false → l.left.table ≡ l.fn.left.table;
  settled : l.left.changed ≡ false → (n : ℕ) → n < l.node → takes l.fn.left.table.nodes (targets_of l.fn.left.table) l.rule n ≡ false;
}
