use Rattle.std.proofs.Common.{◌≡◌, ◌≤◌, ◌+◌, cond, false, length, take, Contains}
use Rattle.cluster_types.specs.Tables.{targets_of}
use Rattle.placement.specs.declared.held_targets.dependencies.Dependency.{Dependency}
use Rattle.placement.specs.Inner.Taking.{IsRuleSettled, TakenAway, roles_in}
use Rattle.placement.proofs.held_targets.passes.pass.Given as goal

abbrev pub invariant-loop-rule : goal.invariant-loop-rule
invariant-loop-rule l = record {
  nodes : l.left.table.nodes ≡ l.fn.table.nodes;
  size : length l.left.table.targets ≡ length l.fn.table.targets;
  taken : TakenAway l.rules l.fn.table.nodes (targets_of l.fn.table) (targets_of l.left.table);
  fewer : roles_in l.left.table.targets + cond l.left.changed 1 0 ≤ roles_in l.fn.table.targets;
  same : l.left.changed ≡ false → l.left.table ≡ l.fn.table;
  settled : l.left.changed ≡ false → (rule : Dependency) → Contains (take l.rule-index l.rules) rule
      → IsRuleSettled l.fn.table.nodes (targets_of l.fn.table) rule;
}
