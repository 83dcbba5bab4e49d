use Rattle.std.proofs.Common.{◌≡◌, ◌+◌, cond, false, length, Contains}
use Rattle.cluster_types.specs.Tables.{targets_of}
use Rattle.placement.specs.declared.held_targets.dependencies.Dependency.{Dependency}
use Rattle.placement.specs.Inner.Taking.{IsRuleSettled, TakenAway, roles_in}
use Rattle.placement.proofs.held_targets.passes.settled.Given as goal

abbrev pub invariant-loop-left : goal.invariant-loop-left
invariant-loop-left l = record {
  nodes : l.left.table.nodes ≡ l.fn.table.nodes;
  size : length l.left.table.targets ≡ length l.fn.table.targets;
  taken : TakenAway l.rules l.fn.table.nodes (targets_of l.fn.table) (targets_of l.left.table);
  settled : l.left.changed ≡ false → (rule : Dependency) → Contains l.rules rule → IsRuleSettled l.fn.table.nodes (targets_of l.left.table) rule;
}

abbrev pub decreases-loop-left : goal.decreases-loop-left
decreases-loop-left l = roles_in l.left.table.targets + cond l.left.changed 1 0
