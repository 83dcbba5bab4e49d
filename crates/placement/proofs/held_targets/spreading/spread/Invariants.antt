use Rattle.std.proofs.Common.{◌≡◌, ◌+◌, ◌-◌, length}
use Rattle.cluster_types.specs.Tables.{targets_of}
use Rattle.placement.specs.Inner.Taking.{TakenAway, roles_in}
use Rattle.placement.proofs.held_targets.spreading.spread.Given as goal

abbrev pub invariant-loop-looked : goal.invariant-loop-looked
invariant-loop-looked l = record {
  nodes : l.left.nodes ≡ l.fn.table.nodes;
  size : length l.left.targets ≡ length l.fn.table.targets;
  taken : TakenAway l.rules l.fn.table.nodes (targets_of l.fn.table) (targets_of l.left);
}

abbrev pub decreases-loop-looked : goal.decreases-loop-looked
decreases-loop-looked l = roles_in l.left.targets + length l.lost.items - l.looked
