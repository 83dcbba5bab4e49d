use Rattle.std.proofs.Common.{◌≡◌, ◌≤◌, count_by}
use Rattle.std.specs.List.{range_with_len}
use Rattle.cluster_types.specs.Terms.{is_active}
use Rattle.planner.specs.Inner.Levels.{need_in}
use Rattle.planner.proofs.needed_actions.activity.active_count.Given as goal

abbrev pub invariant-loop-node : goal.invariant-loop-node
invariant-loop-node l = record {
  counted : l.count ≡ count_by (λ n. is_active (need_in l.nodes l.needs l.leaf n).state) (range_with_len 0 l.node);
  few : l.count ≤ l.node;
}
