use Rattle.std.proofs.Common.{◌≡◌, ◌&&◌, map}
use Rattle.std.specs.List.{range_with_len}
use Rattle.planner.specs.Inner.Levels.{need_in}
use Rattle.planner.proofs.needed_actions.activity.can_cycle.Given as goal

abbrev pub invariant-loop-node : goal.invariant-loop-node
invariant-loop-node l = l.flags.items ≡ map (λ n. (need_in l.nodes l.needs l.leaf n).can_cycle && l.too_often) (range_with_len 0 l.node)
