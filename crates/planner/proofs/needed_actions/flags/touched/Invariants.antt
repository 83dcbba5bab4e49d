use Rattle.std.proofs.Common.{◌≡◌, map}
use Rattle.std.specs.List.{range_with_len}
use Rattle.planner.specs.Inner.Actions.{is_touched}
use Rattle.planner.specs.Inner.Works.{marks_of, needs_of}
use Rattle.planner.proofs.needed_actions.flags.touched.Given as goal

abbrev pub invariant-loop-leaf : goal.invariant-loop-leaf
invariant-loop-leaf l = l.flags.items ≡ map (is_touched l.cluster (needs_of l.work) (marks_of l.work)) (range_with_len 0 l.leaf)
