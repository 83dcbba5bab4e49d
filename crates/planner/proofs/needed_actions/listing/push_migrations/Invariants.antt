use Rattle.std.proofs.Common.{◌≡◌, ◌++◌}
use Rattle.std.specs.List.{flat_map, range_with_len}
use Rattle.planner.specs.Inner.Actions.{migrations_to}
use Rattle.planner.specs.Inner.Works.{marks_of, needs_of}
use Rattle.planner.proofs.needed_actions.listing.push_migrations.Given as goal

abbrev pub invariant-loop-target : goal.invariant-loop-target
invariant-loop-target l =
    l.list.items ≡ l.fn.list.items ++ flat_map (migrations_to (needs_of l.work) (marks_of l.work) l.leaf l.source) (range_with_len 0 l.target)
