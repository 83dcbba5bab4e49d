use Rattle.std.proofs.Common.{◌≡◌}
use Rattle.planner.specs.Inner.Knowing as knowing
use Rattle.planner.proofs.needed_actions.knowing.cell_needs.Given as goal

abbrev pub invariant-loop-leaf : goal.invariant-loop-leaf
invariant-loop-leaf l = l.needs.items ≡ knowing.needs_by l.states.cells l.placed.pins l.placed.table l.may_start l.nodes l.leaf
