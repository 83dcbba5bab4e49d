use Rattle.std.proofs.Common.{◌∙◌, ap}
use Rattle.loops.proofs.FromValid.{valid_order}
use Rattle.planner.specs.CycledCells.{MarkedCells, with_orders}
use Rattle.planner.specs.Inner.Levels.{below_level}
use Rattle.planner.proofs.Found.{found}
use Rattle.planner.proofs.needed_actions.finding.cycled_cells.Goals as goal

pub mark_levels-requires-clause-ordered : goal.mark_levels-requires-clause-ordered
mark_levels-requires-clause-ordered c = valid_order c.args.cluster.now c.requires.valid.orders

pub returns-clause-marks : goal.returns-clause-marks
returns-clause-marks c = λ es targets are.
    let cl = c.args.cluster.now in
    let top = c.top_level-top.result in
    found cl (valid_order cl c.requires.valid.orders) c.requires.valid.steps top c.top_level-top.ensures es targets _
    (c.in_ok-mark_levels.ensures.marks es targets are
    ∙ ap (λ (m : MarkedCells). with_orders cl es targets m (below_level cl top)) (c.in_ok-mark_active.ensures.marks es targets are))
