use Rattle.std.proofs.Common.{arith, ◌-◌, ◌∙◌}
use Rattle.planner.specs.Inner.Levels.{marks_in}
use Rattle.planner.proofs.MorePasses.{levels_less}
use Rattle.planner.proofs.needed_actions.passing.mark_levels.Goals as goal

pub loop-left-preserved : goal.loop-left-preserved
loop-left-preserved c =
    let cl = c.args.cluster.now in
    record {
      nodes = c.in_ok-mark_level.ensures.nodes ∙ c.loop-left.invariant.nodes;
      size = c.in_ok-mark_level.ensures.size ∙ c.loop-left.invariant.size;
      marks = λ es targets are.
          levels_less cl es targets c.loop-left.left (c.loop-left.left - 1)
          (marks_in c.loop-left.marks.nodes c.loop-left.marks.cells.items) _ _ (omega arith)
          (c.in_ok-mark_level.ensures.marks es targets are) (c.loop-left.invariant.marks es targets are);
    }
