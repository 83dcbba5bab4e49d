use Rattle.std.proofs.Common.{length, ◌∙◌, ap}
use Rattle.std.proofs.lemmas.List.FromFn.{length-map-range_with_len}
use Rattle.planner.specs.Inner.Levels.{marks_in}
use Rattle.planner.proofs.OrderMarks.{marked_by_order}
use Rattle.planner.proofs.needed_actions.marking.mark_by.Goals as goal

pub mark_where-requires-clause-flags : goal.mark_where-requires-clause-flags
mark_where-requires-clause-flags c =
    ap length (c.as_slice-2.ensures.value ∙ c.in_ok-marked.ensures) ∙ length-map-range_with_len _ 0 c.args.marks.now.nodes

pub returns-clause-marks : goal.returns-clause-marks
returns-clause-marks c = λ cl es targets are nodes ordered.
    let made = c.as_slice-2.ensures.value ∙ c.in_ok-marked.ensures in
    marked_by_order cl es targets c.args.needs.now are c.args.order.now ordered c.args.marks.now.cells.items c.as_slice.result.now
    c.as_slice-2.result.now (marks_in c.mark_where.new.self.nodes c.mark_where.new.self.cells.items) c.args.marks.now.nodes nodes
    (c.as_slice.ensures.value ∙ c.in_ok-disturbed.ensures) made c.mark_where.ensures.marks
