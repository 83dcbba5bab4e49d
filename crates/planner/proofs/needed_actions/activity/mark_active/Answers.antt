use Rattle.std.proofs.Common.{arith, ◌<◌, false, length, nat_lt, slice_index_or, ◌∙◌, ap, refl}
use Rattle.std.proofs.lemmas.List.FromFn.{length-map-range_with_len}
use Rattle.planner.specs.CycledCells.{first_marks}
use Rattle.planner.specs.Inner.Levels.{marks_in}
use Rattle.planner.proofs.FirstMarks.{all_first, flag_is, row_more}
use Rattle.planner.proofs.needed_actions.activity.mark_active.Goals as goal

pub mark_where-requires-clause-flags : goal.mark_where-requires-clause-flags
mark_where-requires-clause-flags c =
    ap length (c.as_slice.ensures.value ∙ c.in_ok-flags.ensures) ∙ length-map-range_with_len _ 0 c.loop-leaf.marks.nodes

pub loop-leaf-preserved : goal.loop-leaf-preserved
loop-leaf-preserved c =
    let cl = c.args.cluster.now in
    let leaf = c.loop-leaf.leaf in
    let marks = c.loop-leaf.marks in
    let end = c.len-leaf-end.ensures in
    let few = c.requires.leaves in
    let there : leaf < length cl.leaves = omega arith in
    record {
      nodes = c.mark_where.ensures.nodes ∙ c.loop-leaf.invariant.nodes;
      size = c.mark_where.ensures.size ∙ c.loop-leaf.invariant.size;
      marks = λ es targets are r n.
          row_more (first_marks cl es targets) leaf r n (marks_in c.loop-leaf.marks.nodes c.loop-leaf.marks.cells.items r n) _
          (slice_index_or c.as_slice.result.now n false)
          (c.loop-leaf.invariant.marks es targets are r n) (c.mark_where.ensures.marks r n)
          (flag_is cl es targets c.args.needs.now are c.loop-leaf.marks.nodes (c.loop-leaf.invariant.nodes ∙ c.requires.nodes) leaf n
          (nat_lt c.copies.result c.active_count.result) c.as_slice.result.now there (rw (c.copies.ensures, c.active_count.ensures) refl)
          (c.as_slice.ensures.value ∙ c.in_ok-flags.ensures));
    }

pub returns-clause-marks : goal.returns-clause-marks
returns-clause-marks c = λ es targets are.
    let end = c.len-leaf-end.ensures in
    let few = c.requires.leaves in
    let most = c.loop-leaf.auto.leaf-end in
    all_first c.args.cluster.now es targets c.args.needs.now are (marks_in c.loop-leaf.marks.nodes c.loop-leaf.marks.cells.items) c.loop-leaf.leaf
    (omega arith) (c.loop-leaf.invariant.marks es targets are)
