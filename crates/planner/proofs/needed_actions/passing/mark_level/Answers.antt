use Rattle.std.proofs.Common.{◌≡◌, true, ◌∙◌}
use Rattle.lemmas.proofs.Members.{read_there}
use Rattle.planner.specs.Inner.Levels.{is_at_level, marks_in}
use Rattle.planner.proofs.MorePasses.{orders_more, room_for}
use Rattle.planner.proofs.needed_actions.passing.mark_level.Goals as goal

pub mark_by-requires : goal.mark_by-requires
mark_by-requires c =
    let o = c.requires.ordered c.order-item.result (read_there c.as_slice-order-items.ensures c.loop-order-test.true c.order-item.is) in
    let room = room_for _ c.args.marks.now.nodes c.order-item.result.then_leaf o.later in
    let nodes = c.loop-order.invariant.nodes in
    let size = c.loop-order.invariant.size ∙ c.requires.size in
    rw (nodes, size) (rw (← c.requires.nodes) room)

pub loop-order-preserved : goal.loop-order-preserved
loop-order-preserved c =
    let cl = c.args.cluster.now in
    let o = c.order-item.result in
    let at : is_at_level cl c.args.level o ≡ true
    = let is = c.is_at.ensures cl c.requires.ranked in let kept = c.if-not-is_at.false in cc in
    let there = read_there c.as_slice-order-items.ensures c.loop-order-test.true c.order-item.is in
    record {
      nodes = c.in_ok-mark_by.ensures.nodes ∙ c.loop-order.invariant.nodes;
      size = c.in_ok-mark_by.ensures.size ∙ c.loop-order.invariant.size;
      marks = λ es targets are.
          orders_more cl es targets (is_at_level cl c.args.level) cl.orders c.loop-order.order-index o
          (marks_in c.args.marks.now.nodes c.args.marks.now.cells.items)
          (marks_in c.loop-order.marks.nodes c.loop-order.marks.cells.items) _
          (rw c.as_slice-order-items.ensures at c.loop-order-test.true)
          (rw c.as_slice-order-items.ensures at c.order-item.is) at
          (c.loop-order.invariant.marks es targets are)
          (c.in_ok-mark_by.ensures.marks cl es targets are (c.loop-order.invariant.nodes ∙ c.requires.nodes) (c.requires.ordered o there));
    }
