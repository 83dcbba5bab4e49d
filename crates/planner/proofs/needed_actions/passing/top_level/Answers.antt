use Rattle.std.proofs.Common.{arith, ◌<◌, ◌≤◌, ◌+◌, length}
use Rattle.std.proofs.lemmas.List.{take_all}
use Rattle.cluster_types.specs.declared.leaf.Op.TheVariants.{Stop}
use Rattle.cluster_types.specs.declared.rules.Order.{Order}
use Rattle.cluster_types.specs.Numbers.{rank, step_of}
use Rattle.lemmas.proofs.Members.{all_more}
use Rattle.loops.proofs.RankChains.{rank_bounded}
use Rattle.planner.proofs.needed_actions.passing.top_level.Goals as goal

pub overflow_add-top : goal.overflow_add-top
overflow_add-top c =
    let cl = c.args.cluster.now in
    let is = c.rank-level.ensures.ranked cl c.requires.ranked in
    let limit = c.requires.valid.limits.leaves in
    let b = rank_bounded cl (step_of Stop c.order-item.result.first) in
    omega arith

pub loop-order-preserved-then-level-top : goal.loop-order-preserved-then-level-top
loop-order-preserved-then-level-top c =
    let cl = c.args.cluster.now in
    let is = c.rank-level.ensures.ranked cl c.requires.ranked in
    all_more (λ (o : Order). rank cl (step_of Stop o.first) < c.loop-order.top) cl.orders c.loop-order.order-index c.order-item.result
    (rw c.as_slice-order-items.ensures at c.loop-order-test.true) (rw c.as_slice-order-items.ensures at c.order-item.is)
    c.loop-order.invariant (omega arith)

pub loop-order-preserved : goal.loop-order-preserved
loop-order-preserved c =
    let cl = c.args.cluster.now in
    let is = c.rank-level.ensures.ranked cl c.requires.ranked in
    all_more (λ (o : Order). rank cl (step_of Stop o.first) < c.rank-level.result + 1) cl.orders c.loop-order.order-index c.order-item.result
    (rw c.as_slice-order-items.ensures at c.loop-order-test.true) (rw c.as_slice-order-items.ensures at c.order-item.is)
    (λ o h. let old = c.loop-order.invariant o h in omega arith) (omega arith)

pub returns : goal.returns
returns c = λ o h.
    let end : length c.args.cluster.now.orders ≤ c.loop-order.order-index = rw c.as_slice-order-items.ensures at c.loop-order-test.false in
    c.loop-order.invariant o (rw (take_all c.loop-order.order-index c.args.cluster.now.orders end) h)
