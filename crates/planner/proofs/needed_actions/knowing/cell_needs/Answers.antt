use Rattle.std.proofs.Common.{arith, [], ap, map}
use Rattle.std.specs.List.{range_with_len}
use Rattle.cluster_types.specs.declared.states.States.{States}
use Rattle.planner.specs.Inner.Knowing as knowing
use Rattle.lemmas.proofs.Grown.{values_more}
use Rattle.planner.proofs.KnownNeeds.{needs_known}
use Rattle.planner.proofs.needed_actions.knowing.cell_needs.Goals as goal

pub loop-leaf-preserved : goal.loop-leaf-preserved
loop-leaf-preserved c =
    values_more
    (λ r. map (knowing.need_by c.args.states.now.cells c.args.placed.now.pins c.args.placed.now.table c.args.may_start c.len-nodes.result r)
    (range_with_len 0 c.len-nodes.result))
    c.loop-leaf.leaf [] _ _ c.loop-leaf.invariant (rw c.as_slice.ensures at c.in_ok-push_row.ensures)

pub returns : goal.returns
returns c = λ events promotions told pins allowed.
    let nodes = c.len-nodes.ensures in
    let end = c.len-leaf-end.ensures in
    let few = c.requires.leaves in
    let most = c.loop-leaf.auto.leaf-end in
    needs_known c.args.cluster.now events promotions c.args.states.now.cells c.args.placed.now.pins c.args.placed.now.table c.args.may_start
    (ap (λ (s : States). s.cells) told) pins allowed c.loop-leaf.needs.items c.len-nodes.result c.loop-leaf.leaf (omega arith) (omega arith)
    c.loop-leaf.invariant
