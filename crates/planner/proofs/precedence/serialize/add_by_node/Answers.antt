use Rattle.std.proofs.Common.{arith, rules, ◌≡◌, ◌<◌, [], length, subst, ap, ◌∙◌}
use Rattle.std.specs.List.{slice_get}
use Rattle.std.specs.Option.{unwrap_or}
use Rattle.planner.proofs.NodeLoop.{Locals, bucket_within, locals_all, locals_fit, locals_more, locals_none}
use Rattle.planner.proofs.precedence.serialize.add_by_node.Goals as goal

pub loop-node-init : goal.loop-node-init
loop-node-init c = locals_none c.args.known.now.actions.now c.args.order.now c.args.places.now c.args.building.now.list.items c.args.building.now.base c.requires.enough

pub add_both-requires-clause-within : goal.add_both-requires-clause-within
add_both-requires-clause-within c =
    let less : c.loop-node.node < length c.args.known.now.cluster.now.nodes = search rules in
    let is : c.bucket.result.now ≡ unwrap_or (slice_get c.in_ok-buckets.buckets.items c.loop-node.node) [] = search rules in
    bucket_within c.args.known.now.actions.now c.args.places.now c.loop-node.node c.bucket.result.now (is ∙ c.in_ok-buckets.ensures.buckets c.loop-node.node less) c.requires.within

pub add_both-requires-clause-room : goal.add_both-requires-clause-room
add_both-requires-clause-room c =
    let less : c.loop-node.node < length c.args.known.now.cluster.now.nodes = search rules in
    let is : c.bucket.result.now ≡ unwrap_or (slice_get c.in_ok-buckets.buckets.items c.loop-node.node) [] = search rules in
    let long = ap length (is ∙ c.in_ok-buckets.ensures.buckets c.loop-node.node less) in
    let fit = locals_fit c.args.known.now.actions.now c.args.order.now c.args.places.now c.args.building.now.list.items c.loop-node.building.list.items
    c.args.building.now.base c.loop-node.building.base c.loop-node.node c.loop-node.invariant in
    let nodes = c.args.known.now.nodes in
    let room = c.requires.room in
    omega arith

pub loop-node-preserved : goal.loop-node-preserved
loop-node-preserved c =
    let less : c.loop-node.node < length c.args.known.now.cluster.now.nodes = search rules in
    let is : c.bucket.result.now ≡ unwrap_or (slice_get c.in_ok-buckets.buckets.items c.loop-node.node) [] = search rules in
    locals_more c.args.known.now.actions.now c.args.order.now c.args.places.now c.requires.local c.args.building.now.list.items c.loop-node.building.list.items
    c.add_both.new.building.list.items c.args.building.now.base c.loop-node.building.base c.add_both.new.building.base c.loop-node.node c.bucket.result.now
    c.loop-node.invariant (is ∙ c.in_ok-buckets.ensures.buckets c.loop-node.node less) c.in_ok-add_both.ensures.adds c.in_ok-add_both.ensures.room

pub returns-clause-adds : goal.returns-clause-adds
returns-clause-adds c =
    let all : c.loop-node.node ≡ length c.args.known.now.cluster.now.nodes = search rules in
    locals_all c.args.known.now.actions.now c.args.order.now c.args.places.now c.requires.local c.args.known.now.cluster.now c.args.known.now.inside c.args.building.now.list.items
    c.loop-node.building.list.items c.args.building.now.base c.loop-node.building.base
    (subst (λ n. Locals c.args.known.now.actions.now c.args.order.now c.args.places.now c.args.building.now.list.items c.loop-node.building.list.items c.args.building.now.base
    c.loop-node.building.base n) all c.loop-node.invariant)
