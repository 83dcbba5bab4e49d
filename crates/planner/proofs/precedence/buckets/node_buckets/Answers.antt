use Rattle.std.proofs.Common.{rules, ◌≡◌, ◌<◌, IfSome, length, get_or, subst, sym}
use Rattle.std.specs.Prelude.{vec_len}
use Rattle.planner.specs.Inner.Chains.{changed_node_at}
use Rattle.planner.proofs.BucketsMore.{buckets_more, node_within}
use Rattle.planner.proofs.precedence.buckets.node_buckets.Goals as goal

pub add_place-requires : goal.add_place-requires
add_place-requires c =
    let below : get_or c.args.places.now c.loop-place.place-index _ < length c.args.known.now.actions.now = search rules in
    subst (λ n. IfSome c.node_at.result (λ m. m < n)) (sym c.loop-place.invariant.0)
    (node_within c.args.known.now.cluster.now c.args.known.now.actions.now c.args.known.now.inside _ c.node_at.result below c.node_at.ensures)

pub loop-place-preserved : goal.loop-place-preserved
loop-place-preserved c =
    let below : get_or c.args.places.now c.loop-place.place-index _ < length c.args.known.now.actions.now = search rules in
    let long : length c.loop-place.buckets.items ≡ length c.args.known.now.cluster.now.nodes = search rules in
    let still : vec_len c.add_place.new.index ≡ length c.args.known.now.cluster.now.nodes = search rules in (
      still,
      buckets_more (changed_node_at c.args.known.now.actions.now) (length c.args.known.now.cluster.now.nodes) c.loop-place.buckets.items c.add_place.new.index.items c.args.places.now
          c.loop-place.place-index _ c.node_at.result c.loop-place-test.true long c.node_at.ensures
          (node_within c.args.known.now.cluster.now c.args.known.now.actions.now c.args.known.now.inside _ c.node_at.result below c.node_at.ensures)
          c.loop-place.invariant.1 c.in_ok-add_place.ensures.more,
    )
