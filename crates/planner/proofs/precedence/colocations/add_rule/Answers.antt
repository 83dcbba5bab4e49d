use Rattle.std.proofs.Common.{rules, ◌≡◌, length}
use Rattle.planner.specs.Inner.Index.{places_in}
use Rattle.planner.proofs.IndexPlaces.{index_within}
use Rattle.planner.proofs.precedence.colocations.add_rule.Goals as goal

pub add-requires-clause-within : goal.add-requires-clause-within
add-requires-clause-within c =
    let places : c.as_slice.result.now ≡ places_in c.args.known.now.index.now c.args.one c.args.other = search rules in
    index_within c.args.known.now.cluster.now c.args.known.now.actions.now (length c.args.known.now.cluster.now.leaves) c.args.known.now.index.now c.args.one c.args.other c.as_slice.result.now
    c.args.known.now.indexed c.requires.one c.requires.other places
