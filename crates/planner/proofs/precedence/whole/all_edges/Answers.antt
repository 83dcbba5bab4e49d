use Rattle.std.proofs.Common.{refl}
use Rattle.planner.proofs.AllEdges.{base_enough, few_positions, room_for_all, whole}
use Rattle.planner.proofs.precedence.whole.all_edges.Goals as goal

pub add_serials-requires-clause-enough : goal.add_serials-requires-clause-enough
add_serials-requires-clause-enough c =
    let known = c.args.known.now in
    base_enough known.cluster.now known.actions.now known.inside c.in_ok-building.building.list.items c.in_ok-building.building.base c.in_ok-building.ensures.builds

pub add_serials-requires-clause-room : goal.add_serials-requires-clause-room
add_serials-requires-clause-room c =
    let known = c.args.known.now in
    room_for_all known.actions.now known.cluster.now c.in_ok-building.building.base known.rules known.leaves known.cells known.few c.in_ok-building.ensures.gates

pub returns : goal.returns
returns c =
    let known = c.args.known.now in
    whole known.cluster.now known.actions.now known.inside c.in_ok-building.building.list.items c.add_serials.new.building.list.items
    c.in_ok-building.building.base c.add_serials.new.building.base c.in_ok-building.ensures.builds c.in_ok-add_serials.ensures.adds
    (few_positions known.actions.now known.cluster.now c.in_ok-building.building.base c.add_serials.new.building.base c.in_ok-building.ensures.gates
    c.in_ok-add_serials.ensures.room)
    _ c.from.ensures refl
