use Rattle.std.proofs.Common.{◌++◌, subst}
use Rattle.std.specs.List.{flat_map}
use Rattle.std.proofs.lemmas.List.{append_assoc}
use Rattle.planner.specs.Joins.{colocation_joins, first_joins, order_joins}
use Rattle.planner.specs.Inner.Places.{places_of}
use Rattle.planner.specs.Inner.Rooms.{Builds}
use Rattle.planner.proofs.precedence.whole.all_joins.Goals as goal

pub returns-clause-builds : goal.returns-clause-builds
returns-clause-builds c =
    let cluster = c.args.known.now.cluster.now in
    let actions = c.args.known.now.actions.now in
    let one = c.in_ok-add_colocations.ensures.builds first_joins c.in_ok-building.ensures.builds in
    let two = c.in_ok-add_orders.ensures.builds (first_joins ++ flat_map colocation_joins cluster.colocations) one in
    subst (Builds cluster actions (places_of actions) c.add_orders.new.building.list.items c.add_orders.new.building.base)
    (append_assoc first_joins (flat_map colocation_joins cluster.colocations) (flat_map order_joins cluster.orders)) two
