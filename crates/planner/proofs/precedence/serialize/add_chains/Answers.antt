use Rattle.std.proofs.Common.{rules, ◌≡◌, ◌*◌, false, length}
use Rattle.std.proofs.lemmas.Result.{on_ok_weaker}
use Rattle.planner.proofs.NodeLoop.{together_all}
use Rattle.planner.proofs.precedence.serialize.add_chains.Goals as goal

pub returns-else-order-clause-adds : goal.returns-else-order-clause-adds
returns-else-order-clause-adds c =
    let together : c.args.order.now.local ≡ false = search rules in
    on_ok_weaker c.add_both.result
    (together_all c.args.known.now.actions.now c.args.order.now c.args.places.now together c.args.building.now.list.items c.add_both.new.building.list.items
    c.args.building.now.base c.add_both.new.building.base (3 * length c.args.places.now))
    c.add_both.ensures.adds
