use Rattle.std.proofs.Common.{rules, ◌≡◌, ◌<◌, ◌≤◌, length, take, get_or, subst}
use Rattle.std.proofs.lemmas.List.{take_all}
use Rattle.planner.proofs.SerialLoop.{Serials, serials_more, serials_none}
use Rattle.planner.proofs.precedence.rules.add_serials.Goals as goal

pub loop-order-init : goal.loop-order-init
loop-order-init c = serials_none c.args.known.now.cluster.now c.args.known.now.actions.now c.args.building.now.list.items c.args.building.now.base c.requires.enough

pub loop-order-preserved : goal.loop-order-preserved
loop-order-preserved c =
    let less : c.loop-order.order-index < length c.args.known.now.cluster.now.orders =
    subst (λ v. c.loop-order.order-index < length v) c.as_slice-order-items.ensures c.loop-order-test.true in
    let item : c.order-item.result ≡ get_or c.args.known.now.cluster.now.orders c.loop-order.order-index c.order-item.result = search rules in
    serials_more c.args.known.now.cluster.now c.args.known.now.actions.now c.args.building.now.list.items c.loop-order.building.list.items c.add_serial.new.building.list.items
    c.args.building.now.base c.loop-order.building.base c.add_serial.new.building.base c.args.known.now.cluster.now.orders c.loop-order.order-index c.order-item.result c.order-item.result less item
    c.loop-order.invariant c.in_ok-add_serial.ensures.adds c.in_ok-add_serial.ensures.room

pub returns-clause-adds : goal.returns-clause-adds
returns-clause-adds c =
    let end : length c.args.known.now.cluster.now.orders ≤ c.loop-order.order-index =
    subst (λ v. length v ≤ c.loop-order.order-index) c.as_slice-order-items.ensures (search rules) in
    let all : take c.loop-order.order-index c.args.known.now.cluster.now.orders ≡ c.args.known.now.cluster.now.orders = take_all c.loop-order.order-index c.args.known.now.cluster.now.orders end in
    (subst (Serials c.args.known.now.cluster.now c.args.known.now.actions.now c.args.building.now.list.items c.loop-order.building.list.items c.args.building.now.base
    c.loop-order.building.base) all c.loop-order.invariant).adds
