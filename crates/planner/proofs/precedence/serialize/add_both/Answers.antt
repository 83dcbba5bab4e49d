use Rattle.lemmas.proofs.Results.{on_both}
use Rattle.planner.proofs.ChainPairs.{adds_one, adds_two}
use Rattle.planner.proofs.precedence.serialize.add_both.Goals as goal

pub returns-then-order-clause-adds : goal.returns-then-order-clause-adds
returns-then-order-clause-adds c =
    adds_one c.args.actions.now c.args.order.now c.args.node c.args.places.now c.requires.within c.args.building.now.base c.requires.enough c.if-order.true
    c.args.building.now.list.items c.add_chain.new.building.list.items c.add_chain.new.building.base c.in_ok-add_chain.ensures.edges c.in_ok-add_chain.ensures.gates

pub returns-clause-adds : goal.returns-clause-adds
returns-clause-adds c =
    on_both c.add_chain-2.result
    (λ g h. adds_two c.args.actions.now c.args.order.now c.args.node c.args.places.now c.requires.within c.args.building.now.base c.requires.enough c.if-order.false
    c.args.building.now.list.items c.add_chain.new.building.list.items c.add_chain-2.new.building.list.items c.add_chain.new.building.base c.add_chain-2.new.building.base
    c.in_ok-add_chain.ensures.edges c.in_ok-add_chain.ensures.gates g h)
    c.add_chain-2.ensures.edges c.add_chain-2.ensures.gates
