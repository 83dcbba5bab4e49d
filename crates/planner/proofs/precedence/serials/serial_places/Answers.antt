use Rattle.std.proofs.lemmas.Result.{IfOk-weaker}
use Rattle.cluster_types.specs.Numbers.{is_earlier}
use Rattle.planner.proofs.SerialOrder.{serials}
use Rattle.planner.proofs.precedence.serials.serial_places.Goals as goal

pub returns : goal.returns
returns c =
    let known = c.args.known.now in
    IfOk-weaker c.ascending.result _ _
    (λ places h. serials known.cluster.now known.actions.now (is_earlier known.cluster.now known.actions.now) known.in_order c.args.order.now known.index.now places.items
    known.indexed c.requires.first c.requires.then_leaf h)
    c.ascending.ensures
