use Rattle.std.proofs.Common.{rules, ◌≡◌, ap, ◌∙◌}
use Rattle.placement.specs.Inner.Pins.{pins_by}
use Rattle.placement.proofs.PinsOfStates.{pins-are}
use Rattle.placement.proofs.pinning.pins.Goals as goal

pub returns : goal.returns
returns c = λ events promotions told.
    let made : c.from.result ≡ pins_by c.args.cluster.now c.args.states.now = search rules in
    made ∙ (ap (pins_by c.args.cluster.now) told ∙ pins-are c.args.cluster.now events promotions)
