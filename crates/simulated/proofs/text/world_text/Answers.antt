use Rattle.std.proofs.Common.{subst}
use Rattle.simulated.specs.WorldTexts.{IsLived}
use Rattle.simulated.proofs.text.world_text.Goals as goal

pub returns : goal.returns
returns c =
    let lived = c.in_ok-lived.ensures in
    let made = c.in_ok-lived.lived in
    c.text_of.ensures c.args.journal c.args.number lived.world
    (subst (λ n. IsLived c.args.cluster.now c.args.journal n made.run made.over lived.world) c.in_ok-world.ensures.number lived.is) lived.shows
