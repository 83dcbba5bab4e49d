use Rattle.std.proofs.Common.{arith, sym, ◌∙◌}
use Rattle.live_run.proofs.Ready.{begins_result}
use Rattle.live_run.proofs.at_hand.begins_result.Goals as goal

pub returns : goal.returns
returns c h =
    let low = c.if-first-lt97.false in
    let high = c.if-first-gt122.false in
    begins_result c.args.bytes.now c.in-Some.first.now c.in-Some.more.now c.in-Some.ensures.cases.0 (omega (arith, low)) (omega (arith, high)) (sym c.closes.ensures ∙ h)
