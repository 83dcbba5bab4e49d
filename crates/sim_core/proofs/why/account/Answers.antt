use Rattle.std.proofs.lemmas.Result.{IfOk-weaker}
use Rattle.sim_core.proofs.why.account.Goals as goal

pub returns : goal.returns
returns c =
    let journal = c.args.input.now.head.journal in
    let states = c.in_ok-states.ensures in
    let scores = c.in_ok-scores.ensures journal.events journal.promotions states in
    let is = c.in_ok-placed.ensures journal.events journal.promotions states scores in
    IfOk-weaker c.why_text.result _ _
    (λ text told. record { placed = c.in_ok-placed.placed; is = told journal.events journal.promotions states scores is }) c.why_text.ensures
