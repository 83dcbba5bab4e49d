use Rattle.std.proofs.lemmas.Result.{IfOk-at_ok}
use Rattle.plan_cases.proofs.graphs.graph.Goals as goal

pub number-requires-clause-planned : goal.number-requires-clause-planned
number-requires-clause-planned g c =
    let events = c.args.known.now.journal.events in
    let promotions = c.args.known.now.journal.promotions in
    let told = c.requires.told in
    let scores = IfOk-at_ok _ c.expect-scores.ensures (c.rows.ensures events promotions told) in
    let goals = IfOk-at_ok _ c.expect-placed.ensures c.place.ensures events promotions told scores in
    let allowed = c.rights-rights.ensures events promotions told in
    record {
      events = events;
      promotions = promotions;
      placed = c.expect-placed.result;
      goals = goals;
      needed = IfOk-at_ok _ c.expect-actions.ensures c.actions.ensures events promotions told allowed goals.pins;
    }
