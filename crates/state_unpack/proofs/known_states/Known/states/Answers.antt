use Rattle.std.proofs.Common.{rules, ◌≡◌, ◌∙◌}
use Rattle.state_unpack.specs.Inner.CellsKept.{states_from}
use Rattle.state_unpack.specs.KeptKnowledge.{knowledge}
use Rattle.state_unpack.proofs.JournalSoFar.{states-known}
use Rattle.state_unpack.proofs.known_states.Known.states.Goals as goal

pub returns : goal.returns
returns c = λ of es knows.
    let s = c.self.inside in
    let kept = knowledge s.cluster.now s.cells.items s.signs.items s.quorum s.moment in
    let made : c.in_ok-states_from.field-0 ≡ states_from s.cluster.now s.cells.items s.signs.items s.quorum s.moment c.args.promotions.now = search rules in
    made ∙ states-known of es kept (rw (← c.self.view_is) at knows) c.self.invariant.monitors c.args.promotions.now
