use Rattle.std.proofs.Common.{rules, ◌≡◌, ◌∙◌}
use Rattle.state_unpack.specs.Inner.CellsKept.{node_from}
use Rattle.state_unpack.specs.KeptKnowledge.{knowledge}
use Rattle.state_unpack.proofs.JournalSoFar.{node-known}
use Rattle.state_unpack.proofs.known_states.Known.node_state.Goals as goal

pub returns : goal.returns
returns c = λ of es knows.
    let s = c.self.inside in
    let kept = knowledge s.cluster.now s.cells.items s.signs.items s.quorum s.moment in
    let made : c.node_from.result ≡ node_from s.cluster.now s.cells.items s.signs.items c.args.node = search rules in
    made ∙ node-known of es kept (rw (← c.self.view_is) at knows) c.args.node (rw (← c.self.view_is) at c.requires)
