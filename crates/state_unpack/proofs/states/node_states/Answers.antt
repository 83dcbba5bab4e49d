use Rattle.std.proofs.Common.{rules, ◌≡◌, ◌++◌, ◌∷◌, [], sym, ap, ◌∙◌}
use Rattle.lemmas.proofs.Ranges.{map-more}
use Rattle.state_unpack.specs.Inner.CellsKept.{node_from}
use Rattle.state_unpack.proofs.states.node_states.Goals as goal

pub loop-node-preserved : goal.loop-node-preserved
loop-node-preserved c =
    let l = c.loop-node in
    let f = node_from c.args.cluster.now c.args.cells.now c.args.signs.now in
    let items : c.push.new.self.items ≡ l.states.items ++ f l.node ∷ [] = search rules in
    items ∙ (ap (λ xs. xs ++ f l.node ∷ []) l.invariant ∙ sym (map-more f l.node))
