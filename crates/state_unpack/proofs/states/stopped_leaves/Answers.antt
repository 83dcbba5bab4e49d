use Rattle.std.proofs.Common.{rules, ◌≡◌, ◌++◌, ◌∷◌, [], ℕ, sym, ap, ◌∙◌}
use Rattle.lemmas.proofs.Ranges.{map-more}
use Rattle.state_unpack.specs.Inner.CellsKept.{somewhere, is_stopping}
use Rattle.state_unpack.proofs.states.stopped_leaves.Goals as goal

pub loop-leaf-preserved : goal.loop-leaf-preserved
loop-leaf-preserved c =
    let l = c.loop-leaf in
    let f = λ (r : ℕ). somewhere is_stopping c.args.cluster.now r c.args.now c.args.cells.now in
    let items : c.push.new.self.items ≡ l.stopped.items ++ f l.leaf ∷ [] = search rules in
    items ∙ (ap (λ xs. xs ++ f l.leaf ∷ []) l.invariant ∙ sym (map-more f l.leaf))
