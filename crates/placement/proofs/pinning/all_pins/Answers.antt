use Rattle.std.proofs.Common.{rules, ◌≡◌, ◌++◌, ◌∷◌, [], sym, ap, ◌∙◌}
use Rattle.lemmas.proofs.Ranges.{map-more}
use Rattle.placement.specs.Inner.Pins.{pin_by}
use Rattle.placement.proofs.pinning.all_pins.Goals as goal

pub loop-leaf-preserved : goal.loop-leaf-preserved
loop-leaf-preserved c =
    let l = c.loop-leaf in
    let f = pin_by c.args.cluster.now c.args.states.now in
    let items : c.push.new.self.items ≡ l.pins.items ++ f l.leaf ∷ [] = search rules in
    items ∙ (ap (λ xs. xs ++ f l.leaf ∷ []) l.invariant ∙ sym (map-more f l.leaf))
