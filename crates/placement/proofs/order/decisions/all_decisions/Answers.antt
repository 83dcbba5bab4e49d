use Rattle.std.proofs.Common.{rules, ◌≡◌, ◌++◌, sym, ap, ◌∙◌}
use Rattle.lemmas.proofs.Ranges.{flat_map-more}
use Rattle.placement.specs.Inner.DecisionLists.{decisions_in_leaf}
use Rattle.placement.proofs.order.decisions.all_decisions.Goals as goal

pub loop-leaf-preserved : goal.loop-leaf-preserved
loop-leaf-preserved c =
    let l = c.loop-leaf in
    let f = decisions_in_leaf c.args.cluster.now c.args.pins.now in
    let items : c.push_leaf.new.decisions.items ≡ l.decisions.items ++ f l.leaf = search rules in
    items ∙ (ap (λ xs. xs ++ f l.leaf) l.invariant ∙ sym (flat_map-more f l.leaf))
