use Rattle.std.proofs.Common.{rules, ◌≡◌, ◌++◌, ◌∷◌, [], sym, ap, ◌∙◌}
use Rattle.lemmas.proofs.Ranges.{map-more}
use Rattle.cluster_types.specs.Tables.{load_of, targets_of}
use Rattle.placement.proofs.choice.loaded_table.loads_of.Goals as goal

pub loop-node-preserved : goal.loop-node-preserved
loop-node-preserved c =
    let l = c.loop-node in
    let f = load_of c.args.cluster.now (targets_of c.args.table.now) in
    let items : c.push.new.self.items ≡ l.loads.items ++ f l.node ∷ [] = search rules in
    items ∙ (ap (λ xs. xs ++ f l.node ∷ []) l.invariant ∙ sym (map-more f l.node))
