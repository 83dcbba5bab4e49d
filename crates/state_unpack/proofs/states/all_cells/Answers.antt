use Rattle.std.proofs.Common.{rules, ◌≡◌, ◌++◌, sym, ap, ◌∙◌}
use Rattle.lemmas.proofs.Ranges.{flat_map-more}
use Rattle.state_unpack.specs.Inner.CellsKept.{row_from}
use Rattle.state_unpack.proofs.states.all_cells.Goals as goal

pub loop-leaf-preserved : goal.loop-leaf-preserved
loop-leaf-preserved c =
    let l = c.loop-leaf in
    let f = row_from c.args.cluster.now c.args.cells.now c.args.nodes.now c.args.now in
    let items : c.push_row.new.known.items ≡ l.known.items ++ f l.leaf = search rules in
    items ∙ (ap (λ xs. xs ++ f l.leaf) l.invariant ∙ sym (flat_map-more f l.leaf))
