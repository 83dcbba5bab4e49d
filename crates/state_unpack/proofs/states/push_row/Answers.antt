use Rattle.std.proofs.Common.{rules, ◌≡◌, ◌++◌, ◌∷◌, [], ℕ, map, unwrap_or, sym, ap, ◌∙◌, append_assoc}
use Rattle.std.specs.List.{range_with_len}
use Rattle.lemmas.proofs.Ranges.{map-more}
use Rattle.cluster_types.specs.NodeStates.{is_online_in}
use Rattle.state_unpack.specs.Inner.CellsKept.{cell_from}
use Rattle.state_unpack.specs.Inner.Facts.{no_facts}
use Rattle.state_unpack.specs.KeptCells.{cell_in}
use Rattle.state_unpack.proofs.states.push_row.Goals as goal

pub loop-place-preserved : goal.loop-place-preserved
loop-place-preserved c =
    let l = c.loop-place in
    let cluster = c.args.cluster.now in
    let leaf = c.args.leaf in
    let old = c.args.known.now.items in
    let f = λ (n : ℕ). cell_from cluster leaf c.args.now c.is_fatal-fatal.result (is_online_in c.args.nodes.now n) (unwrap_or (cell_in cluster c.args.cells.now leaf n) no_facts) in
    let so_far = map f (range_with_len 0 l.place) in
    let items : c.push.new.self.items ≡ l.known.items ++ f l.place ∷ [] = search rules in
    items ∙ (ap (λ xs. xs ++ f l.place ∷ []) l.invariant ∙ (append_assoc old so_far (f l.place ∷ []) ∙ ap (λ xs. old ++ xs) (sym (map-more f l.place))))
