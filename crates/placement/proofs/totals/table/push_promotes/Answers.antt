use Rattle.std.proofs.Common.{rules, ◌≡◌, ◌++◌, ℕ, ℤ, List, ap, sym, subst, ◌∙◌, length, map}
use Rattle.std.specs.List.{range_with_len}
use Rattle.placement.specs.Inner.Promotions.{wished_by}
use Rattle.placement.specs.Rows.{IsRow}
use Rattle.placement.specs.Inner.ScoresByStates.{promote_by}
use Rattle.placement.proofs.TermRows.{row-length}
use Rattle.placement.proofs.totals.table.push_promotes.Goals as goal

pub totals_of-requires : goal.totals_of-requires
totals_of-requires c =
    row-length (length c.args.cluster.now.nodes) _ c.in_ok-row.row (c.in_ok-row.ensures c.args.states.now.promotions c.requires.said) ∙ sym c.len.ensures

pub returns : goal.returns
returns c =
    let cluster = c.args.cluster.now in
    let states = c.args.states.now in
    let terms : ℕ → List ℤ = wished_by cluster states.moment states.promotions c.args.leaf in
    let made : IsRow (length cluster.nodes) terms c.in_ok-row.row = c.in_ok-row.ensures states.promotions c.requires.said in
    let of_leaf = c.in_ok-of_leaf.of_leaf.items in
    let is : of_leaf ≡ map (promote_by cluster states c.args.leaf) (range_with_len 0 (length cluster.nodes)) =
    c.in_ok-of_leaf.ensures.totals terms (subst (λ k. IsRow k terms c.in_ok-row.row) (sym c.len.ensures) made)
    ∙ ap (λ k. map (promote_by cluster states c.args.leaf) (range_with_len 0 k)) c.len.ensures in
    let more : c.extend_from_slice.new.self.items ≡ c.args.all.now.items ++ of_leaf = search rules in
    more ∙ ap (λ xs. c.args.all.now.items ++ xs) is
