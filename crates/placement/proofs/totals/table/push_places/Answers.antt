use Rattle.std.proofs.Common.{rules, ◌≡◌, ◌++◌, ℕ, ℤ, List, ap, sym, subst, ◌∙◌, length, map}
use Rattle.std.specs.List.{range_with_len}
use Rattle.placement.specs.Inner.LendingRows.{all_joined}
use Rattle.placement.specs.Inner.OwnRows.{terms_by}
use Rattle.placement.specs.Rows.{IsRow}
use Rattle.placement.specs.Inner.ScoresByStates.{place_by}
use Rattle.placement.proofs.TermRows.{row-length}
use Rattle.placement.proofs.totals.table.push_places.Goals as goal

pub totals_of-requires : goal.totals_of-requires
totals_of-requires c =
    let own = c.args.own.now in
    row-length (length own.cluster.now.nodes) _ c.in_ok-row.row c.in_ok-row.ensures ∙ sym c.len.ensures

pub returns : goal.returns
returns c =
    let cluster = c.args.own.now.cluster.now in
    let states = c.args.own.now.states.now in
    let terms : ℕ → List ℤ = terms_by cluster states (all_joined cluster states c.args.leaf) in
    let of_leaf = c.in_ok-of_leaf.of_leaf.items in
    let is : of_leaf ≡ map (place_by cluster states c.args.leaf) (range_with_len 0 (length cluster.nodes)) =
    c.in_ok-of_leaf.ensures.totals terms (subst (λ k. IsRow k terms c.in_ok-row.row) (sym c.len.ensures) c.in_ok-row.ensures)
    ∙ ap (λ k. map (place_by cluster states c.args.leaf) (range_with_len 0 k)) c.len.ensures in
    let more : c.extend_from_slice.new.self.items ≡ c.args.all.now.items ++ of_leaf = search rules in
    more ∙ ap (λ xs. c.args.all.now.items ++ xs) is
