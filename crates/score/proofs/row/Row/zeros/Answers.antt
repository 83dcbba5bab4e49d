use Rattle.std.proofs.Common.{[], ◌∙◌}
use Rattle.std.proofs.lemmas.List.{length-replicate}
use Rattle.score.proofs.RowLaws.{stands_length, zeros_stand, zeros_finite}
use Rattle.score.proofs.row.Row.zeros.Goals as goal

pub returns-clause-terms : goal.returns-clause-terms
returns-clause-terms c =
    let minus = c.in_ok-minus.ensures.items_if_clones_equal (λ y same. same) in
    let plus = c.in_ok-plus.ensures.items_if_clones_equal (λ y same. same) in
    let sums = c.in_ok-sums.ensures.items_if_clones_equal (λ y same. same) in
    rw (minus, plus, sums) (zeros_stand c.args.nodes)

pub returns-clause-finite : goal.returns-clause-finite
returns-clause-finite c =
    let minus = c.in_ok-minus.ensures.items_if_clones_equal (λ y same. same) in
    let plus = c.in_ok-plus.ensures.items_if_clones_equal (λ y same. same) in
    let sums = c.in_ok-sums.ensures.items_if_clones_equal (λ y same. same) in
    rw (minus, plus, sums) (zeros_finite c.args.nodes)

pub returns-clause-nodes : goal.returns-clause-nodes
returns-clause-nodes c =
    let minus = c.in_ok-minus.ensures.items_if_clones_equal (λ y same. same) in
    let plus = c.in_ok-plus.ensures.items_if_clones_equal (λ y same. same) in
    let sums = c.in_ok-sums.ensures.items_if_clones_equal (λ y same. same) in
    rw (minus, plus, sums) (stands_length _ _ (zeros_stand c.args.nodes) ∙ length-replicate c.args.nodes [])
