use Rattle.std.proofs.Common.{rules, ◌++◌, ℕ, ℤ, List, ap, sym, subst, ◌∙◌, length, map}
use Rattle.std.specs.List.{range_with_len}
use Rattle.lemmas.proofs.Ranges.{flat_map-more}
use Rattle.placement.specs.Promotions.{AreSaid}
use Rattle.placement.specs.Inner.ScoresByStates.{promote_by}
use Rattle.placement.proofs.totals.table.promote_totals.Goals as goal

pub push_promotes-requires-clause-said : goal.push_promotes-requires-clause-said
push_promotes-requires-clause-said c =
    let said : AreSaid c.args.cluster.now c.args.states.now.promotions c.in_ok-said.said.items = search rules in
    subst (AreSaid c.args.cluster.now c.args.states.now.promotions) (sym c.deref.ensures.value) said

pub loop-leaf-preserved : goal.loop-leaf-preserved
loop-leaf-preserved c =
    let l = c.loop-leaf in
    let cluster = c.args.cluster.now in
    let row : ℕ → List ℤ = λ r. map (promote_by cluster c.args.states.now r) (range_with_len 0 (length cluster.nodes)) in
    c.in_ok-push_promotes.ensures ∙ (ap (λ xs. xs ++ row l.leaf) l.invariant ∙ sym (flat_map-more row l.leaf))
