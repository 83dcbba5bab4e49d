use Rattle.std.proofs.Common.{◌++◌, ℕ, ℤ, List, ap, sym, ◌∙◌, length, map}
use Rattle.std.specs.List.{range_with_len}
use Rattle.lemmas.proofs.Ranges.{flat_map-more}
use Rattle.placement.specs.Inner.ScoresByStates.{place_by}
use Rattle.placement.proofs.totals.table.place_totals.Goals as goal

pub loop-leaf-preserved : goal.loop-leaf-preserved
loop-leaf-preserved c =
    let l = c.loop-leaf in
    let own = c.args.own.now in
    let row : ℕ → List ℤ = λ r. map (place_by own.cluster.now own.states.now r) (range_with_len 0 (length own.cluster.now.nodes)) in
    c.in_ok-push_places.ensures ∙ (ap (λ xs. xs ++ row l.leaf) l.invariant ∙ sym (flat_map-more row l.leaf))
