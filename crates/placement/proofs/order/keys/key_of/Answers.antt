use Rattle.std.proofs.Common.{rules, filter, length, map, ap, ◌∙◌, arith}
use Rattle.std.specs.List.{range_with_len}
use Rattle.lemmas.proofs.Ranges.{filter-same}
use Rattle.cluster_types.specs.Decisions.{greatest_of}
use Rattle.cluster_types.specs.Fields.{priority}
use Rattle.score.specs.NodeSet.{has}
use Rattle.placement.specs.Scores.{score_in}
use Rattle.placement.specs.UsableNodes.{is_usable_by}
use Rattle.placement.specs.Inner.DecisionLists.{is_active_by_cell}
use Rattle.placement.proofs.order.keys.key_of.Goals as goal

pub returns : goal.returns
returns c =
    let cluster = c.args.cluster.now in
    let states = c.args.states.now in
    let f = score_in c.args.scores.now c.args.decision in
    let rank = c.priority.ensures ∙ ap (priority cluster) c.leaf.ensures in
    let active = c.greatest_among.ensures
    ∙ (ap (λ k. greatest_of (map f (filter (has c.of-active.result) (range_with_len 0 k)))) c.len-nodes.ensures
    ∙ ap (λ ns. greatest_of (map f ns)) (filter-same (has c.of-active.result) (is_active_by_cell cluster states c.args.decision) (length cluster.nodes)
    (λ n low. let passed = c.of-active.ensures.passed n (omega (arith, low, c.len-nodes.ensures)) in search rules))) in
    let usable = c.greatest_among-2.ensures
    ∙ (ap (λ k. greatest_of (map f (filter (has c.args.usable.now) (range_with_len 0 k)))) c.len-nodes.ensures
    ∙ ap (λ ns. greatest_of (map f ns)) (filter-same (has c.args.usable.now) (is_usable_by cluster states) (length cluster.nodes) (λ n low. c.requires.usable n))) in
    λ i. record { priority = rank i; active = active i; usable = usable i }
