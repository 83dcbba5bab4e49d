use Rattle.std.proofs.Common.{rules, slice_index_or}
use Rattle.std.proofs.lemmas.List.Sorted.{IsNonDecreasingBy-from_sort_by_key}
use Rattle.edges.specs.declared.edge.Edge.{Edge}
use Rattle.placement.proofs.chain_order.sort_by_height.Goals as goal

pub returns-clause-sorted : goal.returns-clause-sorted
returns-clause-sorted c =
    IsNonDecreasingBy-from_sort_by_key (λ (edge : Edge). slice_index_or c.args.heights.now edge.after 0) _ c.in_ok-sort_by_key.ensures.sorted
    (λ a r q k. search rules)
