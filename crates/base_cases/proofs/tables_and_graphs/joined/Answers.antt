use Rattle.base_cases.proofs.SmallGraph.{small_is_graph}
use Rattle.base_cases.proofs.tables_and_graphs.joined.Goals as goal

pub new-requires : goal.new-requires
new-requires c =
    rw (c.in_ok-actions.ensures.items_if_clones_equal (λ x y h. h)) (rw c.from.ensures (rw (c.in_ok-list.ensures.items_if_clones_equal (λ x y h. h))
    (rw (c.probe.ensures, c.probe-2.ensures, c.probe-3.ensures, c.probe-4.ensures, c.edge.ensures, c.edge-2.ensures, c.edge-3.ensures, c.edge-4.ensures, c.edge-5.ensures) small_is_graph)))
