use Rattle.std.proofs.lemmas.Result.{IfOk-at_ok}
use Rattle.run_cases.proofs.RisingGraph.{small_is_graph}
use Rattle.run_cases.proofs.waiting_orders.joined.Goals as goal

pub new-requires : goal.new-requires
new-requires g c =
    rw (IfOk-at_ok _ c.expect-actions.ensures c.to_vec.ensures.items_if_clones_equal (λ x y h. h)) (rw c.from.ensures
    (rw (IfOk-at_ok _ c.expect-list.ensures c.to_vec-2.ensures.items_if_clones_equal (λ x y h. h)) small_is_graph))
