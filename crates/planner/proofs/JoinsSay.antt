-- What must precede is what some join says, and what orders of the kind Serialize say.
use Rattle.std.proofs.Common.{◌≡◌, ◌||◌, Bool, List, sym, ap, ◌∙◌}
use Rattle.std.specs.List.{list_any, flat_map}
use Rattle.std.proofs.lemmas.List.Folds.{list_any-append}
use Rattle.cluster_types.specs.declared.cluster.Cluster.{Cluster}
use Rattle.cluster_types.specs.declared.journal.Action.{Action}
use Rattle.cluster_types.specs.declared.leaf.Op.TheVariants as op
use Rattle.cluster_types.specs.declared.rules.Order.{Order}
use Rattle.cluster_types.specs.Precedence.{both, comes_first_in_cell, demotes_first, fences_first, gives_any, is_one_cell, is_ordered, is_serialized, migrates_first, must_precede, op_cell, parts_first, probe_cell, probes_first, stops_first}
use Rattle.planner.specs.Joins.{before_monitor, before_stop, by_leaf, colocation_joins, fence_cell, alone, is_joined, joins_of, order_joins, send_cell, take_cell, take_in_cell, same_join_cell}
use Rattle.planner.proofs.Tests.{any_either, any_flat, any_same}
use Rattle.planner.proofs.CaseJoins.{alone_joined, fences_joined, in_cell_joined, one_leaf_joined, taken_joined}
use Rattle.planner.proofs.RuleJoins.{order_joined, separation_joined}
use Rattle.planner.proofs.Regrouped.{regroup_by}

module _ (c : Cluster) (actions : List Action) (is_earlier : Action → Action → Bool) (x y : Action) where
  abbrev joined : Bool
  joined = list_any (is_joined c actions x y) (joins_of c)

  abbrev in_order : Bool
  in_order = list_any (λ (o : Order). is_serialized is_earlier o x y) c.orders

  by_colocations : list_any (λ col. parts_first col x y) c.colocations ≡ list_any (is_joined c actions x y) (flat_map colocation_joins c.colocations)
  by_colocations =
      any_same (λ col. parts_first col x y) (λ col. list_any (is_joined c actions x y) (colocation_joins col)) (separation_joined c actions x y) c.colocations
      ∙ sym (any_flat (is_joined c actions x y) colocation_joins c.colocations)

  by_orders : list_any (λ o. is_ordered actions o x y || is_serialized is_earlier o x y) c.orders
      ≡ (list_any (is_joined c actions x y) (flat_map order_joins c.orders) || in_order)
  by_orders =
      any_either (λ o. is_ordered actions o x y) (λ o. is_serialized is_earlier o x y) c.orders
      ∙ ap (λ v. v || in_order)
      (any_same (λ o. is_ordered actions o x y) (λ o. list_any (is_joined c actions x y) (order_joins o)) (λ o. order_joined c actions o x y) c.orders
      ∙ sym (any_flat (is_joined c actions x y) order_joins c.orders))

  pub joins-say : must_precede c actions is_earlier x y ≡ (joined || in_order)
  joins-say =
      rw (list_any-append (is_joined c actions x y) (flat_map colocation_joins c.colocations) (flat_map order_joins c.orders))
      (regroup_by (probes_first x y) (both is_one_cell (by_leaf (probe_cell x)) (by_leaf (gives_any y))) (stops_first c x y) (both is_one_cell (alone c (op_cell op.Stop x)) (alone c (op_cell op.Start y)))
      (fences_first x y) (both is_one_cell (fence_cell x) (same_join_cell (gives_any y))) (demotes_first x y) (both is_one_cell (by_leaf (take_cell x)) (by_leaf (op_cell op.Promote y)))
      (list_any (λ col. parts_first col x y) c.colocations) (list_any (is_joined c actions x y) (flat_map colocation_joins c.colocations))
      (list_any (λ o. is_ordered actions o x y || is_serialized is_earlier o x y) c.orders) (list_any (is_joined c actions x y) (flat_map order_joins c.orders)) in_order
      (comes_first_in_cell x y) (migrates_first x y) (both is_one_cell (before_stop x) (op_cell op.Stop y)) (both is_one_cell (op_cell op.Start x) (op_cell op.Promote y))
      (both is_one_cell (before_monitor x) (op_cell op.Monitor y)) (both is_one_cell (send_cell x) (take_in_cell y))
      (one_leaf_joined (probe_cell x) (gives_any y)) (alone_joined c (op_cell op.Stop x) (op_cell op.Start y)) (fences_joined x y)
      (taken_joined x (op_cell op.Promote y) ∙ one_leaf_joined (take_cell x) (op_cell op.Promote y)) by_colocations by_orders (in_cell_joined x y))
