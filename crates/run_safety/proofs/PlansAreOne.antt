-- A journal has one plan, since it has one placement and a placement one list of actions.
use Rattle.std.proofs.Common.{List, ap}
use Rattle.cluster_types.specs.declared.cluster.Cluster.{Cluster}
use Rattle.cluster_types.specs.declared.journal.Promotion.{Promotion}
use Rattle.cluster_types.specs.declared.placement.Placed.{Placed}
use Rattle.plan_laws.proofs.OnePlan.{one_list, one_placed}
use Rattle.run_safety.specs.OnePlan.{PlansAreOne}

module _ (c : Cluster) (promotions : List Promotion) where
  pub plans_one : PlansAreOne c promotions
  plans_one = record {
    pins = λ es p q a b one two. ap (λ (z : Placed). z.pins) (one_placed c es promotions p q a b one two);
    tables = λ es p q a b one two. ap (λ (z : Placed). z.table) (one_placed c es promotions p q a b one two);
    reasons = λ es p q a b one two. ap (λ (z : Placed). z.none) (one_placed c es promotions p q a b one two);
    actions = λ es p q a b one two. one_list c es promotions p q a b one two;
  }
