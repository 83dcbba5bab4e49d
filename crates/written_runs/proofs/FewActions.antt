-- A plan has fewer actions than a number of 32 bits counts.
use Rattle.std.proofs.Common.{arith, ◌≡◌, ◌≢◌, ◌<◌, ◌^◌, true, List, length, get_or, AllPairs, sym, subst}
use Rattle.cluster_types.specs.declared.cluster.Cluster.{Cluster}
use Rattle.cluster_types.specs.declared.journal.Action.{Action}
use Rattle.cluster_types.specs.declared.journal.Event.{Event}
use Rattle.cluster_types.specs.declared.journal.Promotion.{Promotion}
use Rattle.cluster_types.specs.declared.placement.Placed.{Placed}
use Rattle.cluster_types.specs.Numbers.{is_earlier, action_place}
use Rattle.cluster_types.specs.Plans.{IsPlan}
use Rattle.cluster_types.specs.Valid.{IsValid}
use Rattle.cluster_types.proofs.NumberLaws.{not_both}
use Rattle.planner.specs.PlannedActions.{AreOfSomePlan}
use Rattle.planner.proofs.Few.{few_edges}

-- in the order of their numbers no action comes twice
each_once : (c : Cluster) (actions : List Action) → AllPairs (λ x y. is_earlier c actions x y ≡ true) actions → AllPairs (λ x y. x ≢ y) actions
each_once c actions in_order i j d l m same =
    let one = get_or actions i d in
    let before = in_order i j d l m in
    let itself : is_earlier c actions one one ≡ true = subst (λ (z : Action). is_earlier c actions one z ≡ true) (sym same) before in
    not_both (action_place c actions one) (action_place c actions one) itself itself

pub few_planned : (c : Cluster) (es : List Event) (promotions : List Promotion) (placed : Placed) (actions : List Action) → IsValid c → IsPlan c es promotions placed actions
    → length actions < 2 ^ 32
few_planned c es promotions placed actions valid plan =
    let planned : AreOfSomePlan c actions = record {
      events = es;
      promotions = promotions;
      placed = placed;
      goals = plan.goals;
      needed = record { needed = plan.numbered.needed; once = each_once c actions plan.numbered.in_order };
    } in
    let few = few_edges c actions valid planned in
    omega arith
