-- A valid cluster has a plan: what is placed, and the needed actions in the order of their numbers.
use Rattle.std.proofs.Common.{◌≡◌, ◌≢◌, get_or, Bool, true, false, List, refl, sym, ap, ◌∙◌, ◌⊎◌, AllPairs, Contains}
use Rattle.std.proofs.lemmas.Bool.{or_cases}
use Rattle.cluster_types.specs.declared.cluster.Cluster.{Cluster}
use Rattle.cluster_types.specs.declared.journal.Action.{Action}
use Rattle.cluster_types.specs.declared.journal.Event.{Event}
use Rattle.cluster_types.specs.declared.journal.Promotion.{Promotion}
use Rattle.cluster_types.specs.declared.placement.Placed.{Placed}
use Rattle.cluster_types.specs.NeededActions.{Needed}
use Rattle.cluster_types.specs.Numbers.{AreNeeded, ActionPlace, is_place_before, is_earlier, action_place}
use Rattle.cluster_types.specs.Plans.{IsPlan}
use Rattle.cluster_types.specs.Tables.{Targets, targets_of}
use Rattle.cluster_types.specs.Valid.{IsValid}
use Rattle.cluster_types.proofs.NumberLaws.{not_both, same_place}
use Rattle.planner.proofs.OwnPlaces.{own_place}
use Rattle.planner.proofs.WeakOrder.{chain_places, one_first}
use Rattle.plan_laws.proofs.SomePlacement.{is_placed, placed}
use Rattle.planner.proofs.SomeNeeded.{are_needed, needed_list}
use Rattle.planner.proofs.Sorting.{is_there, sorted, sorted_pairs, was_there}

-- lists with the same actions say alike of each action where it stands
module _ (c : Cluster) (xs ys : List Action) (there : (a : Action) → Contains xs a → Contains ys a) (back : (a : Action) → Contains ys a → Contains xs a) where
  pub earlier_alike : (a b : Action) → is_earlier c xs a b ≡ is_earlier c ys a b
  earlier_alike a b = ap (λ (p : ActionPlace). is_place_before p (action_place c xs b)) (same_place c xs ys there back a) ∙ ap (is_place_before (action_place c ys a)) (same_place c xs ys there back b)

-- places come one behind the other
chained : (p q r : ActionPlace) → is_place_before p q ≡ true → is_place_before q r ≡ true → is_place_before p r ≡ true
chained p q r h k = on (is_place_before p r) (is_place_before r q) refl refl where
  on : (a b : Bool) → is_place_before p r ≡ a → is_place_before r q ≡ b → is_place_before p r ≡ true
  on true b e f = e
  on false true e f = absurd (not_both q r k f)
  on false false e f = let g : is_place_before p q ≡ false = chain_places p r q e f in cc

module _ (c : Cluster) (valid : IsValid c) (es : List Event) (ps : List Promotion) where
  abbrev pub goals : Placed
  goals = placed c es ps

  abbrev targets : Targets
  targets = targets_of (placed c es ps).table

  abbrev listed : List Action
  listed = needed_list c valid es ps targets

  needed : AreNeeded (Needed c es targets) listed
  needed = are_needed c valid es ps targets

  abbrev less : Action → Action → Bool
  less = is_earlier c listed

  either : (x y : Action) → Contains listed x → Contains listed y → x ≢ y → (less x y ≡ true) ⊎ (less y x ≡ true)
  either x y h k differ =
      or_cases (less x y) (less y x) (one_first (action_place c listed x) (action_place c listed y)
      (λ same. differ (own_place c es ps (placed c es ps) listed valid (is_placed c es ps) needed.needed x y ((needed.needed x).0 h) ((needed.needed y).0 k) same)))

  abbrev pub actions : List Action
  actions = sorted less listed

  in_order : AllPairs (λ x y. less x y ≡ true) actions
  in_order = sorted_pairs less (λ x y z. chained (action_place c listed x) (action_place c listed y) (action_place c listed z)) listed needed.once either

  pub is_plan : IsPlan c es ps goals actions
  is_plan = record {
    goals = is_placed c es ps;
    numbered = record {
      needed = λ a. (
        λ h. (needed.needed a).0 (was_there less listed a h),
        λ h. is_there less listed a ((needed.needed a).1 h),
      );
      in_order = λ i j d l m. sym (earlier_alike c listed actions (is_there less listed) (was_there less listed) (get_or actions i d) (get_or actions j d)) ∙ in_order i j d l m;
    };
  }
