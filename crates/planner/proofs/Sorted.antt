-- Planned actions that are sorted by their places are in the order of their numbers.
use Rattle.std.proofs.Common.{arith, ◌≡◌, ◌≢◌, ◌↔◌, ◌<◌, ◌||◌, ◌+◌, Bool, true, false, not, List, length, get_or, AllPairs, Contains, refl, sym, ap, subst, ◌∙◌}
use Rattle.std.specs.Cmp.{IsStrictWeakOrder}
use Rattle.std.specs.List.{IsDistinct}
use Rattle.std.specs.List.Sorted.{IsPermutation, IsSortedBy, IsSortedByKey}
use Rattle.std.proofs.lemmas.List.Elements.{Contains-get_or}
use Rattle.std.proofs.lemmas.List.Sorted.{Contains-permutation, IsPermutation-sym, list_any-IsPermutation, sorted_far}
use Rattle.std.proofs.lemmas.Map.Keys.{IsDistinct-IsPermutation, IsDistinct-from_apart, apart_from_distinct}
use Rattle.std.proofs.lemmas.Bool.{false_from_ne_true}
use Rattle.cluster_types.specs.declared.cluster.Cluster.{Cluster}
use Rattle.cluster_types.specs.declared.journal.Action.{Action}
use Rattle.cluster_types.specs.NeededActions.{Needed}
use Rattle.cluster_types.specs.Numbers.{AreNeeded, AreNumbered, is_earlier, action_place}
use Rattle.cluster_types.specs.Precedence.{sends}
use Rattle.cluster_types.specs.Tables.{targets_of}
use Rattle.cluster_types.specs.Valid.{IsValid}
use Rattle.cluster_types.proofs.NumberLaws.{not_both}
use Rattle.loops.specs.Ranks.{AreMigrating}
use Rattle.planner.specs.PlannedActions.{AreOfSomePlan}
use Rattle.planner.proofs.OwnPlaces.{own_place}
use Rattle.planner.proofs.PlaceOrder.{place_cmp, place_less}
use Rattle.planner.proofs.WeakOrder.{chain_places, one_first}

pub still_migrating : (xs ys : List Action) (flags : List Bool) → IsPermutation xs ys → AreMigrating xs flags → AreMigrating ys flags
still_migrating xs ys flags moved h = λ r. h r ∙ list_any-IsPermutation (sends r) xs ys moved

-- a list in an order has the same members in whatever order they stood
pub moved_members : (xs ys : List Action) → IsPermutation xs ys → (a : Action) → Contains xs a ↔ Contains ys a
moved_members xs ys moved a = (Contains-permutation xs ys a moved, Contains-permutation ys xs a (IsPermutation-sym xs ys moved))

either_way : (a b : Bool) → not (a || b) ≡ not (b || a)
either_way true true = refl
either_way true false = refl
either_way false true = refl
either_way false false = refl

the_one : (a b : Bool) → not (a || b) ≡ false → b ≡ false → a ≡ true
the_one true b h k = refl
the_one false b h k = cc

module _ (c : Cluster) (valid : IsValid c) (xs ys : List Action) (planned : AreOfSomePlan c xs) (moved : IsPermutation xs ys) where
  needed_by : (a : Action) → Contains ys a ↔ Needed c planned.events (targets_of planned.placed.table) a
  needed_by a =
      let same = moved_members xs ys moved a in
      let needed = planned.needed.needed a in
      (λ h. needed.0 (same.1 h), λ h. same.0 (needed.1 h))

  abbrev less : Action → Action → Bool
  less a b = is_earlier c ys a b

  less_weak : IsStrictWeakOrder less
  less_weak = record {
    one_way = λ x y h. false_from_ne_true (less y x) (not_both (action_place c ys x) (action_place c ys y) h);
    chain = λ x y z. chain_places (action_place c ys x) (action_place c ys y) (action_place c ys z);
  }

  abbrev ties : Action → Action → Bool
  ties a b = not (less a b || less b a)

  apart : (a b : Action) → Contains xs a → Contains xs b → a ≢ b → ties a b ≡ false
  apart a b h k differ =
      ap not (one_first (action_place c ys a) (action_place c ys b)
      (λ e. differ (own_place c planned.events planned.promotions planned.placed ys valid planned.goals needed_by a b ((planned.needed.needed a).0 h)
      ((planned.needed.needed b).0 k) e)))

  xs_apart : IsDistinct ties xs
  xs_apart = IsDistinct-from_apart ties xs (λ i j d l m. (
      let k : i < length xs = omega arith in
      apart (get_or xs i d) (get_or xs j d) (Contains-get_or xs i d k) (Contains-get_or xs j d m) (planned.needed.once i j d l m)))

  ys_apart : IsDistinct ties ys
  ys_apart = IsDistinct-IsPermutation ties (λ x y. either_way (less x y) (less y x)) xs ys moved xs_apart

  by_less : IsSortedByKey (action_place c ys) place_cmp ys → IsSortedBy less ys
  by_less h = λ k d l m. sym (place_less (action_place c ys (get_or ys (k + 1) d)) (action_place c ys (get_or ys k d))) ∙ h k d l m

  pub in_order : IsSortedByKey (action_place c ys) place_cmp ys → AllPairs (λ x y. is_earlier c ys x y ≡ true) ys
  in_order h = λ i j d l m.
      the_one (less (get_or ys i d) (get_or ys j d)) (less (get_or ys j d) (get_or ys i d)) (apart_from_distinct ties ys i j d ys_apart l m)
      (sorted_far less less_weak ys (by_less h) i j d (omega arith) m)

  -- the same actions, in the order of their numbers
  pub planned_still : AllPairs (λ x y. is_earlier c ys x y ≡ true) ys → AreOfSomePlan c ys
  planned_still up = record {
    events = planned.events;
    promotions = planned.promotions;
    placed = planned.placed;
    goals = planned.goals;
    needed = record {
      needed = needed_by;
      once = λ i j d l m e. (
          let itself = subst (λ v. is_earlier c ys v (get_or ys j d) ≡ true) e (up i j d l m) in
          not_both (action_place c ys (get_or ys j d)) (action_place c ys (get_or ys j d)) itself itself);
    };
  }

  pub numbered_by : (Needs : Action → Type 0) → AllPairs (λ x y. is_earlier c ys x y ≡ true) ys → AreNeeded Needs xs → AreNumbered c Needs ys
  numbered_by Needs up h = record {
    needed = λ a. (
        let same = moved_members xs ys moved a in
        let needed = h.needed a in
        (λ k. needed.0 (same.1 k), λ k. same.0 (needed.1 k)));
    in_order = up;
  }
