-- In a plan what must precede has the lower number.
use Rattle.std.proofs.Common.{arith, ◌≡◌, ◌<◌, ◌==◌, ◌-◌, nat_lt, if◌then◌else◌, ℕ, Bool, true, false, List, length, get_or, slice_get, Contains, refl, subst}
use Rattle.std.specs.Prelude.{Option, Some, None}
use Rattle.std.proofs.lemmas.Bool.{both_ways}
use Rattle.std.proofs.lemmas.Option.{get_or_from_slice_get, slice_get_within}
use Rattle.cluster_types.specs.declared.cluster.Cluster.{Cluster}
use Rattle.cluster_types.specs.declared.journal.Action.{Action}
use Rattle.cluster_types.specs.declared.journal.Event.{Event}
use Rattle.cluster_types.specs.declared.journal.Promotion.{Promotion}
use Rattle.cluster_types.specs.declared.leaf.Role.TheVariants as role
use Rattle.cluster_types.specs.declared.placement.Placed.{Placed}
use Rattle.cluster_types.specs.Fields.{is_promotable}
use Rattle.cluster_types.specs.Numbers.{is_earlier, action_place}
use Rattle.cluster_types.specs.Plans.{IsPlaced, IsPlan, precedes_by_number}
use Rattle.cluster_types.specs.Precedence.{must_precede}
use Rattle.cluster_types.specs.Steps.{numbered}
use Rattle.cluster_types.specs.Tables.{holds_role, targets_of}
use Rattle.cluster_types.specs.Valid.{IsValid}
use Rattle.cluster_types.proofs.NumberLaws.{not_both}
use Rattle.plan_laws.proofs.ChosenTargets.{was_chosen}
use Rattle.plan_laws.proofs.PromotableTargets.{promoted_is_promotable}
use Rattle.plan_laws.proofs.Upward.{pairs_upward}

-- only a promotable leaf is to be promoted
pub promotable_target : (c : Cluster) (es : List Event) (ps : List Promotion) (placed : Placed) → IsPlaced c es ps placed → (r n : ℕ) → r < length c.leaves → n < length c.nodes
    → holds_role (targets_of placed.table) r role.Promoted n ≡ true → is_promotable c r ≡ true
promotable_target c es ps placed is r n low within h =
    promoted_is_promotable c es ps is.decisions is.in_order r n (was_chosen c es ps placed is r n role.Promoted low within h)

-- the action of a number stands in the list, one place below
pub record OneBelow (actions : List Action) (k : ℕ) (a : Action) : Type 0 where
  pub positive : 0 < k
  pub at : slice_get actions (k - 1) ≡ Some a

pub one_below : (actions : List Action) (k : ℕ) (a : Action) → numbered actions k ≡ Some a → OneBelow actions k a
one_below actions k a h = by (k == 0) refl h
  where
    by : (b : Bool) → (k == 0) ≡ b → (if b then None else slice_get actions (k - 1)) ≡ Some a → OneBelow actions k a
    by true e h = absurd (let f : ⊥ = cc in f)
    by false e h = record { positive = grind arith; at = h }

module _ (c : Cluster) (es : List Event) (ps : List Promotion) (placed : Placed) (actions : List Action) (valid : IsValid c) (plan : IsPlan c es ps placed actions) where
  -- of two actions in the list the one that is earlier stands first
  stands_first : (i j : ℕ) (x y : Action) → slice_get actions i ≡ Some x → slice_get actions j ≡ Some y → is_earlier c actions x y ≡ true → i < j
  stands_first i j x y at_i at_j earlier = by (nat_lt i j) (nat_lt j i) refl refl
    where
      at_x : get_or actions i x ≡ x
      at_x = get_or_from_slice_get actions i x x at_i

      at_y : get_or actions j x ≡ y
      at_y = get_or_from_slice_get actions j y x at_j

      back : j < i → is_earlier c actions y x ≡ true
      back less =
          let h : is_earlier c actions (get_or actions j x) (get_or actions i x) ≡ true = plan.numbered.in_order j i x less (slice_get_within actions i x at_i) in
          subst (λ z. is_earlier c actions y z ≡ true) at_x (subst (λ z. is_earlier c actions z (get_or actions i x) ≡ true) at_y h)

      by : (less more : Bool) → nat_lt i j ≡ less → nat_lt j i ≡ more → i < j
      by true more l m = grind arith
      by false true l m = absurd (not_both (action_place c actions x) (action_place c actions y) earlier (back (grind arith)))
      by false false l m =
          let same : i ≡ j = grind arith in
          let one : x ≡ y = (let g : slice_get actions j ≡ Some x = subst (λ z. slice_get actions z ≡ Some x) same at_i in cc) in
          let itself : is_earlier c actions y y ≡ true = subst (λ z. is_earlier c actions z y ≡ true) one earlier in
          absurd (not_both (action_place c actions y) (action_place c actions y) itself itself)

  lower : (j k : ℕ) (x y : Action) → OneBelow actions j x → OneBelow actions k y → must_precede c actions (is_earlier c actions) x y ≡ true → j < k
  lower j k x y one other h =
      let in_x : Contains actions x = (_, slice_get_within actions (j - 1) x one.at, get_or_from_slice_get actions (j - 1) x x one.at) in
      let in_y : Contains actions y = (_, slice_get_within actions (k - 1) y other.at, get_or_from_slice_get actions (k - 1) y y other.at) in
      let earlier = pairs_upward c es (targets_of placed.table) actions valid (promotable_target c es ps placed plan.goals) plan.numbered.needed x y in_x in_y h in
      let first = stands_first (j - 1) (k - 1) x y one.at other.at earlier in
      let low = one.positive in
      omega (arith, first, low)

  pub lower_number : (j k : ℕ) → precedes_by_number c actions (numbered actions j) (numbered actions k) ≡ true → j < k
  lower_number j k h = by (numbered actions j) refl (numbered actions k) refl h
    where
      by : (o : Option Action) → numbered actions j ≡ o → (p : Option Action) → numbered actions k ≡ p → precedes_by_number c actions o p ≡ true → j < k
      by (Some x) e (Some y) f h = lower j k x y (one_below actions j x e) (one_below actions k y f) h
      by (Some x) e None f h = absurd (both_ways false refl h)
      by None e p f h = absurd (both_ways false refl h)
