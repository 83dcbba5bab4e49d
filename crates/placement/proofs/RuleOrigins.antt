-- Where dependencies come from: the mandatory colocations and orders whose dependent isn't pinned.
use Rattle.std.proofs.Common.{◌≡◌, Bool, true, false, if◌then◌else◌, Option, Some, None, List, [], ◌∷◌, inl, inr, refl, sym, ◌∙◌, Contains, length, map}
use Rattle.std.specs.List.{range_with_len}
use Rattle.std.proofs.lemmas.List.Elements.{Contains-append_left, Contains-append_right, Contains-append_cases}
use Rattle.lemmas.proofs.Members.{Flat, at_head, head_or_rest, in_flat, in_none, of_flat}
use Rattle.cluster_types.specs.declared.cluster.Cluster.{Cluster}
use Rattle.cluster_types.specs.declared.journal.Event.{Event}
use Rattle.cluster_types.specs.declared.placement.Pin.{Pin}
use Rattle.cluster_types.specs.declared.rules.Colocation.{Colocation}
use Rattle.cluster_types.specs.declared.rules.Order.{Order}
use Rattle.cluster_types.specs.Choice.{is_mandatory}
use Rattle.cluster_types.specs.Pins.{is_pinned, is_pinned_in, pin_of}
use Rattle.placement.specs.declared.held_targets.dependencies.Dependency.{Dependency}
use Rattle.placement.specs.Inner.Dependencies.{by_colocations, by_orders, dependencies_by, free_of, from_colocation, from_order, may_hold_back, of_colocation, of_order}
use Rattle.cluster_types.proofs.PinnedLeaves.{pin_known}

module _ (c : Cluster) (es : List Event) (pins : List (Option Pin)) (are : pins ≡ map (pin_of c es) (range_with_len 0 (length c.leaves))) where
  pub data Origin (rule : Dependency) : Type 0 where
    a_colocation : (col : Colocation) → Contains c.colocations col → is_mandatory col ≡ true → is_pinned c es col.dependent ≡ false
        → from_colocation col ≡ rule → Origin rule
    an_order : (o : Order) → Contains c.orders o → may_hold_back o ≡ true → is_pinned c es o.then_leaf ≡ false → from_order o ≡ rule → Origin rule

  -- of a list that has a rule just when its dependent is free
  free_one : (made rule : Dependency) → Contains (free_of pins (Some made)) rule → (made ≡ rule) × (is_pinned c es made.dependent ≡ false)
  free_one made rule h = go (is_pinned_in pins made.dependent) refl h
    where
      one : Contains (made ∷ []) rule → made ≡ rule
      one h = elim (head_or_rest made [] rule h) [
        | inl same ↦ same
        | inr rest ↦ absurd (in_none rule rest)
      ]

      go : (b : Bool) → is_pinned_in pins made.dependent ≡ b → Contains (if b then [] else made ∷ []) rule
          → (made ≡ rule) × (is_pinned c es made.dependent ≡ false)
      go true e h = absurd (in_none rule h)
      go false e h = (one h, sym (pin_known c es pins are made.dependent) ∙ e)

  of_colocations : (rule : Dependency) → Contains (by_colocations c pins c.colocations) rule → Origin rule
  of_colocations rule h = at (of_flat (λ col. free_of pins (of_colocation col)) c.colocations rule h)
    where
      from : (col : Colocation) (b : Bool) → is_mandatory col ≡ b → Contains c.colocations col
          → Contains (free_of pins (if b then Some (from_colocation col) else None)) rule → Origin rule
      from col true e among h = let (same, free) = free_one (from_colocation col) rule h in a_colocation col among e free same
      from col false e among h = absurd (in_none rule h)

      at : Flat (λ col. free_of pins (of_colocation col)) c.colocations rule → Origin rule
      at f = from f.source (is_mandatory f.source) refl f.among f.gives

  of_orders : (rule : Dependency) → Contains (by_orders c pins c.orders) rule → Origin rule
  of_orders rule h = at (of_flat (λ o. free_of pins (of_order o)) c.orders rule h)
    where
      from : (o : Order) (b : Bool) → may_hold_back o ≡ b → Contains c.orders o → Contains (free_of pins (if b then Some (from_order o) else None)) rule
          → Origin rule
      from o true e among h = let (same, free) = free_one (from_order o) rule h in an_order o among e free same
      from o false e among h = absurd (in_none rule h)

      at : Flat (λ o. free_of pins (of_order o)) c.orders rule → Origin rule
      at f = from f.source (may_hold_back f.source) refl f.among f.gives

  pub origin : (rule : Dependency) → Contains (dependencies_by c pins) rule → Origin rule
  origin rule h = elim (Contains-append_cases (by_colocations c pins c.colocations) (by_orders c pins c.orders) rule h) [
    | inl here ↦ of_colocations rule here
    | inr there ↦ of_orders rule there
  ]

  free_there : (made : Dependency) → is_pinned c es made.dependent ≡ false → Contains (free_of pins (Some made)) made
  free_there made free =
      let unlisted : is_pinned_in pins made.dependent ≡ false = pin_known c es pins are made.dependent ∙ free in
      rw unlisted (at_head made [] made refl)

  -- and each of these is there
  pub colocation_there : (col : Colocation) → Contains c.colocations col → is_mandatory col ≡ true → is_pinned c es col.dependent ≡ false
      → Contains (dependencies_by c pins) (from_colocation col)
  colocation_there col among mandatory free =
      let made : Contains (free_of pins (of_colocation col)) (from_colocation col) = rw mandatory (free_there (from_colocation col) free) in
      Contains-append_left (by_colocations c pins c.colocations) (by_orders c pins c.orders) (from_colocation col)
      (in_flat (λ col. free_of pins (of_colocation col)) c.colocations col (from_colocation col) among made)

  pub order_there : (o : Order) → Contains c.orders o → may_hold_back o ≡ true → is_pinned c es o.then_leaf ≡ false
      → Contains (dependencies_by c pins) (from_order o)
  order_there o among holds free =
      let made : Contains (free_of pins (of_order o)) (from_order o) = rw holds (free_there (from_order o) free) in
      Contains-append_right (by_colocations c pins c.colocations) (by_orders c pins c.orders) (from_order o)
      (in_flat (λ o. free_of pins (of_order o)) c.orders o (from_order o) among made)
