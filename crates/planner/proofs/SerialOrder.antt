-- The positions of an order of the kind Serialize, ascending, are in the order of numbers where the actions are, and few.
use Rattle.std.proofs.Common.{arith, ◌≡◌, ◌<◌, ◌==◌, if◌then◌else◌, ℕ, Bool, true, false, Option, Some, None, List, length, get_or, All, AllPairs, Contains, refl, sym, ap, subst, ◌∙◌}
use Rattle.std.specs.List.{slice_get}
use Rattle.std.specs.Option.{option_map_or}
use Rattle.std.proofs.lemmas.List.Elements.{All-from_get_or, Contains-get_or}
use Rattle.std.proofs.lemmas.List.Kept.{AllPairs-from_increasing}
use Rattle.std.proofs.lemmas.Option.{slice_get-get_or}
use Rattle.cluster_types.specs.declared.cluster.Cluster.{Cluster}
use Rattle.cluster_types.specs.declared.journal.Action.{Action}
use Rattle.cluster_types.specs.declared.journal.Action.TheVariants.{Fence, Probe, Operation, MigrateTo, MigrateFrom}
use Rattle.cluster_types.specs.declared.leaf.Op.TheVariants as op
use Rattle.cluster_types.specs.declared.rules.Order.{Order}
use Rattle.cluster_types.specs.Precedence.{cell_of, step_cell}
use Rattle.planner.specs.Chains.{earlier_of, is_earlier_at, is_cell_on}
use Rattle.planner.specs.Inner.Index.{IsIndex, places_in}
use Rattle.planner.specs.Joins.{in_leaf}
use Rattle.planner.specs.Inner.Places.{is_of_leaf, leaf_places, rule_places}
use Rattle.planner.specs.Inner.Serials.{AreAscending, AreSerials}
use Rattle.planner.proofs.Counts.{rule_few}
use Rattle.planner.proofs.IndexPlaces.{index_is}
use Rattle.planner.proofs.JoinFits.{leaf_there, one_there, other_there, rule_within}

-- an action that changes a cell of the leaf is of the leaf
its_leaf : (r s n m : ℕ) (local : Bool) → is_cell_on m (in_leaf r local (cell_of s n)) ≡ true → (s == r) ≡ true
its_leaf r s n m local h = on (s == r) h
  where
    on : (b : Bool) → is_cell_on m (if b then cell_of 0 (if local then n else 0) else None) ≡ true → b ≡ true
    on true e = refl
    on false e = cc

changes_leaf : (r m : ℕ) (local : Bool) (a : Action) → is_cell_on m (in_leaf r local (step_cell a)) ≡ true → is_of_leaf r a ≡ true
changes_leaf r m local (Fence n) h = cc
changes_leaf r m local (Probe s n) h = cc
changes_leaf r m local (Operation op.Start s n i role) h = its_leaf r s n m local h
changes_leaf r m local (Operation op.Stop s n i role) h = its_leaf r s n m local h
changes_leaf r m local (Operation op.Promote s n i role) h = its_leaf r s n m local h
changes_leaf r m local (Operation op.Demote s n i role) h = its_leaf r s n m local h
changes_leaf r m local (Operation op.Monitor s n i role) h = cc
changes_leaf r m local (MigrateTo s f t) h = cc
changes_leaf r m local (MigrateFrom s f t) h = cc

abbrev none : Action
none = Fence 0

module _ (c : Cluster) (actions : List Action) (earlier : Action → Action → Bool) (up : AllPairs (λ x y. earlier x y ≡ true) actions) (o : Order)
    (index : List (List ℕ)) (places : List ℕ) (indexed : IsIndex actions (length c.leaves) index) (first : o.first < length c.leaves)
    (then_leaf : o.then_leaf < length c.leaves) (rise : AreAscending (places_in index o.first o.then_leaf) places) where
  index_has : places_in index o.first o.then_leaf ≡ rule_places actions o.first o.then_leaf
  index_has = index_is actions (length c.leaves) index o.first o.then_leaf indexed first then_leaf

  place_within : (p : ℕ) → Contains places p → p < length actions
  place_within p h = rule_within c actions o.first o.then_leaf p (subst (λ v. Contains v p) index_has ((rise.same p).1 h))

  earlier_at : (x y : ℕ) → x < y → y < length actions → is_earlier_at actions earlier x y ≡ true
  earlier_at x y less l =
      let k : x < length actions = omega arith in
      ap (λ v. earlier_of actions earlier v (slice_get actions y)) (slice_get-get_or actions x none k)
      ∙ (ap (λ v. earlier_of actions earlier (Some (get_or actions x none)) v) (slice_get-get_or actions y none l)
      ∙ up x y none less l)

  in_order : AllPairs (λ x y. is_earlier_at actions earlier x y ≡ true) places
  in_order i j d less l =
      earlier_at (get_or places i d) (get_or places j d) (AllPairs-from_increasing places rise.ascending i j d less l)
      (place_within (get_or places j d) (Contains-get_or places j d l))

  all_within : All (λ place. place < length actions) places
  all_within = All-from_get_or (λ place. place < length actions) places 0 (λ i l. place_within _ (Contains-get_or places i 0 l))

  -- each action of one of the two leaves is among them
  leaf_at : (r m i : ℕ) (local : Bool) (v : Option Action) → slice_get actions i ≡ v
      → option_map_or (λ a. is_cell_on m (in_leaf r local (step_cell a))) v false ≡ true → i < length actions → is_of_leaf r (get_or actions i none) ≡ true
  leaf_at r m i local (Some a) at h l =
      let same : a ≡ get_or actions i none = (let e = slice_get-get_or actions i none l in cc) in
      subst (λ v. is_of_leaf r v ≡ true) same (changes_leaf r m local a h)
  leaf_at r m i local None at h l = cc

  there : (r i : ℕ) → (Contains (leaf_places actions r) i → Contains (rule_places actions o.first o.then_leaf) i) → i < length actions
      → is_of_leaf r (get_or actions i none) ≡ true → Contains places i
  there r i of l h =
      (rise.same i).0 (subst (λ v. Contains v i) (sym index_has) (of (leaf_there c actions r i (get_or actions i none) l (slice_get-get_or actions i none l) h)))

  pub serials : AreSerials actions earlier o places
  serials = record {
    in_order = record {
      in_order = in_order;
      first_there = λ m i l h. there o.first i (one_there c actions o.first o.then_leaf i) l (leaf_at o.first m i o.local (slice_get actions i) refl h l);
      then_there = λ m i l h. there o.then_leaf i (other_there c actions o.first o.then_leaf i) l (leaf_at o.then_leaf m i o.local (slice_get actions i) refl h l);
    };
    within = all_within;
    few =
        let a = rise.few in
        let b = ap length index_has in
        let d = rule_few actions o.first o.then_leaf in
        omega arith;
  }
