-- The loop over the nodes of a local order.
use Rattle.std.proofs.Common.{arith, ◌≡◌, ◌<◌, ◌≤◌, ◌+◌, ◌*◌, ◌==◌, ◌⊎◌, inl, inr, ℕ, Bool, true, false, cond, Option, Some, None, List, [], ◌∷◌, length, count_by, Contains, All, refl, sym, ap, subst}
use Rattle.std.proofs.lemmas.Bool.{eqb-true}
use Rattle.std.proofs.lemmas.List.Elements.{All-contains, All-from_get_or, Contains-get_or}
use Rattle.std.proofs.lemmas.List.Sums.{count_by-le-length, length-filter, sum_by-cons}
use Rattle.cluster_types.specs.declared.cluster.Cluster.{Cluster}
use Rattle.edges.specs.declared.edge.Edge.{Edge}
use Rattle.cluster_types.specs.declared.journal.Action.{Action}
use Rattle.cluster_types.specs.declared.rules.Order.{Order}
use Rattle.planner.specs.Chains.{IsChained, changes_at}
use Rattle.planner.specs.Inner.Chains.{IsChainedSomewhere, is_at, changed_node_at, node_places}
use Rattle.planner.specs.Inner.Groups.{AddsGroup}
use Rattle.planner.specs.ActionNames.{IsActionWithin}
use Rattle.planner.proofs.Adding.{adds_after, adds_none, adds_says}
use Rattle.planner.proofs.BucketsMore.{node_within}
use Rattle.lemmas.proofs.Members.{of_filter}
use Rattle.planner.proofs.ByNode.{chain_in_all, chain_in_some, changes_node, changes_zero, is_below, one_more_below}

pub bucket_within : (actions : List Action) (places : List ℕ) (m : ℕ) (bucket : List ℕ) → bucket ≡ node_places actions m places
    → All (λ place. place < length actions) places → All (λ place. place < length actions) bucket
bucket_within actions places m bucket is within =
    subst (λ v. All (λ place. place < length actions) v) (sym is)
    (All-from_get_or (λ place. place < length actions) (node_places actions m places) 0
    (λ i l. All-contains (λ place. place < length actions) places _ within
    (of_filter (λ i. is_at m (changed_node_at actions i)) places _ (Contains-get_or (node_places actions m places) i 0 l)).among))

module _ (actions : List Action) (o : Order) (places : List ℕ) where
  abbrev below : ℕ → ℕ
  below m = count_by (λ i. is_below m (changed_node_at actions i)) places

  counted : (m : ℕ) (xs : List ℕ) → count_by (λ i. is_below m (changed_node_at actions i)) xs + count_by (λ i. is_at m (changed_node_at actions i)) xs
      ≡ count_by (λ i. is_below (m + 1) (changed_node_at actions i)) xs
  counted m [] = refl
  counted m (x ∷ xs) =
      let a = sum_by-cons (λ i. cond {A = ℕ} (is_below m (changed_node_at actions i)) 1 0) x xs in
      let b = sum_by-cons (λ i. cond {A = ℕ} (is_at m (changed_node_at actions i)) 1 0) x xs in
      let d = sum_by-cons (λ i. cond {A = ℕ} (is_below (m + 1) (changed_node_at actions i)) 1 0) x xs in
      let e = one_more_below m (changed_node_at actions x) in
      let f = counted m xs in
      omega arith

  next_below : (m : ℕ) → below m + length (node_places actions m places) ≡ below (m + 1)
  next_below m =
      let a = length-filter (λ i. is_at m (changed_node_at actions i)) places in
      let b = counted m places in
      omega arith

  -- chained for one of the first so many nodes
  abbrev pub ChainedBelow : ℕ → ℕ → ℕ → Type 0
  ChainedBelow m x y = (k : ℕ) × (k < m) × IsChained actions o places k x y

  -- what the loop keeps
  pub record Locals (old now : List Edge) (from base m : ℕ) : Type 0 where
    pub adds : AddsGroup (length actions) old now from base (3 * below m) (ChainedBelow m)
    pub room : base ≤ from + 2 * (below m + m)

  pub locals_none : (list : List Edge) (from : ℕ) → length actions ≤ from → Locals list list from from 0
  locals_none list from le = record {
    adds =
        adds_says (length actions) list list from from 0 (3 * below 0) (λ x y. ⊥) (ChainedBelow 0) (λ x y l m h. absurd h)
        (λ x y l m h. let (k, less, c) = h in absurd (omega arith)) (omega arith) (adds_none (length actions) list from le);
    room = omega arith;
  }

  module _ (local : o.local ≡ true) where
    local_by : (r m i : ℕ) → changes_at actions r o.local m i ≡ true → is_at m (changed_node_at actions i) ≡ true
    local_by r m i h = changes_node actions r m i (subst (λ b. changes_at actions r b m i ≡ true) local h)

    bucket_only : (m x y : ℕ) → IsChained actions o (node_places actions m places) m x y → IsChained actions o places m x y
    bucket_only m x y (inl h) = inl (chain_in_all (λ i. is_at m (changed_node_at actions i)) x y _ _ places h)
    bucket_only m x y (inr h) = inr (chain_in_all (λ i. is_at m (changed_node_at actions i)) x y _ _ places h)

    bucket_all : (m x y : ℕ) → IsChained actions o places m x y → IsChained actions o (node_places actions m places) m x y
    bucket_all m x y (inl h) = inl (chain_in_some (λ i. is_at m (changed_node_at actions i)) x y _ _ places (local_by o.first m) (local_by o.then_leaf m) h)
    bucket_all m x y (inr h) = inr (chain_in_some (λ i. is_at m (changed_node_at actions i)) x y _ _ places (local_by o.then_leaf m) (local_by o.first m) h)

    pub locals_more : (old now new : List Edge) (from base upto m : ℕ) (bucket : List ℕ) → Locals old now from base m → bucket ≡ node_places actions m places
        → AddsGroup (length actions) now new base upto (3 * length bucket) (IsChained actions o bucket m) → upto ≤ base + 2 * (length bucket + 1) → Locals old new from upto (m + 1)
    locals_more old now new from base upto m bucket h is more room =
        let long : length bucket ≡ length (node_places actions m places) = ap length is in
        let next = next_below m in
        let here = subst (λ v. AddsGroup (length actions) now new base upto (3 * length bucket) (IsChained actions o v m)) is more in
        record {
          adds =
              adds_says (length actions) old new from upto (3 * below m + 3 * length bucket) (3 * below (m + 1))
              (λ x y. ChainedBelow m x y ⊎ IsChained actions o (node_places actions m places) m x y) (ChainedBelow (m + 1)) (λ x y l k c. wider x y c)
              (λ x y l k c. split x y c) (omega arith)
              (adds_after (length actions) old now new from base upto (3 * below m) (3 * length bucket) (ChainedBelow m)
              (IsChained actions o (node_places actions m places) m) h.adds here);
          room = let r = h.room in omega arith;
        }
      where
        wider : (x y : ℕ) → ChainedBelow m x y ⊎ IsChained actions o (node_places actions m places) m x y → ChainedBelow (m + 1) x y
        wider x y (inl (k, less, c)) = (k, omega arith, c)
        wider x y (inr c) = (m, omega arith, bucket_only m x y c)

        at : (k x y : ℕ) → k < m + 1 → (b : Bool) → (k == m) ≡ b → IsChained actions o places k x y
            → ChainedBelow m x y ⊎ IsChained actions o (node_places actions m places) m x y
        at k x y less true e c = inr (bucket_all m x y (subst (λ n. IsChained actions o places n x y) (eqb-true k m e) c))
        at k x y less false e c = inl (k, grind arith, c)

        split : (x y : ℕ) → ChainedBelow (m + 1) x y → ChainedBelow m x y ⊎ IsChained actions o (node_places actions m places) m x y
        split x y (k, less, c) = at k x y less (k == m) refl c

    module _ (c : Cluster) (inside : (a : Action) → Contains actions a → IsActionWithin c a) where
      at_is : (m : ℕ) (v : Option ℕ) → is_at m v ≡ true → Some m ≡ v
      at_is m (Some n) h = ap Some (sym (eqb-true n m h))
      at_is m None h = cc

      node_less : (r m x : ℕ) → x < length actions → changes_at actions r o.local m x ≡ true → m < length c.nodes
      node_less r m x l h = node_within c actions inside x (Some m) l (at_is m (changed_node_at actions x) (local_by r m x h))

      chained_less : (m x y : ℕ) → x < length actions → IsChained actions o places m x y → m < length c.nodes
      chained_less m x y l (inl h) = node_less o.first m x l h.first
      chained_less m x y l (inr h) = node_less o.then_leaf m x l h.first

      pub locals_all : (old now : List Edge) (from base : ℕ) → Locals old now from base (length c.nodes)
          → AddsGroup (length actions) old now from base (3 * length places) (IsChainedSomewhere actions o places)
      locals_all old now from base h =
          let most = count_by-le-length (λ i. is_below (length c.nodes) (changed_node_at actions i)) places in
          adds_says (length actions) old now from base (3 * below (length c.nodes)) (3 * length places) (ChainedBelow (length c.nodes))
          (IsChainedSomewhere actions o places) (λ x y l k q. let (m, less, p) = q in (m, p)) (λ x y l k q. let (m, p) = q in (m, chained_less m x y l p, p))
          (omega arith) h.adds

  pub locals_fit : (old now : List Edge) (from base m : ℕ) → Locals old now from base m → base + 2 * (length (node_places actions m places) + 1)
      ≤ from + 2 * (length places + (m + 1))
  locals_fit old now from base m h =
      let most = count_by-le-length (λ i. is_below (m + 1) (changed_node_at actions i)) places in
      let next = next_below m in
      let r = h.room in
      omega arith

  module _ (together : o.local ≡ false) where
    zero_by : (r m i : ℕ) → changes_at actions r o.local m i ≡ true → m ≡ 0
    zero_by r m i h = changes_zero actions r m i (subst (λ b. changes_at actions r b m i ≡ true) together h)

    zero_chained : (m x y : ℕ) → IsChained actions o places m x y → m ≡ 0
    zero_chained m x y (inl h) = zero_by o.first m x h.first
    zero_chained m x y (inr h) = zero_by o.then_leaf m x h.first

    pub together_all : (old now : List Edge) (from base most : ℕ) → AddsGroup (length actions) old now from base most (IsChained actions o places 0)
        → AddsGroup (length actions) old now from base most (IsChainedSomewhere actions o places)
    together_all old now from base most h =
        adds_says (length actions) old now from base most most (IsChained actions o places 0) (IsChainedSomewhere actions o places) (λ x y l k q. (0, q))
        (λ x y l k q. let (m, p) = q in subst (λ n. IsChained actions o places n x y) (zero_chained m x y p) p) (omega arith) h
