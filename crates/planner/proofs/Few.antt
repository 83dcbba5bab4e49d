-- A plan of a valid cluster has few actions, and few of each leaf, so that its graph has few edges.
use Rattle.std.proofs.Common.{arith, eqb, ◌≡◌, ◌≢◌, ◌<◌, ◌≤◌, ◌+◌, ◌*◌, ◌==◌, ◌||◌, ℕ, Bool, true, false, cond, List, length, map, filter, count_by, get_or, AllPairs, Contains, sym, ◌∙◌}
use Rattle.std.specs.List.{list_any}
use Rattle.std.proofs.lemmas.Bool.{eqb-true}
use Rattle.std.proofs.lemmas.Bool.Decides.{Decides-eqb}
use Rattle.std.proofs.lemmas.List.{get_or-map, length-map}
use Rattle.std.proofs.lemmas.List.Elements.{Contains-get_or}
use Rattle.std.proofs.lemmas.List.Folds.{Any-from_list_any}
use Rattle.std.proofs.lemmas.List.Kept.{AllPairs-filter}
use Rattle.std.proofs.lemmas.List.Sums.{length-filter, sum_by-le, sum_by-le-sum_by}
use Rattle.std.proofs.lemmas.Map.Made.{IsDistinct-from_AllPairs}
use Rattle.std.proofs.lemmas.Map.Steps.{length-le_from_distinct_below}
use Rattle.std.proofs.lemmas.Nat.{same_from_place}
use Rattle.lemmas.proofs.Members.{of_filter, of_map}
use Rattle.cluster_types.specs.declared.cluster.Cluster.{Cluster}
use Rattle.cluster_types.specs.declared.journal.Action.{Action}
use Rattle.cluster_types.specs.declared.journal.Action.TheVariants.{Fence, Probe, Operation, MigrateTo, MigrateFrom}
use Rattle.cluster_types.specs.declared.leaf.Op.TheVariants as op
use Rattle.cluster_types.specs.declared.rules.Colocation.{Colocation}
use Rattle.cluster_types.specs.declared.rules.Order.{Order}
use Rattle.cluster_types.specs.Fields.{monitors}
use Rattle.cluster_types.specs.NeededActions.{NeededBeforeMigration, Needed, fence, kept, monitor, probe, sent, step, taken_in}
use Rattle.cluster_types.specs.Plans.{is_of_either, most_edges}
use Rattle.cluster_types.specs.Tables.{Targets, targets_of}
use Rattle.cluster_types.specs.Valid.{IsValid}
use Rattle.planner.specs.Inner.Leaves.{action_leaf}
use Rattle.planner.specs.Inner.Places.{is_of_leaf}
use Rattle.planner.specs.ActionNames.{IsActionWithin}
use Rattle.planner.proofs.Counts.{both_counts}
use Rattle.planner.proofs.NeededWithin.{needed_within}
use Rattle.plan_laws.proofs.CellSteps.{is_step}
use Rattle.planner.specs.PlannedActions.{AreOfSomePlan}
use Rattle.planner.proofs.ActionKinds.{few_apart, kind, node_of, stands_at}
use Rattle.planner.proofs.ToldApart.{told_apart}

-- actions that a number below a bound tells apart are no more than the bound
module _ (f : Action → ℕ) (xs : List Action) (most : ℕ) (below : (x : Action) → Contains xs x → f x < most)
    (tells : (x y : Action) → Contains xs x → Contains xs y → f x ≡ f y → x ≡ y) (once : AllPairs (λ x y. x ≢ y) xs) where
  values_apart : AllPairs (λ x y. x ≢ y) (map f xs)
  values_apart i j d l m e =
      let long = length-map xs f in
      let k : j < length xs = omega arith in
      let h : i < length xs = omega arith in
      once i j (Fence 0) l k
      (tells (get_or xs i (Fence 0)) (get_or xs j (Fence 0)) (Contains-get_or xs i (Fence 0) h) (Contains-get_or xs j (Fence 0) k)
      (sym (get_or-map f xs i (Fence 0) d h) ∙ (e ∙ get_or-map f xs j (Fence 0) d k)))

  values_below : (q : ℕ) → list_any (eqb q) (map f xs) ≡ true → q < most
  values_below q h =
      let (k, v, lt, at, e) = Any-from_list_any (eqb q) (map f xs) h in
      let one = of_map f xs v (k, lt, at) in
      let low = below one.source one.among in
      let same : q ≡ v = eqb-true q v e in
      let gives = one.gives in
      omega arith

  pub few_told : length xs ≤ most
  few_told =
      let long = length-map xs f in
      let most_of = length-le_from_distinct_below (map f xs) most (IsDistinct-from_AllPairs {eq = eqb} Decides-eqb (map f xs) values_apart) values_below in
      omega arith

module _ (c : Cluster) (actions : List Action) (valid : IsValid c) (planned : AreOfSomePlan c actions) where
  abbrev targets : Targets
  targets = targets_of planned.placed.table

  abbrev Needs : Action → Type 0
  Needs a = Needed c planned.events targets a

  needs : (x : Action) → Contains actions x → Needs x
  needs x h = (planned.needed.needed x).0 h

  first_kind : (x : Action) → NeededBeforeMigration c planned.events targets x → kind c x < 16
  first_kind _ (fence n h e) = omega arith
  first_kind _ (probe r n h l e) = omega arith
  first_kind _ (step r n op.Start h l g) = omega arith
  first_kind _ (step r n op.Stop h l g) = omega arith
  first_kind _ (step r n op.Promote h l g) = omega arith
  first_kind _ (step r n op.Demote h l g) = omega arith
  first_kind _ (step r n op.Monitor h l g) = let e : false ≡ true = (is_step c planned.events targets r n op.Monitor g).fitting in cc
  first_kind _ (monitor r n m h l k g) =
      let ms = few_apart c valid r in
      let p = stands_at (monitors c r) m ms.apart k in
      let few = ms.few in
      let low = p.within in
      omega arith

  kind_below : (x : Action) → Needs x → kind c x < 16
  kind_below x (kept _ f k) = first_kind x f
  kind_below _ (sent r n m g) = omega arith
  kind_below _ (taken_in r n m g) = omega arith

  cell_below : (x : Action) → IsActionWithin c x → (action_leaf x < 1000) × (node_of x < 256)
  cell_below (Fence n) h = let nodes = valid.limits.nodes in (omega arith, omega arith)
  cell_below (Probe r n) h = let nodes = valid.limits.nodes in let leaves = valid.limits.leaves in let a = h.0 in let b = h.1 in (omega arith, omega arith)
  cell_below (Operation o r n i role) h = let nodes = valid.limits.nodes in let leaves = valid.limits.leaves in let a = h.0 in let b = h.1 in (omega arith, omega arith)
  cell_below (MigrateTo r s t) h = let nodes = valid.limits.nodes in let leaves = valid.limits.leaves in let a = h.0 in let b = h.1 in (omega arith, omega arith)
  cell_below (MigrateFrom r s t) h = let nodes = valid.limits.nodes in let leaves = valid.limits.leaves in let a = h.0 in let b = h.2 in (omega arith, omega arith)

  -- a number by node and kind, and with the leaf
  abbrev spot : Action → ℕ
  spot x = node_of x * 16 + kind c x

  abbrev mark : Action → ℕ
  mark x = action_leaf x * 4096 + spot x

  spot_below : (x : Action) → Needs x → spot x < 4096
  spot_below x h =
      let a = (cell_below x (needed_within c planned.events targets x h)).1 in
      let b = kind_below x h in
      omega arith

  mark_below : (x : Action) → Contains actions x → mark x < 4096000
  mark_below x h =
      let a = (cell_below x (needed_within c planned.events targets x (needs x h))).0 in
      let b = spot_below x (needs x h) in
      omega arith

  same_spot : (x y : Action) → Needs x → Needs y → action_leaf x ≡ action_leaf y → spot x ≡ spot y → x ≡ y
  same_spot x y h k e f =
      let cell = same_from_place (node_of x) (kind c x) (node_of y) (kind c y) 16 (kind_below x h) (kind_below y k) f in
      told_apart c planned.events planned.promotions planned.placed actions valid planned.goals planned.needed.needed x y h k e cell.0 cell.1

  same_mark : (x y : Action) → Contains actions x → Contains actions y → mark x ≡ mark y → x ≡ y
  same_mark x y h k e =
      let spots = same_from_place (action_leaf x) (spot x) (action_leaf y) (spot y) 4096 (spot_below x (needs x h)) (spot_below y (needs y k)) e in
      same_spot x y (needs x h) (needs y k) spots.0 spots.1

  few_actions : length actions ≤ 4096000
  few_actions = few_told mark actions 4096000 mark_below same_mark planned.needed.once

  its_leaf : (r : ℕ) (x : Action) → is_of_leaf r x ≡ true → action_leaf x ≡ r
  its_leaf r (Fence n) h = cc
  its_leaf r (Probe s n) h = eqb-true s r h
  its_leaf r (Operation o s n i role) h = eqb-true s r h
  its_leaf r (MigrateTo s f t) h = eqb-true s r h
  its_leaf r (MigrateFrom s f t) h = eqb-true s r h

  few_of_leaf : (r : ℕ) → count_by (is_of_leaf r) actions ≤ 4096
  few_of_leaf r =
      let long = length-filter (is_of_leaf r) actions in
      let most = few_told spot (filter (is_of_leaf r) actions) 4096 low same (AllPairs-filter (λ x y. x ≢ y) (is_of_leaf r) actions planned.needed.once) in
      omega arith
    where
      low : (x : Action) → Contains (filter (is_of_leaf r) actions) x → spot x < 4096
      low x h = spot_below x (needs x (of_filter (is_of_leaf r) actions x h).among)

      same : (x y : Action) → Contains (filter (is_of_leaf r) actions) x → Contains (filter (is_of_leaf r) actions) y → spot x ≡ spot y → x ≡ y
      same x y h k e =
          let one = of_filter (is_of_leaf r) actions x h in
          let other = of_filter (is_of_leaf r) actions y k in
          same_spot x y (needs x one.among) (needs y other.among) (its_leaf r x one.passes ∙ sym (its_leaf r y other.passes)) e

  either_test : (a b : Bool) → cond {A = ℕ} (a || b) 1 0 ≤ cond {A = ℕ} a 1 0 + cond {A = ℕ} b 1 0
  either_test true true = omega arith
  either_test true false = omega arith
  either_test false true = omega arith
  either_test false false = omega arith

  either_at : (r s : ℕ) (x : Action) → cond {A = ℕ} (is_of_either r s x) 1 0 ≤ cond {A = ℕ} (is_of_leaf r x) 1 0 + cond {A = ℕ} (is_of_leaf s x) 1 0
  either_at r s (Fence n) = omega arith
  either_at r s (Probe leaf n) = either_test (leaf == r) (leaf == s)
  either_at r s (Operation o leaf n i role) = either_test (leaf == r) (leaf == s)
  either_at r s (MigrateTo leaf f t) = either_test (leaf == r) (leaf == s)
  either_at r s (MigrateFrom leaf f t) = either_test (leaf == r) (leaf == s)

  few_of_either : (r s : ℕ) → count_by (is_of_either r s) actions ≤ 8192
  few_of_either r s =
      let one = few_of_leaf r in
      let other = few_of_leaf s in
      let both = both_counts (λ x. cond (is_of_leaf r x) 1 0) (λ x. cond (is_of_leaf s x) 1 0) actions in
      let most = sum_by-le-sum_by (λ x. cond (is_of_either r s x) 1 0) (λ x. cond (is_of_leaf r x) 1 0 + cond (is_of_leaf s x) 1 0) actions (either_at r s) in
      omega arith

  pub few_edges : most_edges c actions ≤ 100000000
  few_edges =
      let rules = valid.limits.rules in
      let all = few_actions in
      let colocations = sum_by-le (λ (col : Colocation). 4 * count_by (is_of_either col.dependent col.primary) actions) 32768 c.colocations
      (λ k d l. let few = few_of_either (get_or c.colocations k d).dependent (get_or c.colocations k d).primary in omega arith) in
      let orders = sum_by-le (λ (o : Order). 4 * count_by (is_of_either o.first o.then_leaf) actions) 32768 c.orders
      (λ k d l. let few = few_of_either (get_or c.orders k d).first (get_or c.orders k d).then_leaf in omega arith) in
      omega arith
