-- The actions that are needed have one list in the order of their numbers, and each stands in it once.
use Rattle.std.proofs.Common.{arith, ◌≡◌, ◌<◌, ◌==◌, ◌&&◌, ◌||◌, nat_lt, ℕ, Bool, true, false, List, refl, length, get_or}
use Rattle.std.specs.List.{list_any}
use Rattle.std.specs.Prelude.{AllPairs, Contains, Any, slice_get, Some}
use Rattle.std.proofs.lemmas.List.Folds.{Any-from_list_any}
use Rattle.std.proofs.lemmas.Option.{get_or_from_slice_get, slice_get_within}
use Rattle.lemmas.proofs.Ordered.{same_list}
use Rattle.lemmas.proofs.Searches.{passes_by}
use Rattle.lemmas.proofs.Booleans.{same_test}
use Rattle.cluster_types.specs.declared.cluster.Cluster.{Cluster}
use Rattle.cluster_types.specs.declared.journal.Action.{Action}
use Rattle.cluster_types.specs.declared.journal.Action.TheVariants.{Fence, Probe, Operation, MigrateTo, MigrateFrom}
use Rattle.cluster_types.specs.declared.leaf.Op.TheVariants as op
use Rattle.cluster_types.specs.Numbers.{AreNumbered, ActionPlace, is_place_before, is_earlier, action_place}
use Rattle.cluster_types.specs.Precedence.{is_migrating, sends}

-- by the first number in which two places differ
by_first : (x y : ℕ) (p q : Bool) → (p ≡ true → q ≡ true → ⊥) → nat_lt x y || x == y && p ≡ true → nat_lt y x || y == x && q ≡ true → ⊥
by_first x y true true f h k = f refl refl
by_first x y true false f h k = let e : false ≡ true = grind arith in cc
by_first x y false q f h k = let e : false ≡ true = grind arith in cc

abbrev pub by_node : ActionPlace → ActionPlace → Bool
by_node a b = nat_lt a.node b.node || a.node == b.node && nat_lt a.interval b.interval

abbrev pub by_leaf : ActionPlace → ActionPlace → Bool
by_leaf a b = nat_lt a.leaf b.leaf || a.leaf == b.leaf && by_node a b

abbrev pub by_rank : ActionPlace → ActionPlace → Bool
by_rank a b = nat_lt a.ranked b.ranked || a.ranked == b.ranked && by_leaf a b

not_both_less : (x y : ℕ) → nat_lt x y ≡ true → nat_lt y x ≡ true → ⊥
not_both_less x y h k = let e : false ≡ true = grind arith in cc

by_node_once : (a b : ActionPlace) → by_node a b ≡ true → by_node b a ≡ true → ⊥
by_node_once a b h k = by_first a.node b.node (nat_lt a.interval b.interval) (nat_lt b.interval a.interval) (not_both_less a.interval b.interval) h k

by_leaf_once : (a b : ActionPlace) → by_leaf a b ≡ true → by_leaf b a ≡ true → ⊥
by_leaf_once a b h k = by_first a.leaf b.leaf (by_node a b) (by_node b a) (by_node_once a b) h k

by_rank_once : (a b : ActionPlace) → by_rank a b ≡ true → by_rank b a ≡ true → ⊥
by_rank_once a b h k = by_first a.ranked b.ranked (by_leaf a b) (by_leaf b a) (by_leaf_once a b) h k

-- a place isn't before itself, and of two places one is before the other at most
pub not_both : (a b : ActionPlace) → is_place_before a b ≡ true → is_place_before b a ≡ true → ⊥
not_both a b h k = by_first a.phase b.phase (by_rank a b) (by_rank b a) (by_rank_once a b) h k

-- A list in the order of its numbers, of which each has the other's actions, is the other.

found_in : (p : Action → Bool) (xs ys : List Action) → ((a : Action) → Contains xs a → Contains ys a) → list_any p xs ≡ true → list_any p ys ≡ true
found_in p xs ys all h = found_at p xs ys all (Any-from_list_any p xs h)
  where
    found_at : (p : Action → Bool) (xs ys : List Action) → ((a : Action) → Contains xs a → Contains ys a) → Any (λ a. p a ≡ true) xs → list_any p ys ≡ true
    found_at p xs ys all (k, a, lt, at, h) = passes_by p ys a (all a (k, lt, at)) h

module _ (c : Cluster) (xs ys : List Action) (to : (a : Action) → Contains xs a → Contains ys a) (from : (a : Action) → Contains ys a → Contains xs a) where
  pub same_migrating : (r : ℕ) → is_migrating xs r ≡ is_migrating ys r
  same_migrating r = same_test (is_migrating xs r) (is_migrating ys r) (found_in (sends r) xs ys to) (found_in (sends r) ys xs from)

  pub same_place : (a : Action) → action_place c xs a ≡ action_place c ys a
  same_place (Fence n) = refl
  same_place (Probe r n) = refl
  same_place (Operation op.Start r n interval role) = refl
  same_place (Operation op.Stop r n interval role) = rw (same_migrating r) refl
  same_place (Operation op.Promote r n interval role) = refl
  same_place (Operation op.Demote r n interval role) = refl
  same_place (Operation op.Monitor r n interval role) = refl
  same_place (MigrateTo r source target) = refl
  same_place (MigrateFrom r source target) = refl

  same_order : (x y : Action) → is_earlier c ys x y ≡ true → is_earlier c xs x y ≡ true
  same_order x y h = rw (same_place x) (rw (same_place y) h)

pub one_list : (c : Cluster) (Needed : Action → Type 0) (xs ys : List Action) → AreNumbered c Needed xs → AreNumbered c Needed ys → xs ≡ ys
one_list c Needed xs ys h k =
    let to : (a : Action) → Contains xs a → Contains ys a = λ a at. (k.needed a).1 ((h.needed a).0 at) in
    let from : (a : Action) → Contains ys a → Contains xs a = λ a at. (h.needed a).1 ((k.needed a).0 at) in
    same_list (λ x y. is_earlier c xs x y ≡ true) (λ x y. not_both (action_place c xs x) (action_place c xs y)) xs ys h.in_order
    (λ i j d less within. same_order c xs ys to from (get_or ys i d) (get_or ys j d) (k.in_order i j d less within)) to from

module _ {X : Type 0} (R : X → X → Type 0) (strict : (a b : X) → R a b → R b a → ⊥) where
  -- an element doesn't stand before itself
  not_before_itself : (xs : List X) (i j : ℕ) (a : X) → AllPairs R xs → slice_get xs i ≡ Some a → slice_get xs j ≡ Some a → i < j → ⊥
  not_before_itself xs i j a h p q less =
      let within : j < length xs = slice_get_within xs j a q in
      let one : get_or xs i a ≡ a = get_or_from_slice_get xs i a a p in
      let other : get_or xs j a ≡ a = get_or_from_slice_get xs j a a q in
      let full : R (get_or xs i a) (get_or xs j a) = h i j a less within in
      let half : R (get_or xs i a) a = rw other at full in
      let itself : R a a = rw one at half in
      strict a a itself itself

  one_of_three : (xs : List X) (i j : ℕ) (a : X) → AllPairs R xs → slice_get xs i ≡ Some a → slice_get xs j ≡ Some a
      → (less more : Bool) → nat_lt i j ≡ less → nat_lt j i ≡ more → i ≡ j
  one_of_three xs i j a h p q true more l m = absurd (not_before_itself xs i j a h p q (grind arith))
  one_of_three xs i j a h p q false true l m = absurd (not_before_itself xs j i a h q p (grind arith))
  one_of_three xs i j a h p q false false l m = grind arith

  -- an element stands at one place of a list in order
  one_place : (xs : List X) (i j : ℕ) (a : X) → AllPairs R xs → slice_get xs i ≡ Some a → slice_get xs j ≡ Some a → i ≡ j
  one_place xs i j a h p q = one_of_three xs i j a h p q (nat_lt i j) (nat_lt j i) refl refl

pub one_number : (c : Cluster) (Needed : Action → Type 0) (xs : List Action) (i j : ℕ) (a : Action) → AreNumbered c Needed xs
    → slice_get xs i ≡ Some a → slice_get xs j ≡ Some a → i ≡ j
one_number c Needed xs i j a h p q =
    one_place (λ x y. is_earlier c xs x y ≡ true) (λ x y. not_both (action_place c xs x) (action_place c xs y)) xs i j a h.in_order p q
