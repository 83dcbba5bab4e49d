-- How many positions the actions of one leaf or of two have.
use Rattle.std.proofs.Common.{arith, ◌≡◌, ◌≤◌, ◌+◌, ◌==◌, ◌||◌, if◌then◌else◌, ℕ, Bool, true, false, cond, List, [], ◌∷◌, ◌++◌, Option, Some, length, filter, count_by, refl, sym, ap, subst, ◌∙◌}
use Rattle.std.specs.List.{range_with_len, slice_get, sum_by}
use Rattle.std.specs.Option.{option_map_or}
use Rattle.std.proofs.lemmas.Bool.{eq-eqb, eqb-true}
use Rattle.std.proofs.lemmas.List.{append_assoc, length-append, length_push}
use Rattle.std.proofs.lemmas.List.Sums.{length-filter, sum_by-cons, sum_by-le-sum_by}
use Rattle.cluster_types.specs.declared.journal.Action.{Action}
use Rattle.cluster_types.specs.declared.journal.Action.TheVariants.{Fence, Probe, Operation, MigrateTo, MigrateFrom}
use Rattle.cluster_types.specs.Plans.{is_of_either}
use Rattle.planner.specs.Inner.Places.{is_of_leaf, leaf_places, rule_places}

module _ {X : Type 0} (p : X → Bool) where
  at_end : (pre : List X) (y : X) (ys : List X) → slice_get (pre ++ y ∷ ys) (length pre) ≡ Some y
  at_end [] y ys = refl
  at_end (x ∷ pre) y ys = at_end pre y ys

  abbrev passes_at : List X → ℕ → Bool
  passes_at xs i = option_map_or p (slice_get xs i) false

  count_from : (pre ys : List X) → count_by (passes_at (pre ++ ys)) (range_with_len (length pre) (length ys)) ≡ count_by p ys
  count_from pre [] = refl
  count_from pre (y ∷ ys) =
      let rest : count_by (passes_at (pre ++ y ∷ ys)) (range_with_len (length pre + 1) (length ys)) ≡ count_by p ys =
      subst (λ v. count_by (passes_at v) (range_with_len (length pre + 1) (length ys)) ≡ count_by p ys) (append_assoc pre (y ∷ []) ys)
      (subst (λ v. count_by (passes_at ((pre ++ y ∷ []) ++ ys)) (range_with_len v (length ys)) ≡ count_by p ys) (length_push pre y) (count_from (pre ++ y ∷ []) ys)) in
      let here : cond {A = ℕ} (passes_at (pre ++ y ∷ ys) (length pre)) 1 0 ≡ cond {A = ℕ} (p y) 1 0 = ap (λ (v : Option X). cond {A = ℕ} (option_map_or p v false) 1 0) (at_end pre y ys) in
      let left = sum_by-cons (λ i. cond (passes_at (pre ++ y ∷ ys) i) 1 0) (length pre) (range_with_len (length pre + 1) (length ys)) in
      let right = sum_by-cons (λ x. cond (p x) 1 0) y ys in
      omega arith

  pub positions_count : (xs : List X) → length (filter (passes_at xs) (range_with_len 0 (length xs))) ≡ count_by p xs
  positions_count xs = length-filter (passes_at xs) (range_with_len 0 (length xs)) ∙ count_from [] xs

either_test : (r s leaf : ℕ) (a b : Bool) → (r == s) ≡ false → (leaf == r) ≡ a → (leaf == s) ≡ b → cond a 1 0 + cond b 1 0 ≤ cond (a || b) 1 0
either_test r s leaf true true d e f =
    let g : leaf ≡ r = eqb-true leaf r e in
    let h : leaf ≡ s = eqb-true leaf s f in
    let same : (r == s) ≡ true = eq-eqb r s (sym g ∙ h) in
    absurd (let x : true ≡ false = cc in cc)
either_test r s leaf true false d e f = omega arith
either_test r s leaf false b d e f = omega arith

either_at : (r s : ℕ) → (r == s) ≡ false → (a : Action) → cond (is_of_leaf r a) 1 0 + cond (is_of_leaf s a) 1 0 ≤ cond (is_of_either r s a) 1 0
either_at r s d (Fence n) = omega arith
either_at r s d (Probe leaf n) = either_test r s leaf (leaf == r) (leaf == s) d refl refl
either_at r s d (Operation o leaf n i role) = either_test r s leaf (leaf == r) (leaf == s) d refl refl
either_at r s d (MigrateTo leaf f t) = either_test r s leaf (leaf == r) (leaf == s) d refl refl
either_at r s d (MigrateFrom leaf f t) = either_test r s leaf (leaf == r) (leaf == s) d refl refl

one_test : (a b : Bool) → cond a 1 0 ≤ cond (a || b) 1 0
one_test true b = omega arith
one_test false b = omega arith

one_at : (r s : ℕ) (a : Action) → cond (is_of_leaf r a) 1 0 ≤ cond (is_of_either r s a) 1 0
one_at r s (Fence n) = omega arith
one_at r s (Probe leaf n) = one_test (leaf == r) (leaf == s)
one_at r s (Operation o leaf n i role) = one_test (leaf == r) (leaf == s)
one_at r s (MigrateTo leaf f t) = one_test (leaf == r) (leaf == s)
one_at r s (MigrateFrom leaf f t) = one_test (leaf == r) (leaf == s)

pub both_counts : (f g : Action → ℕ) (xs : List Action) → sum_by f xs + sum_by g xs ≡ sum_by (λ x. f x + g x) xs
both_counts f g [] = refl
both_counts f g (x ∷ xs) =
    let a = sum_by-cons f x xs in
    let b = sum_by-cons g x xs in
    let d = sum_by-cons (λ x. f x + g x) x xs in
    let e = both_counts f g xs in
    omega arith

-- the positions of a rule are as many at most as the actions of its leaves
pub rule_few : (actions : List Action) (r s : ℕ) → length (rule_places actions r s) ≤ count_by (is_of_either r s) actions
rule_few actions r s = on (r == s) refl
  where
    on : (b : Bool) → (r == s) ≡ b → length (if b then leaf_places actions r else leaf_places actions r ++ leaf_places actions s) ≤ count_by (is_of_either r s) actions
    on true e =
        let one = positions_count (is_of_leaf r) actions in
        let most = sum_by-le-sum_by (λ a. cond (is_of_leaf r a) 1 0) (λ a. cond (is_of_either r s a) 1 0) actions (one_at r s) in
        omega arith
    on false e =
        let one = positions_count (is_of_leaf r) actions in
        let other = positions_count (is_of_leaf s) actions in
        let l = length-append (leaf_places actions r) (leaf_places actions s) in
        let both = both_counts (λ a. cond (is_of_leaf r a) 1 0) (λ a. cond (is_of_leaf s a) 1 0) actions in
        let most = sum_by-le-sum_by (λ a. cond (is_of_leaf r a) 1 0 + cond (is_of_leaf s a) 1 0) (λ a. cond (is_of_either r s a) 1 0) actions (either_at r s e) in
        omega arith

swapped_test : (a b : Bool) → cond {A = ℕ} (a || b) 1 0 ≤ cond {A = ℕ} (b || a) 1 0
swapped_test true true = omega arith
swapped_test true false = omega arith
swapped_test false true = omega arith
swapped_test false false = omega arith

swapped_at : (r s : ℕ) (a : Action) → cond {A = ℕ} (is_of_either s r a) 1 0 ≤ cond {A = ℕ} (is_of_either r s a) 1 0
swapped_at r s (Fence n) = omega arith
swapped_at r s (Probe leaf n) = swapped_test (leaf == s) (leaf == r)
swapped_at r s (Operation o leaf n i role) = swapped_test (leaf == s) (leaf == r)
swapped_at r s (MigrateTo leaf f t) = swapped_test (leaf == s) (leaf == r)
swapped_at r s (MigrateFrom leaf f t) = swapped_test (leaf == s) (leaf == r)

pub rule_few_swapped : (actions : List Action) (r s : ℕ) → length (rule_places actions s r) ≤ count_by (is_of_either r s) actions
rule_few_swapped actions r s =
    let one = rule_few actions s r in
    let most = sum_by-le-sum_by (λ a. cond (is_of_either s r a) 1 0) (λ a. cond (is_of_either r s a) 1 0) actions (swapped_at r s) in
    omega arith
