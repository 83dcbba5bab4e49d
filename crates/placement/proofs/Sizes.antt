-- How many finite terms some leaves have together: each location is of one leaf, so all leaves have no more than there are locations and leaves.
use Rattle.std.proofs.Common.{◌≡◌, ◌≢◌, ◌⊎◌, inl, inr, ℕ, zero, suc, ◌+◌, ◌<◌, ◌≤◌, ◌==◌, Bool, true, false, if◌then◌else◌, nat_lt, List, [], ◌∷◌, ◌++◌, length, filter, sum_by, refl, sym, ap, subst, ◌∙◌, arith}
use Rattle.std.specs.List.{range_with_len}
use Rattle.std.proofs.lemmas.Bool.{cases_eq, cases_lt, le-ltb, lt-ltb}
use Rattle.std.proofs.lemmas.List.Sums.{length-filter, count_by-le-length, sum_by-append}
use Rattle.lemmas.proofs.Ranges.{range-more}
use Rattle.cluster_types.specs.declared.cluster.Cluster.{Cluster}
use Rattle.cluster_types.specs.declared.rules.Location.{Location}
use Rattle.cluster_types.specs.declared.rules.RuleLocation.{RuleLocation}
use Rattle.cluster_types.specs.declared.states.States.{States}
use Rattle.placement.specs.OwnRows.{own_by}
use Rattle.placement.specs.Inner.OwnRows.{terms_by, own_size, size_below}
use Rattle.placement.specs.Rows.{few}
use Rattle.placement.proofs.FewTerms.{few-append}
use Rattle.placement.proofs.OwnTerms.{few-own}

module _ {X : Type 0} (f : X → ℕ) where
  -- how many are of a number, and how many of one below it
  abbrev pub of : List X → ℕ → ℕ
  of xs k = length (filter (λ x. f x == k) xs)

  abbrev pub under : List X → ℕ → ℕ
  under xs k = length (filter (λ x. nat_lt (f x) k) xs)

  step : (x : X) (a b d : Bool) (xs ys zs : List X) → length zs ≡ length xs + length ys
      → ((a ≡ true) × (b ≡ false) × (d ≡ true)) ⊎ (((a ≡ false) × (b ≡ true) × (d ≡ true)) ⊎ ((a ≡ false) × (b ≡ false) × (d ≡ false)))
      → length (if d then x ∷ zs else zs) ≡ length (if a then x ∷ xs else xs) + length (if b then x ∷ ys else ys)
  step x a b d xs ys zs h (inl (e, g, k)) = rw (e, g, k) (omega (arith, h))
  step x a b d xs ys zs h (inr (inl (e, g, k))) = rw (e, g, k) (omega (arith, h))
  step x a b d xs ys zs h (inr (inr (e, g, k))) = rw (e, g, k) h

  tests : (n k : ℕ) → (n ≡ k) ⊎ (n ≢ k) → (n < k) ⊎ (k ≤ n)
      → ((nat_lt n k ≡ true) × ((n == k) ≡ false) × (nat_lt n (k + 1) ≡ true))
      ⊎ (((nat_lt n k ≡ false) × ((n == k) ≡ true) × (nat_lt n (k + 1) ≡ true)) ⊎ ((nat_lt n k ≡ false) × ((n == k) ≡ false) × (nat_lt n (k + 1) ≡ false)))
  tests n k (inl e) l = inr (inl (le-ltb n k (omega (arith, e)), (let x : (n == k) ≡ true = grind (arith, e) in x), lt-ltb n (k + 1) (omega (arith, e))))
  tests n k (inr e) (inl low) = inl (lt-ltb n k low, (let x : (n == k) ≡ false = grind (arith, e) in x), lt-ltb n (k + 1) (omega (arith, low)))
  tests n k (inr e) (inr high) = inr (inr (le-ltb n k high, (let x : (n == k) ≡ false = grind (arith, e) in x), le-ltb n (k + 1) (omega (arith, high, e))))

  pub under-more : (xs : List X) (k : ℕ) → under xs (k + 1) ≡ under xs k + of xs k
  under-more [] k = refl
  under-more (x ∷ xs) k =
      step x (nat_lt (f x) k) (f x == k) (nat_lt (f x) (k + 1)) (filter (λ y. nat_lt (f y) k) xs) (filter (λ y. f y == k) xs) (filter (λ y. nat_lt (f y) (k + 1)) xs)
      (under-more xs k) (tests (f x) k (cases_eq (f x) k) (cases_lt (f x) k))

  under-none : (xs : List X) → under xs 0 ≡ 0
  under-none [] = refl
  under-none (x ∷ xs) = ap (λ b. length (if b then x ∷ filter (λ y. nat_lt (f y) 0) xs else filter (λ y. nat_lt (f y) 0) xs)) (le-ltb (f x) 0 (omega arith)) ∙ under-none xs

  pub under-all : (xs : List X) (k : ℕ) → under xs k ≤ length xs
  under-all xs k =
      let a = length-filter (λ x. nat_lt (f x) k) xs in
      let b = count_by-le-length (λ x. nat_lt (f x) k) xs in
      omega (arith, a, b)

module _ (c : Cluster) where
  pub size-more : (s : ℕ) → size_below c (s + 1) ≡ size_below c s + own_size c s
  size-more s =
      let e = ap (sum_by (own_size c)) (range-more s) in
      let sum = sum_by-append (own_size c) (range_with_len 0 s) (s ∷ []) in
      omega (arith, e, sum)

  size-is : (s : ℕ) → size_below c s ≡ under (λ (l : Location). l.leaf) c.locations s + under (λ (rl : RuleLocation). rl.leaf) c.rule_locations s + s
  size-is zero =
      let a = under-none (λ (l : Location). l.leaf) c.locations in
      let b = under-none (λ (rl : RuleLocation). rl.leaf) c.rule_locations in
      omega (arith, a, b)
  size-is (suc s) =
      let e : suc s ≡ s + 1 = omega arith in
      let before = size-is s in
      let more = size-more s in
      let a = under-more (λ (l : Location). l.leaf) c.locations s in
      let b = under-more (λ (rl : RuleLocation). rl.leaf) c.rule_locations s in
      let x = length-filter (λ (l : Location). l.leaf == s) c.locations in
      let y = length-filter (λ (rl : RuleLocation). rl.leaf == s) c.rule_locations in
      subst (λ k. size_below c k ≡ under (λ (l : Location). l.leaf) c.locations k + under (λ (rl : RuleLocation). rl.leaf) c.rule_locations k + k) (sym e)
      (omega (arith, before, more, a, b, x, y))

  -- all leaves below one have no more than there are locations and these leaves
  pub size-limit : (s : ℕ) → size_below c s ≤ length c.locations + length c.rule_locations + s
  size-limit s =
      let e = size-is s in
      let a = under-all (λ (l : Location). l.leaf) c.locations s in
      let b = under-all (λ (rl : RuleLocation). rl.leaf) c.rule_locations s in
      omega (arith, e, a, b)

  -- the finite terms of some leaves on a node
  pub few-terms : (states : States) (leaves : List ℕ) (n : ℕ) → few (terms_by c states leaves n) ≤ sum_by (own_size c) leaves
  few-terms states [] n = omega arith
  few-terms states (r ∷ rest) n =
      let first = few-own c states r n in
      let others = few-terms states rest n in
      let both = few-append (own_by c states r n) (terms_by c states rest n) in
      let sum = sum_by-append (own_size c) (r ∷ []) rest in
      omega (arith, first, others, both, sum)

  -- one leaf more
  pub size-joined : (leaves : List ℕ) (r s : ℕ) → sum_by (own_size c) leaves ≤ own_size c r + size_below c s
      → sum_by (own_size c) (leaves ++ s ∷ []) ≤ own_size c r + size_below c (s + 1)
  size-joined leaves r s h =
      let sum = sum_by-append (own_size c) leaves (s ∷ []) in
      let more = size-more s in
      omega (arith, h, sum, more)
