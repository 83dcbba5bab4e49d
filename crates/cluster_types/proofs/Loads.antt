-- How loads change with a cell: a first target on a node is one more there, and a role more at a leaf with a target changes none.
use Rattle.std.proofs.Common.{arith, ◌≡◌, ◌≢◌, ◌<◌, ◌≤◌, ◌+◌, ◌==◌, ◌&&◌, ℕ, suc, zero, Bool, true, false, if◌then◌else◌, ◌∷◌, ◌⊎◌, inl, inr, refl, sym, ◌∙◌, count_by, length}
use Rattle.std.specs.List.{range_with_len}
use Rattle.std.proofs.lemmas.Bool.{cases_eq}
use Rattle.std.proofs.Math.Bool.{and-false}
use Rattle.lemmas.proofs.Counts.{count-is, count_agree}
use Rattle.cluster_types.specs.declared.cluster.Cluster.{Cluster}
use Rattle.cluster_types.specs.declared.placement.Target.{Target}
use Rattle.cluster_types.specs.Tables.{Targets, is_somewhere, load_of, with_cell}

-- two tests that agree but at one number, which the second counts too
module _ (p q : ℕ → Bool) (r : ℕ) (same : (x : ℕ) → x ≢ r → p x ≡ q x) where
  agree_past : (from n : ℕ) → r < from → count_by q (range_with_len from n) ≡ count_by p (range_with_len from n)
  agree_past from zero past = refl
  agree_past from (suc n) past =
      let e : p from ≡ q from = same from (λ is. absurd (let f : ⊥ = omega arith in f)) in
      let c = count-is p from (range_with_len (from + 1) n) (q from) e in
      let d = count-is q from (range_with_len (from + 1) n) (q from) refl in
      let rest = agree_past (from + 1) n (omega arith) in
      omega arith

  pub one_more_counted : p r ≡ false → q r ≡ true → (from n : ℕ) → from ≤ r → r < from + n → count_by q (range_with_len from n) ≡ count_by p (range_with_len from n) + 1
  one_more_counted not_yet now from zero low high = absurd (let f : ⊥ = omega arith in f)
  one_more_counted not_yet now from (suc n) low high = go (cases_eq from r) (one_more_counted not_yet now (from + 1) n)
    where
      go : (from ≡ r) ⊎ (from ≢ r) → (from + 1 ≤ r → r < from + 1 + n → count_by q (range_with_len (from + 1) n) ≡ count_by p (range_with_len (from + 1) n) + 1)
          → count_by q (from ∷ range_with_len (from + 1) n) ≡ count_by p (from ∷ range_with_len (from + 1) n) + 1
      go (inl is) more =
          let c = count-is p from (range_with_len (from + 1) n) false (rw is not_yet) in
          let d = count-is q from (range_with_len (from + 1) n) true (rw is now) in
          let rest = agree_past (from + 1) n (omega arith) in
          omega arith
      go (inr other) more =
          let c = count-is p from (range_with_len (from + 1) n) (q from) (same from other) in
          let d = count-is q from (range_with_len (from + 1) n) (q from) refl in
          let rest = more (omega arith) (omega arith) in
          omega arith

module _ (c : Cluster) (table : Targets) (r n : ℕ) (t : Target) where
  abbrev changed : Targets
  changed = with_cell table r n t

  other_cell : (s m : ℕ) → (s == r && m == n) ≡ false → is_somewhere (table s m) ≡ is_somewhere (changed s m)
  other_cell s m h = rw h refl

  same_somewhere : is_somewhere (table r n) ≡ is_somewhere t → (s m : ℕ) → is_somewhere (changed s m) ≡ is_somewhere (table s m)
  same_somewhere e s m = go (s == r) refl (m == n) refl
    where
      go : (a : Bool) → (s == r) ≡ a → (b : Bool) → (m == n) ≡ b → is_somewhere (if a && b then t else table s m) ≡ is_somewhere (table s m)
      go true f true g = let u : s ≡ r = grind arith in let v : m ≡ n = grind arith in rw (u, v) (sym e)
      go true f false g = refl
      go false f b g = refl

  -- where the cell had a target already, no load changes
  pub loads_stay : is_somewhere (table r n) ≡ is_somewhere t → (m : ℕ) → load_of c changed m ≡ load_of c table m
  loads_stay e m = count_agree (λ s. is_somewhere (changed s m)) (λ s. is_somewhere (table s m)) (λ s. same_somewhere e s m) (range_with_len 0 (length c.leaves))

  no_second : (s m : ℕ) → m ≢ n → (s == r && m == n) ≡ false
  no_second s m other = let f : (m == n) ≡ false = grind arith in rw f (and-false (s == r))

  no_first : (s m : ℕ) → s ≢ r → (s == r && m == n) ≡ false
  no_first s m other = let f : (s == r) ≡ false = grind arith in rw f refl

  -- nor where it is of another node
  pub other_loads_stay : (m : ℕ) → m ≢ n → load_of c changed m ≡ load_of c table m
  other_loads_stay m other =
      count_agree (λ s. is_somewhere (changed s m)) (λ s. is_somewhere (table s m)) (λ s. sym (other_cell s m (no_second s m other))) (range_with_len 0 (length c.leaves))

  here : is_somewhere (changed r n) ≡ is_somewhere t
  here = let e : (r == r) ≡ true = grind arith in let f : (n == n) ≡ true = grind arith in rw (e, f) refl

  -- a first target is one more
  pub load_grows : r < length c.leaves → is_somewhere (table r n) ≡ false → is_somewhere t ≡ true → load_of c changed n ≡ load_of c table n + 1
  load_grows low not_yet now =
      one_more_counted (λ s. is_somewhere (table s n)) (λ s. is_somewhere (changed s n)) r (λ s other. other_cell s n (no_first s n other)) not_yet (here ∙ now)
      0 (length c.leaves) (omega arith) (omega arith)
