-- One leaf changes by one, and with it all that stands above it.
use Rattle.std.proofs.Common.{arith, ◌≡◌, ◌<◌, ◌≤◌, ◌+◌, ◌/◌, ℕ, List, length, slice_index_or, slice_set, refl, sym, ◌∙◌, ◌≢◌, ◌⊎◌, inl, inr}
use Rattle.std.proofs.lemmas.Bool.{cases_eq}
use Rattle.std.proofs.lemmas.List.{get_or-set_same, get_or-set_other, length-set}
use Rattle.listed.specs.Counting.{IsTree}

-- the count of the node is still to change, up by the one or down by the other; those below it changed, and those above it didn't
pub record Changes (up down leaves : ℕ) (begun counts : List ℕ) (node : ℕ) : Type 0 where
  pub size : length counts ≡ leaves + leaves
  pub below : node < leaves
  pub sums : (i : ℕ) → 0 < i → i < leaves → i ≢ node
      → slice_index_or counts i 0 ≡ slice_index_or counts (i + i) 0 + slice_index_or counts (i + i + 1) 0
  pub here : 0 < node
      → slice_index_or counts node 0 + up ≡ (slice_index_or counts (node + node) 0 + slice_index_or counts (node + node + 1) 0) + down
  pub still : (i : ℕ) → i ≤ node → slice_index_or counts i 0 ≡ slice_index_or begun i 0
  pub at_leaves : (i : ℕ) → leaves ≤ i → slice_index_or counts i 0 ≡ slice_index_or begun i 0

-- a place is the one that is written, or it keeps what it had
record IsWritten (xs : List ℕ) (at v i : ℕ) : Type 0 where
  pub there : i ≡ at
  pub value : slice_index_or (slice_set xs at v) i 0 ≡ v

record IsKept (xs : List ℕ) (at v i : ℕ) : Type 0 where
  pub elsewhere : i ≢ at
  pub value : slice_index_or (slice_set xs at v) i 0 ≡ slice_index_or xs i 0

written : (xs : List ℕ) (at v i : ℕ) → at < length xs → IsWritten xs at v i ⊎ IsKept xs at v i
written xs at v i lt = on (cases_eq i at) where
  on : (i ≡ at) ⊎ (i ≢ at) → IsWritten xs at v i ⊎ IsKept xs at v i
  on (inl e) = inl (record { there = e; value = rw e (get_or-set_same xs at v 0 lt) })
  on (inr d) = inr (record { elsewhere = d; value = get_or-set_other xs at i v 0 d })

kept : (xs : List ℕ) (at v i : ℕ) → i ≢ at → slice_index_or (slice_set xs at v) i 0 ≡ slice_index_or xs i 0
kept xs at v i d = get_or-set_other xs at i v 0 d

module _ (up down leaves : ℕ) (begun counts : List ℕ) (node v : ℕ) (c : Changes up down leaves begun counts node) (some : 0 < node)
    (is : v + down ≡ slice_index_or counts node 0 + up) where
  within : node < length counts
  within = let s = c.size in let b = c.below in omega arith

  sums_on : (i : ℕ) → 0 < i → i < leaves → i ≢ node / 2
      → slice_index_or (slice_set counts node v) i 0
      ≡ slice_index_or (slice_set counts node v) (i + i) 0 + slice_index_or (slice_set counts node v) (i + i + 1) 0
  sums_on i low high apart =
      let l = kept counts node v (i + i) (λ e. omega arith) in
      let r = kept counts node v (i + i + 1) (λ e. omega arith) in
      on l r (written counts node v i within) where
        on : slice_index_or (slice_set counts node v) (i + i) 0 ≡ slice_index_or counts (i + i) 0
            → slice_index_or (slice_set counts node v) (i + i + 1) 0 ≡ slice_index_or counts (i + i + 1) 0
            → IsWritten counts node v i ⊎ IsKept counts node v i
            → slice_index_or (slice_set counts node v) i 0
            ≡ slice_index_or (slice_set counts node v) (i + i) 0 + slice_index_or (slice_set counts node v) (i + i + 1) 0
        on l r (inl w) =
            let e = w.there in
            let h : slice_index_or counts i 0 + up ≡ (slice_index_or counts (i + i) 0 + slice_index_or counts (i + i + 1) 0) + down
            = rw e (c.here some) in
            let j : v + down ≡ slice_index_or counts i 0 + up = rw e is in
            let n = w.value in
            omega arith
        on l r (inr k) = let s = c.sums i low high k.elsewhere in let n = k.value in omega arith

  here_on : (h : ℕ) → h ≡ node / 2 → 0 < h
      → slice_index_or (slice_set counts node v) h 0 + up
      ≡ (slice_index_or (slice_set counts node v) (h + h) 0 + slice_index_or (slice_set counts node v) (h + h + 1) 0) + down
  here_on h half low =
      let k = kept counts node v h (λ e. omega arith) in
      let b = c.below in
      let s = c.sums h low (omega arith) (λ e. omega arith) in
      on k s (written counts node v (h + h) within) (written counts node v (h + h + 1) within) where
        on : slice_index_or (slice_set counts node v) h 0 ≡ slice_index_or counts h 0
            → slice_index_or counts h 0 ≡ slice_index_or counts (h + h) 0 + slice_index_or counts (h + h + 1) 0
            → IsWritten counts node v (h + h) ⊎ IsKept counts node v (h + h) → IsWritten counts node v (h + h + 1) ⊎ IsKept counts node v (h + h + 1)
            → slice_index_or (slice_set counts node v) h 0 + up
            ≡ (slice_index_or (slice_set counts node v) (h + h) 0 + slice_index_or (slice_set counts node v) (h + h + 1) 0) + down
        on k s (inl w) (inl u) = let a = w.there in let b = u.there in absurd (let f : ⊥ = omega arith in f)
        on k s (inl w) (inr u) =
            let j : v + down ≡ slice_index_or counts (h + h) 0 + up = rw w.there is in
            let a = w.value in let b = u.value in omega arith
        on k s (inr w) (inl u) =
            let j : v + down ≡ slice_index_or counts (h + h + 1) 0 + up = rw u.there is in
            let a = w.value in let b = u.value in omega arith
        on k s (inr w) (inr u) =
            let a = w.elsewhere in let b = u.elsewhere in
            absurd (let f : ⊥ = neither (cases_eq node (h + h)) a b in f) where
              neither : (node ≡ h + h) ⊎ (node ≢ h + h) → h + h ≢ node → h + h + 1 ≢ node → ⊥
              neither (inl e) a b = a (sym e)
              neither (inr d) a b = b (omega arith)

  pub changes_on : Changes up down leaves begun (slice_set counts node v) (node / 2)
  changes_on = record {
    size = length-set counts node v ∙ c.size;
    below = let b = c.below in omega arith;
    sums = sums_on;
    here = here_on (node / 2) refl;
    still = λ i le. kept counts node v i (λ e. omega arith) ∙ c.still i (omega arith);
    at_leaves = λ i le. kept counts node v i (λ e. let b = c.below in omega arith) ∙ c.at_leaves i le;
  }

-- a leaf was written
pub changes_begin : (up down leaves : ℕ) (counts : List ℕ) (leaf v : ℕ) → IsTree leaves counts → leaves ≤ leaf → leaf < leaves + leaves
    → v + down ≡ slice_index_or counts leaf 0 + up
    → Changes up down leaves (slice_set counts leaf v) (slice_set counts leaf v) (leaf / 2)
changes_begin up down leaves counts leaf v t low high is = record {
  size = length-set counts leaf v ∙ t.size;
  below = omega arith;
  sums = λ i some lt apart.
      let a = kept counts leaf v i (λ e. omega arith) in
      let b = kept counts leaf v (i + i) (λ e. omega arith) in
      let d = kept counts leaf v (i + i + 1) (λ e. omega arith) in
      let s = t.sums i some lt in
      omega arith;
  here = here_at (leaf / 2) refl;
  still = λ i le. refl;
  at_leaves = λ i le. refl;
} where
  within : leaf < length counts
  within = let s = t.size in omega arith

  here_at : (h : ℕ) → h ≡ leaf / 2 → 0 < h
      → slice_index_or (slice_set counts leaf v) h 0 + up
      ≡ (slice_index_or (slice_set counts leaf v) (h + h) 0 + slice_index_or (slice_set counts leaf v) (h + h + 1) 0) + down
  here_at h half some =
      let k = kept counts leaf v h (λ e. omega arith) in
      let s = t.sums h some (omega arith) in
      on k s (written counts leaf v (h + h) within) (written counts leaf v (h + h + 1) within) where
        on : slice_index_or (slice_set counts leaf v) h 0 ≡ slice_index_or counts h 0
            → slice_index_or counts h 0 ≡ slice_index_or counts (h + h) 0 + slice_index_or counts (h + h + 1) 0
            → IsWritten counts leaf v (h + h) ⊎ IsKept counts leaf v (h + h) → IsWritten counts leaf v (h + h + 1) ⊎ IsKept counts leaf v (h + h + 1)
            → slice_index_or (slice_set counts leaf v) h 0 + up
            ≡ (slice_index_or (slice_set counts leaf v) (h + h) 0 + slice_index_or (slice_set counts leaf v) (h + h + 1) 0) + down
        on k s (inl w) (inl u) = let a = w.there in let b = u.there in absurd (let f : ⊥ = omega arith in f)
        on k s (inl w) (inr u) =
            let j : v + down ≡ slice_index_or counts (h + h) 0 + up = rw w.there is in
            let a = w.value in let b = u.value in omega arith
        on k s (inr w) (inl u) =
            let j : v + down ≡ slice_index_or counts (h + h + 1) 0 + up = rw u.there is in
            let a = w.value in let b = u.value in omega arith
        on k s (inr w) (inr u) =
            let a = w.elsewhere in let b = u.elsewhere in
            absurd (let f : ⊥ = neither (cases_eq leaf (h + h)) a b in f) where
              neither : (leaf ≡ h + h) ⊎ (leaf ≢ h + h) → h + h ≢ leaf → h + h + 1 ≢ leaf → ⊥
              neither (inl e) a b = a (sym e)
              neither (inr d) a b = b (omega arith)

-- all was changed
pub changed : (up down leaves : ℕ) (begun counts : List ℕ) (node : ℕ) → node ≡ 0 → Changes up down leaves begun counts node → IsTree leaves counts
changed up down leaves begun counts node none c = record {
  size = c.size;
  sums = λ i some lt. c.sums i some lt (λ e. omega arith);
}
