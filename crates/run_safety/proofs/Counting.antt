-- Counts of nodes: those on other nodes are fewer than all, and two nodes are more than one.
use Rattle.std.proofs.Common.{arith, ◌≡◌, ◌≢◌, ◌<◌, ◌+◌, ◌==◌, ◌&&◌, not, nat_lt, ℕ, suc, zero, Bool, true, false, refl}
use Rattle.std.specs.Prelude.{count_by, slice_index_or}
use Rattle.std.specs.List.{range_with_len}
use Rattle.std.proofs.lemmas.Bool.{and_from, and_parts, and_right, ne_eqb, not_from_false, not_from_true}
use Rattle.std.proofs.lemmas.Bool.Decides.{nat_tests}
use Rattle.std.proofs.lemmas.List.FromFn.{length-range_with_len, get_or-range_with_len}
use Rattle.lemmas.proofs.Booleans.{denied_first, later, number_itself}
use Rattle.lemmas.proofs.Counts.{count-cons, count_none, count_one_more}
use Rattle.lemmas.proofs.Ranges.{count-same}
use Rattle.run_safety.proofs.Truths.{other_fails}

module _ (p q : ℕ → Bool) (n nodes : ℕ) (low : n < nodes) (here : q n ≡ true) (follows : (m : ℕ) → m < nodes → (m == n) ≡ false → p m ≡ true → q m ≡ true) where
  abbrev others : ℕ → Bool
  others m = not (m == n) && p m

  -- the same below the bound, and nothing past it
  abbrev within : ℕ → Bool
  within m = nat_lt m nodes && others m

  same_within : (m : ℕ) → m < nodes → others m ≡ within m
  same_within m lt = let e : nat_lt m nodes ≡ true = grind (arith, nat_tests) in rw e refl

  weaker : (m : ℕ) → within m ≡ true → q m ≡ true
  weaker m h =
      let parts = and_parts (nat_lt m nodes) (others m) h in
      let lt : m < nodes = (let e = parts.0 in grind (arith, nat_tests)) in
      follows m lt (denied_first (m == n) (p m) parts.1) (later (not (m == n)) (p m) parts.1)

  not_itself : within n ≡ false
  not_itself = and_right (nat_lt n nodes) (others n) (let e : not (n == n) ≡ false = not_from_true (n == n) (number_itself n) in rw e refl)

  -- those that pass on other nodes are fewer than those that pass a weaker test, where this one is among them
  pub others_fewer : count_by (λ m. not (m == n) && p m) (range_with_len 0 nodes) < count_by q (range_with_len 0 nodes)
  others_fewer =
      let same : count_by others (range_with_len 0 nodes) ≡ count_by within (range_with_len 0 nodes) = count-same others within nodes same_within in
      let long = length-range_with_len 0 nodes in
      let at : slice_index_or (range_with_len 0 nodes) n n ≡ n = (let f = get_or-range_with_len 0 nodes n n low in omega (arith, f)) in
      let less = count_one_more within q weaker (range_with_len 0 nodes) n n (omega (arith, long, low)) at not_itself here in
      omega (arith, same, less)

-- two nodes with a target are two targets
pub two_targets : (p : ℕ → Bool) (n m nodes : ℕ) → n < nodes → m < nodes → p n ≡ true → p m ≡ true → (m == n) ≡ false → 1 < count_by p (range_with_len 0 nodes)
two_targets p n m nodes low high h g other =
    let less = others_fewer p p n nodes low h (λ i l o e. e) in
    let some = others_fewer (λ i. false) (λ i. not (i == n) && p i) m nodes high (and_from (not (m == n)) (p m) (not_from_false (m == n) other) g)
    (λ i l o e. absurd (let f : ⊥ = cc in f)) in
    omega (arith, less, some)

pub all_counted : (from count : ℕ) → count_by (λ (m : ℕ). true) (range_with_len from count) ≡ count
all_counted from zero = refl
all_counted from (suc count) =
    let rest = all_counted (from + 1) count in
    let first = count-cons (λ m. true) from (range_with_len (from + 1) count) in omega (arith, rest, first)

-- where nothing is counted on other nodes, none of them passes
pub none_elsewhere : (p : ℕ → Bool) (n m nodes : ℕ) → count_by (λ m. not (m == n) && p m) (range_with_len 0 nodes) ≡ 0 → m < nodes → m ≢ n → p m ≡ false
none_elsewhere p n m nodes h low other =
    let long = length-range_with_len 0 nodes in
    let at : slice_index_or (range_with_len 0 nodes) m m ≡ m = (let f = get_or-range_with_len 0 nodes m m low in omega (arith, f)) in
    other_fails (not (m == n)) (p m) (not_from_false (m == n) (ne_eqb m n other))
    (count_none (λ m. not (m == n) && p m) (range_with_len 0 nodes) h m m (omega (arith, long, low)) at)
