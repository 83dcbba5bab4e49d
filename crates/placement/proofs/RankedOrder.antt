-- Decisions with their keys are in an order, and by it they are sorted.
use Rattle.std.proofs.Common.{arith, ◌≡◌, ℕ, suc, zero, ◌+◌, ◌-◌, ◌<◌, ◌==◌, ◌&&◌, ◌||◌, nat_lt, not, Bool, true, false, List, length, slice_index_or, Contains, refl, sym, ap, subst, ◌∙◌}
use Rattle.std.specs.Cmp.{IsStrictWeakOrder}
use Rattle.std.specs.List.Sorted.{IsPermutation, IsSortedBy}
use Rattle.std.proofs.lemmas.Bool.{false_from_ne_true}
use Rattle.std.proofs.lemmas.List.{length-map}
use Rattle.std.proofs.lemmas.List.Sorted.{Contains-permutation, IsPermutation-sym}
use Rattle.lemmas.proofs.Members.{in_map, of_map}
use Rattle.plan_laws.proofs.MadeBefore.{less_somewhere}
use Rattle.plan_laws.proofs.OneOrder.{less_one_way, one_way, tie_one_way}
use Rattle.cluster_types.specs.declared.placement.Decision.{Decision}
use Rattle.cluster_types.specs.Decisions.{Key, is_less, is_place, leaf_of}
use Rattle.placement.specs.declared.order.ranked_decisions.Ranked.{Ranked}
use Rattle.placement.specs.Inner.Turns.{AreSorted, ranked_by, ranks_before}

-- by keys first: l and its fellow say which is less, t whose leaf comes first

-- of three keys the first isn't above the second, and that not above the third
chained : (yx xy zy yz zx xz t u v : Bool) → (zx ≡ true → zy || yx ≡ true) → (xy ≡ true → xz || zy ≡ true) → (yz ≡ true → yx || xz ≡ true)
    → (t ≡ false → u ≡ false → v ≡ false) → yx || not xy && t ≡ false → zy || not yz && u ≡ false → zx || not xz && v ≡ false
chained true xy zy yz zx xz t u v f g k tie a b = let e : true ≡ false = a in cc
chained false xy true yz zx xz t u v f g k tie a b = let e : true ≡ false = b in cc
chained false xy false yz true xz t u v f g k tie a b = let e : false ≡ true = f refl in cc
chained false xy false yz false true t u v f g k tie a b = refl
chained false true false yz false false t u v f g k tie a b = let e : false ≡ true = g refl in cc
chained false false false true false false t u v f g k tie a b = let e : false ≡ true = k refl in cc
chained false false false false false false t u v f g k tie a b = tie a b

tie-chained : (x y z : ℕ) (p q r : Bool) → nat_lt x y || x == y && p && not q ≡ false → nat_lt y z || y == z && q && not r ≡ false
    → nat_lt x z || x == z && p && not r ≡ false
tie-chained x y z true true true h k = grind arith
tie-chained x y z true true false h k = grind arith
tie-chained x y z true false true h k = grind arith
tie-chained x y z true false false h k = grind arith
tie-chained x y z false true true h k = grind arith
tie-chained x y z false true false h k = grind arith
tie-chained x y z false false true h k = grind arith
tie-chained x y z false false false h k = grind arith

abbrev tie : Ranked → Ranked → Bool
tie x y = nat_lt (leaf_of x.decision) (leaf_of y.decision) || leaf_of x.decision == leaf_of y.decision && is_place x.decision && not (is_place y.decision)

pub ranks-order : IsStrictWeakOrder ranks_before
ranks-order = record {
  one_way = λ x y h. false_from_ne_true (ranks_before y x) (λ k.
      one_way (is_less y.key x.key) (is_less x.key y.key) (tie x y) (tie y x) (less_one_way y.key x.key)
      (tie_one_way (leaf_of x.decision) (leaf_of y.decision) (is_place x.decision) (is_place y.decision)) h k);
  chain = λ x y z h k.
      chained (is_less y.key x.key) (is_less x.key y.key) (is_less z.key y.key) (is_less y.key z.key) (is_less z.key x.key) (is_less x.key z.key) (tie x y) (tie y z) (tie x z)
      (less_somewhere z.key x.key y.key) (less_somewhere x.key y.key z.key) (less_somewhere y.key z.key x.key)
      (tie-chained (leaf_of x.decision) (leaf_of y.decision) (leaf_of z.decision) (is_place x.decision) (is_place y.decision) (is_place z.decision)) h k;
}

-- what is sorted is in order at any distance
far : (xs : List Ranked) → IsSortedBy ranks_before xs → (i n : ℕ) (z : Ranked) → i + suc n < length xs
    → ranks_before (slice_index_or xs (i + suc n) z) (slice_index_or xs i z) ≡ false
far xs up i zero z lt =
    let e : i + 1 ≡ i + suc zero = omega arith in
    subst (λ k. ranks_before (slice_index_or xs k z) (slice_index_or xs i z) ≡ false) e (up i z (omega arith) (omega (arith, lt)))
far xs up i (suc n) z lt =
    let e : i + suc n + 1 ≡ i + suc (suc n) = omega arith in
    let step : ranks_before (slice_index_or xs (i + suc (suc n)) z) (slice_index_or xs (i + suc n) z) ≡ false =
    subst (λ k. ranks_before (slice_index_or xs k z) (slice_index_or xs (i + suc n) z) ≡ false) e (up (i + suc n) z (omega arith) (omega (arith, lt))) in
    ranks-order.chain (slice_index_or xs (i + suc (suc n)) z) (slice_index_or xs (i + suc n) z) (slice_index_or xs i z) step (far xs up i n z (omega (arith, lt)))

pub in-order : (xs : List Ranked) → IsSortedBy ranks_before xs → (i j : ℕ) (z : Ranked) → i < j → j < length xs
    → ranks_before (slice_index_or xs j z) (slice_index_or xs i z) ≡ false
in-order xs up i j z lower lt =
    let e : i + suc (j - i - 1) ≡ j = omega (arith, lower) in
    subst (λ k. ranks_before (slice_index_or xs k z) (slice_index_or xs i z) ≡ false) e (far xs up i (j - i - 1) z (omega (arith, lower, lt)))

-- sorting keeps what is decided, and its keys
pub are-sorted : (key : Decision → Key) (ds : List Decision) (old new : List Ranked) → old ≡ ranked_by key ds → IsPermutation old new → length new ≡ length old
    → IsSortedBy ranks_before new → AreSorted key ds new
are-sorted key ds old new is same long up = record {
  size = long ∙ (ap length is ∙ length-map ds (λ d. record { decision = d; key = key d }));
  known = λ x among.
      let was : Contains (ranked_by key ds) x = subst (λ (xs : List Ranked). Contains xs x) is (Contains-permutation new old x (IsPermutation-sym old new same) among) in
      let m = of_map (λ d. record { decision = d; key = key d }) ds x was in
      (subst (λ (y : Ranked). Contains ds y.decision) m.gives m.among, sym (ap (λ (y : Ranked). y.key) m.gives) ∙ ap (λ (y : Ranked). key y.decision) m.gives);
  all = λ d among.
      Contains-permutation old new (record { decision = d; key = key d }) same
      (subst (λ (xs : List Ranked). Contains xs (record { decision = d; key = key d })) (sym is) (in_map (λ e. record { decision = e; key = key e }) ds d among));
  sorted = λ i j z lower lt. in-order new up i j z lower lt;
}
