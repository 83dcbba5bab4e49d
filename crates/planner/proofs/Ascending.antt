-- Numbers that are sorted, each once.
use Rattle.std.proofs.Common.{arith, ◌≡◌, ◌≤◌, ℕ, List, length, eqb, sym, subst}
use Rattle.std.specs.List.{dedup}
use Rattle.std.specs.List.Sorted.{IsPermutation, IsSorted}
use Rattle.std.specs.Ordering.{nat_cmp}
use Rattle.std.proofs.lemmas.List.Kept.{Contains-dedup_nat, Contains-from_dedup}
use Rattle.std.proofs.lemmas.List.Sorted.{Contains-permutation, IsPermutation-sym, length_permutation}
use Rattle.std.proofs.lemmas.Map.Keys.{IsStrictlyIncreasing-dedup}
use Rattle.planner.specs.Inner.Serials.{AreAscending}

pub are_ascending : (all sorted numbers : List ℕ) → IsPermutation all sorted → IsSorted nat_cmp sorted → numbers ≡ dedup eqb sorted → length numbers ≤ length sorted
    → AreAscending all numbers
are_ascending all sorted numbers moved up is few = subst (AreAscending all) (sym is) record {
  ascending = IsStrictlyIncreasing-dedup sorted up;
  same = λ k. (
    λ h. Contains-dedup_nat sorted k (Contains-permutation all sorted k moved h),
    λ h. Contains-permutation sorted all k (IsPermutation-sym all sorted moved) (Contains-from_dedup eqb sorted k h),
  );
  few = subst (λ v. length v ≤ length all) is (let e = length_permutation all sorted moved in omega arith);
}
