-- Rows of few terms, after one more and after those of another row.
use Rattle.std.proofs.Common.{◌≡◌, ◌≢◌, ◌⊎◌, ℕ, ◌+◌, ◌*◌, ◌<◌, ◌≤◌, ◌+ℤ◌, ◌≤ℤ◌, pos, neg_ℤ, List, [], length, inl, inr, sym, ap, subst, arith, ℤ}
use Rattle.std.proofs.lemmas.Bool.{cases_eq, cases_lt}
use Rattle.std.proofs.lemmas.Int.{ints}
use Rattle.std.proofs.lemmas.List.{get_or_past}
use Rattle.score.specs.Total.{IsScore}
use Rattle.score.specs.Row.{Tally, score_tally_of, finite_at, finite_part}
use Rattle.score.specs.Inner.SmallRows.{IsSmallRow}
use Rattle.score.proofs.Tallies.{finite_part_least, finite_part_most}

-- after one more term
pub small_put : (old new : List Tally) (terms node : ℕ) (term : ℤ) → IsScore term → IsSmallRow terms old
    → finite_at new node ≡ (finite_at old node +ℤ finite_part term) → ((n : ℕ) → n ≢ node → finite_at new n ≡ finite_at old n) → IsSmallRow (terms + 1) new
small_put old new terms node term within small here others = record {
  least = λ n. least n (cases_eq n node);
  most = λ n. most n (cases_eq n node);
}
  where
    least : (n : ℕ) → (n ≡ node) ⊎ (n ≢ node) → neg_ℤ (pos (1000000 * (terms + 1))) ≤ℤ finite_at new n
    least n (inl e) =
        let f = finite_part_least term within in
        let s = small.least node in
        let h : neg_ℤ (pos (1000000 * (terms + 1))) ≤ℤ finite_at new node = omega (arith, ints) in
        subst (λ (k : ℕ). neg_ℤ (pos (1000000 * (terms + 1))) ≤ℤ finite_at new k) (sym e) h
    least n (inr e) = let f = others n e in let s = small.least n in omega (arith, ints)

    most : (n : ℕ) → (n ≡ node) ⊎ (n ≢ node) → finite_at new n ≤ℤ pos (1000000 * (terms + 1))
    most n (inl e) =
        let f = finite_part_most term within in
        let s = small.most node in
        let h : finite_at new node ≤ℤ pos (1000000 * (terms + 1)) = omega (arith, ints) in
        subst (λ (k : ℕ). finite_at new k ≤ℤ pos (1000000 * (terms + 1))) (sym e) h
    most n (inr e) = let f = others n e in let s = small.most n in omega (arith, ints)

-- after the terms of another row
pub small_add : (old other new : List Tally) (terms more : ℕ) → IsSmallRow terms old → IsSmallRow more other → length new ≡ length old
    → ((n : ℕ) → n < length old → finite_at new n ≡ (finite_at old n +ℤ finite_at other n)) → IsSmallRow (terms + more) new
small_add old other new terms more small small' long sums = record {
  least = λ n. least n (cases_lt n (length old));
  most = λ n. most n (cases_lt n (length old));
}
  where
    least : (n : ℕ) → (n < length old) ⊎ (length old ≤ n) → neg_ℤ (pos (1000000 * (terms + more))) ≤ℤ finite_at new n
    least n (inl h) = let e = sums n h in let a = small.least n in let b = small'.least n in omega (arith, ints)
    least n (inr h) = let e = ap (λ (t : Tally). t.finite) (get_or_past new n (score_tally_of []) (omega arith)) in omega (arith, ints)

    most : (n : ℕ) → (n < length old) ⊎ (length old ≤ n) → finite_at new n ≤ℤ pos (1000000 * (terms + more))
    most n (inl h) = let e = sums n h in let a = small.most n in let b = small'.most n in omega (arith, ints)
    most n (inr h) = let e = ap (λ (t : Tally). t.finite) (get_or_past new n (score_tally_of []) (omega arith)) in omega (arith, ints)
