-- The terms of two rows together.
use Rattle.std.proofs.Common.{◌≡◌, ℕ, ◌<◌, ◌≤◌, ℤ, ◌+ℤ◌, List, [], ◌∷◌, ◌++◌, length, map, refl, ap, ◌∙◌, arith}
use Rattle.std.specs.List.{range_with_len}
use Rattle.std.proofs.lemmas.Int.{ints}
use Rattle.score.specs.Row.{IsSumInRange, Tally, score_tally_of, Stands, finite_at, together}
use Rattle.placement.specs.Rows.{each_of, few, IsRow}
use Rattle.placement.proofs.FewTerms.{few-append}
use Rattle.placement.proofs.TermRows.{row-length}

together-each : (f g : ℕ → List ℤ) (xs : List ℕ) → together (map f xs) (map g xs) ≡ map (λ n. f n ++ g n) xs
together-each f g [] = refl
together-each f g (x ∷ xs) = ap (λ ts. (f x ++ g x) ∷ ts) (together-each f g xs)

-- the terms of two rows
pub add-rows : (nodes : ℕ) (f g : ℕ → List ℤ) (old other new : List Tally)
    → ((ts us : List (List ℤ)) → Stands old ts → Stands other us → Stands new (together ts us))
    → ((n : ℕ) → n < length old → finite_at new n ≡ (finite_at old n +ℤ finite_at other n))
    → IsRow nodes f old → IsRow nodes g other → IsRow nodes (λ n. f n ++ g n) new
add-rows nodes f g old other new stand sums one two = record {
  stands = stand (each_of nodes f) (each_of nodes g) one.stands two.stands ∙ ap (map score_tally_of) (together-each f g (range_with_len 0 nodes));
  least = λ n low.
      let s = sums n (omega (arith, low, row-length nodes f old one)) in
      let a = one.least n low in
      let b = two.least n low in
      let k = few-append (f n) (g n) in
      omega (arith, ints, s, a, b, k);
  most = λ n low.
      let s = sums n (omega (arith, low, row-length nodes f old one)) in
      let a = one.most n low in
      let b = two.most n low in
      let k = few-append (f n) (g n) in
      omega (arith, ints, s, a, b, k);
}

-- two rows of few terms fit together
pub rows-fit : (nodes : ℕ) (f g : ℕ → List ℤ) (one other : List Tally) → IsRow nodes f one → IsRow nodes g other
    → ((n : ℕ) → n < nodes → few (f n) ≤ 6000) → ((n : ℕ) → n < nodes → few (g n) ≤ 6000)
    → (n : ℕ) → n < nodes → IsSumInRange (finite_at one n +ℤ finite_at other n)
rows-fit nodes f g one other is this k m n low =
    let a = is.least n low in
    let b = this.least n low in
    let d = is.most n low in
    let e = this.most n low in
    let x = k n low in
    let y = m n low in
    (omega (arith, ints, a, b, x, y), omega (arith, ints, d, e, x, y))
