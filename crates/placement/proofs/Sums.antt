-- The total of the colocations that count is the sum of what each gives, cut.
use Rattle.std.proofs.Common.{◌≡◌, ℕ, Bool, true, false, not, ◌&&◌, ℤ, pos, ◌+ℤ◌, List, [], ◌∷◌, map, filter, fold, refl, sym, ap, arith}
use Rattle.std.proofs.lemmas.Int.{ints}
use Rattle.score.specs.Total.{infinity, minus_infinity, has_points, sum_of, cut, total_of}
use Rattle.cluster_types.specs.declared.placement.Decision.{Decision}
use Rattle.cluster_types.specs.declared.rules.Colocation.{Colocation}
use Rattle.cluster_types.specs.Choice.{is_mandatory, is_separation, is_dependent}
use Rattle.cluster_types.specs.Tables.{Targets, holds_role}
use Rattle.placement.specs.Tests.{counts, points}

module _ (table : Targets) (d : Decision) (n : ℕ) where
  abbrev pub scores : List Colocation → List ℤ
  scores cols = map (λ (col : Colocation). col.score) (filter (counts table d n) cols)

  -- what counts is finite
  finite : (col : Colocation) (m s t u : Bool) → is_mandatory col ≡ m → is_separation col ≡ s → (not m && not s && t && u) ≡ true → (m ≡ false) × (s ≡ false)
  finite col true s t u a b h = cc
  finite col false true t u a b h = cc
  finite col false false t u a b h = (refl, refl)

  no_infinity : (cols : List Colocation) → (has_points infinity (scores cols) ≡ false) × (has_points minus_infinity (scores cols) ≡ false)
  no_infinity [] = (refl, refl)
  no_infinity (col ∷ cols) = split (counts table d n col) refl (no_infinity cols)
    where
      split : (t : Bool) → counts table d n col ≡ t → (has_points infinity (scores cols) ≡ false) × (has_points minus_infinity (scores cols) ≡ false)
          → (has_points infinity (scores (col ∷ cols)) ≡ false) × (has_points minus_infinity (scores (col ∷ cols)) ≡ false)
      split true h rest =
          let bounds = finite col (is_mandatory col) (is_separation col) (is_dependent d col) (holds_role table col.primary col.primary_role n) refl refl h in
          rw h ((rw (bounds.0, rest.0) refl), (rw (bounds.1, rest.1) refl))
      split false h rest = rw h rest

  same_sum : (cols : List Colocation) (start : ℤ) → fold (λ sum term. sum +ℤ term) start (scores cols) ≡ fold (λ sum term. sum +ℤ term) start (map (points table d n) cols)
  same_sum [] start = refl
  same_sum (col ∷ cols) start = split (counts table d n col) refl (same_sum cols)
    where
      split : (t : Bool) → counts table d n col ≡ t
          → ((from : ℤ) → fold (λ sum term. sum +ℤ term) from (scores cols) ≡ fold (λ sum term. sum +ℤ term) from (map (points table d n) cols))
          → fold (λ sum term. sum +ℤ term) start (scores (col ∷ cols)) ≡ fold (λ sum term. sum +ℤ term) start (map (points table d n) (col ∷ cols))
      split true h rest = rw h (rest (start +ℤ col.score))
      split false h rest =
          let still : start +ℤ pos 0 ≡ start = omega (arith, ints) in
          rw (h, still) (rest start)

  pub total_is_sum : (cols : List Colocation) → cut (sum_of (map (points table d n) cols)) ≡ total_of (scores cols)
  total_is_sum cols = let none = no_infinity cols in rw (none.0, none.1) (ap cut (sym (same_sum cols (pos 0))))
