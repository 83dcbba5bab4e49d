-- The greatest of some totals, with one total more.
use Rattle.std.proofs.Common.{◌≡◌, ℕ, ◌+◌, ℤ, Bool, true, false, if◌then◌else◌, [], ◌∷◌, filter, map, ap, ◌∙◌}
use Rattle.std.specs.Int.{int_max}
use Rattle.std.specs.List.{range_with_len}
use Rattle.std.proofs.lemmas.List.{append-nil, map-append}
use Rattle.std.proofs.lemmas.List.Sums.{fold-append}
use Rattle.lemmas.proofs.Ranges.{filter-more}
use Rattle.score.specs.Total.{minus_infinity}
use Rattle.cluster_types.specs.Decisions.{greatest_of}

module _ (total : ℕ → ℤ) (among : ℕ → Bool) (n : ℕ) where
  pub greatest-more : (here : Bool) → among n ≡ here
      → greatest_of (map total (filter among (range_with_len 0 (n + 1))))
      ≡ (if here then int_max (greatest_of (map total (filter among (range_with_len 0 n)))) (total n) else greatest_of (map total (filter among (range_with_len 0 n))))
  greatest-more true e =
      ap (λ ns. greatest_of (map total ns)) (filter-more among n true e)
      ∙ (ap greatest_of (map-append total (filter among (range_with_len 0 n)) (n ∷ []))
      ∙ fold-append int_max minus_infinity (map total (filter among (range_with_len 0 n))) (total n ∷ []))
  greatest-more false e =
      ap (λ ns. greatest_of (map total ns)) (filter-more among n false e ∙ append-nil (filter among (range_with_len 0 n)))
