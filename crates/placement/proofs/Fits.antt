-- Nodes of a row whose total is 0 or more.
use Rattle.std.proofs.Common.{◌≡◌, ℕ, ◌+◌, ◌<◌, ℤ, pos, Bool, not, ◌||◌, List, map, ap, ◌∙◌, arith}
use Rattle.std.specs.Int.{is_negative}
use Rattle.std.specs.List.{list_any, range_with_len}
use Rattle.std.proofs.lemmas.List.FromFn.{get_or-map-range_with_len}
use Rattle.lemmas.proofs.Ranges.{range-more}
use Rattle.lemmas.proofs.Searches.{any-more}
use Rattle.score.specs.Choice.{has_enough}
use Rattle.score.specs.Total.{total_of}

-- one number more
pub any-next : (p : ℕ → Bool) (n : ℕ) → list_any p (range_with_len 0 (n + 1)) ≡ (list_any p (range_with_len 0 n) || p n)
any-next p n = ap (list_any p) (range-more n) ∙ any-more p (range_with_len 0 n) n

-- whether the total of a node is 0 or more, by its terms
pub candidate-is : (nodes : ℕ) (terms : ℕ → List ℤ) (n : ℕ) → n < nodes
    → has_enough (map (λ k. total_of (terms k)) (range_with_len 0 nodes)) n ≡ not (is_negative (total_of (terms n)))
candidate-is nodes terms n low =
    ap (λ z. not (is_negative z)) (get_or-map-range_with_len (λ k. total_of (terms k)) 0 nodes n n (pos 0) low (omega arith))
