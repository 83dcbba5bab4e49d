-- One edge more.
use Rattle.std.proofs.Common.{arith, ◌≡◌, ◌<◌, ◌≤◌, ◌+◌, ◌==◌, ℕ, Bool, false, List, [], ◌∷◌, ◌++◌, length, take, filter, cond, slice_index_or, slice_set, refl, sym, ◌∙◌, ◌≢◌, ◌⊎◌, inl, inr}
use Rattle.std.specs.List.{range_with_len}
use Rattle.std.proofs.lemmas.Bool.{cases_eq, ne_eqb}
use Rattle.std.proofs.lemmas.List.{get_or-set_same, get_or-set_other, length-take, append-nil, get_or_default}
use Rattle.std.proofs.lemmas.List.Elements.{Contains-get_or}
use Rattle.std.proofs.lemmas.List.Sums.{count_by-le-length, count_by_more_yes, count_by_more_no}
use Rattle.lemmas.proofs.Ranges.{filter-more}
use Rattle.edges.specs.declared.edge.Edge.{Edge}
use Rattle.edges.specs.Loops.{EndsWithin}
use Rattle.edges.specs.Inner.Clearing.{edges_from}

pub ends_at : (positions : ℕ) (edges : List Edge) (i : ℕ) (d : Edge) → EndsWithin positions edges → i < length edges
    → ((slice_index_or edges i d).before < positions) × ((slice_index_or edges i d).after < positions)
ends_at positions edges i d ends lt = ends (slice_index_or edges i d) (Contains-get_or edges i d lt)

-- no more edges lead from a position than there are
pub few_from : (edges : List Edge) (i x : ℕ) → edges_from (take i edges) x ≤ i
few_from edges i x = omega (arith, count_by-le-length (λ e. x == e.before) (take i edges), length-take i edges)

module _ (counts : List ℕ) (edges : List Edge) (i : ℕ) (d : Edge) (lt : i < length edges)
    (within : (slice_index_or edges i d).before < length counts)
    (n : ℕ) (next : n ≡ slice_index_or counts (slice_index_or edges i d).before 0 + 1) where
  counted_there : slice_index_or counts (slice_index_or edges i d).before 0 ≡ edges_from (take i edges) (slice_index_or edges i d).before
      → slice_index_or (slice_set counts (slice_index_or edges i d).before n) (slice_index_or edges i d).before 0 ≡ edges_from
      (take (i + 1) edges) (slice_index_or edges i d).before
  counted_there old =
      let s = get_or-set_same counts (slice_index_or edges i d).before n 0 within in
      let c = count_by_more_yes (λ e. (slice_index_or edges i d).before == e.before) edges i d lt (grind arith) in
      omega arith

  counted_elsewhere : (x : ℕ) → x ≢ (slice_index_or edges i d).before → slice_index_or counts x 0 ≡ edges_from (take i edges) x
      → slice_index_or (slice_set counts (slice_index_or edges i d).before n) x 0 ≡ edges_from (take (i + 1) edges) x
  counted_elsewhere x differ old =
      let s = get_or-set_other counts (slice_index_or edges i d).before x n 0 differ in
      let c = count_by_more_no (λ e. x == e.before) edges i d lt (ne_eqb x _ differ) in
      omega arith

  pub counted_more : (x : ℕ) → slice_index_or counts x 0 ≡ edges_from (take i edges) x
      → slice_index_or (slice_set counts (slice_index_or edges i d).before n) x 0 ≡ edges_from (take (i + 1) edges) x
  counted_more x old = on (cases_eq x (slice_index_or edges i d).before) where
    on : (x ≡ (slice_index_or edges i d).before) ⊎ (x ≢ (slice_index_or edges i d).before)
        → slice_index_or (slice_set counts (slice_index_or edges i d).before n) x 0 ≡ edges_from (take (i + 1) edges) x
    on (inl e) = rw e (counted_there (rw e at old))
    on (inr differ) = counted_elsewhere x differ old

-- one number more that may pass
pub filter_more : (p : ℕ → Bool) (n : ℕ) → filter p (range_with_len 0 (n + 1)) ≡ filter p (range_with_len 0 n) ++ cond (p n) (n ∷ []) []
filter_more p n = filter-more p n (p n) refl

pub filter_kept : (p : ℕ → Bool) (n : ℕ) (xs : List ℕ) → p n ≡ false → xs ≡ filter p (range_with_len 0 n)
    → xs ≡ filter p (range_with_len 0 (n + 1))
filter_kept p n xs fails before =
    let e : filter p (range_with_len 0 (n + 1)) ≡ filter p (range_with_len 0 n) ++ [] = filter-more p n false fails in
    before ∙ sym (e ∙ append-nil (filter p (range_with_len 0 n)))

pub end_of : (positions : ℕ) (edges : List Edge) (d : Edge)
    → ((k : ℕ) → k < length edges → ((slice_index_or edges k d).before < positions) × ((slice_index_or edges k d).after < positions))
    → EndsWithin positions edges
end_of positions edges d each e (k, lt, at) = rw (← at) (rw (get_or_default edges k e d lt) (each k lt))
