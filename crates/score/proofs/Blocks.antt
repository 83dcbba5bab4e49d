-- Eight lanes, loaded from a list and stored into one.
use Rattle.std.proofs.Common.{◌≡◌, ℕ, ◌+◌, ◌-◌, ◌<◌, ◌≤◌, List, [], ◌∷◌, length, suc, get_or, ap, ◌∙◌, arith, subst}
use Rattle.std.specs.Simd.Lanes.{zip2, Each2, put_chunk, chunk}
use Rattle.std.proofs.lemmas.Simd.{length-zip2, length-chunk, get_or-chunk, get_or-zip2, get_or-put_chunk_at, get_or-put_chunk_above}

-- a fact of each pair of lanes, from a fact at each place
pub Each2_from : (P : ℕ → ℕ → Type 0) (xs ys : List ℕ) → ((i : ℕ) → i < length xs → P (get_or xs i 0) (get_or ys i 0)) → Each2 P xs ys
Each2_from P [] ys h = tt
Each2_from P (x ∷ xs) [] h = tt
Each2_from P (x ∷ xs) (y ∷ ys) h = (h 0 (omega arith), Each2_from P xs ys (λ i l. h (suc i) (omega arith)))

-- a lane that was loaded
pub loaded : (xs : List ℕ) (at k : ℕ) → at ≤ k → k < at + 8 → get_or (chunk at 8 xs) (k - at) 0 ≡ get_or xs k 0
loaded xs at k from to = get_or-chunk at 8 xs (k - at) 0 (omega arith) ∙ ap (λ i. get_or xs i 0) (let e : at + (k - at) ≡ k = omega arith in e)

-- a place that a lane was stored to
pub stored : (into lanes : List ℕ) (at k : ℕ) → length lanes ≡ 8 → at + 8 ≤ length into → at ≤ k → k < at + 8
    → get_or (put_chunk at into lanes) k 0 ≡ get_or lanes (k - at) 0
stored into lanes at k long room from to =
    let e : at + (k - at) ≡ k = omega arith in
    subst (λ (i : ℕ). get_or (put_chunk at into lanes) i 0 ≡ get_or lanes (k - at) 0) e
    (get_or-put_chunk_at at into lanes (k - at) 0 (omega arith) (omega arith))

-- a place above them
pub stored_above : (into lanes : List ℕ) (at k : ℕ) → length lanes ≡ 8 → at + 8 ≤ k → get_or (put_chunk at into lanes) k 0 ≡ get_or into k 0
stored_above into lanes at k long above = get_or-put_chunk_above at into lanes k 0 (omega arith)
