-- Rows that stand for terms.
use Rattle.std.proofs.Common.{◌≡◌, ◌≢◌, ℕ, ◌+◌, ◌<◌, ◌≤◌, ◌⊎◌, inl, inr, pos, ◌+ℤ◌, ◌-ℤ◌, Bool, true, false, ◌||◌, if◌then◌else◌, List, [], ◌∷◌, ◌++◌, length, get_or, set, nat_lt, filter, map, replicate, neg_ℤ, zero, suc, refl, sym, ap, ◌∙◌, arith, subst, ℤ}
use Rattle.std.specs.Int.Bits.{bit_or}
use Rattle.std.specs.Ordering.{int_eq}
use Rattle.std.proofs.lemmas.Bool.{cases_eq, cases_lt}
use Rattle.std.proofs.lemmas.Int.{ints}
use Rattle.std.proofs.lemmas.List.{length-map, length-set, get_or-map, get_or-set_same, get_or-set_other, get_or_past, ext_get_or}
use Rattle.score.specs.Total.{sum_of, infinity, total_of}
use Rattle.score.specs.Choice.{points_at}
use Rattle.score.specs.Row.{Tally, score_tally_of, is_finite, finite_part, finite_at, Stands, with_term, together}
use Rattle.score.specs.Inner.Row.{tally_total}
use Rattle.score.specs.StoredRows.{tallies, stored_tally, bias}
use Rattle.score.proofs.StoredTotals.{tally_total_is}
use Rattle.score.proofs.Tallies.{join, tally_is, tally_of-append, flag_or, length-tallies, get_or-tallies, length-together, get_or-together}

-- the lengths of a row and of what it stands for
pub stands_length : (row : List Tally) (terms : List (List ℤ)) → row ≡ map score_tally_of terms → length row ≡ length terms
stands_length row terms h = ap length h ∙ length-map terms score_tally_of

-- the tally of a node
pub stands_at : (row : List Tally) (terms : List (List ℤ)) (k : ℕ) (d : Tally) → row ≡ map score_tally_of terms → k < length row
    → get_or row k d ≡ score_tally_of (get_or terms k [])
stands_at row terms k d h within =
    let long = stands_length row terms h in
    ap (λ r. get_or r k d) h ∙ get_or-map score_tally_of terms k [] d (omega arith)

-- a row stands for terms if each node's tally is that of its terms
pub stands_if : (row : List Tally) (terms : List (List ℤ)) → length row ≡ length terms
    → ((k : ℕ) → k < length row → get_or row k (score_tally_of []) ≡ score_tally_of (get_or terms k [])) → row ≡ map score_tally_of terms
stands_if row terms long each =
    ext_get_or (score_tally_of []) row (map score_tally_of terms) (long ∙ sym (length-map terms score_tally_of))
    (λ k within. each k within ∙ sym (get_or-map score_tally_of terms k [] (score_tally_of []) (omega arith)))

-- a flag that was raised
pub flag_raised : (raised : Bool) (flag : ℕ) → nat_lt 0 (if raised then 1 else flag) ≡ (nat_lt 0 flag || (raised || false))
flag_raised true flag = grind arith
flag_raised false flag = grind arith

-- the finite sum of one term
pub sum_one : (term : ℤ) → sum_of (filter is_finite (term ∷ [])) ≡ finite_part term
sum_one term = go (is_finite term)
  where
    go : (b : Bool) → sum_of (if b then term ∷ [] else []) ≡ (if b then term else pos 0)
    go true = omega (arith, ints)
    go false = refl

-- the tally of a list with one more term
pub tally_more : (minus plus sum minus' plus' sum' : ℕ) (terms : List ℤ) (term : ℤ)
    → minus' ≡ (if int_eq term (neg_ℤ infinity) then 1 else minus)
    → plus' ≡ (if int_eq term infinity then 1 else plus)
    → pos sum' ≡ (pos sum +ℤ finite_part term)
    → stored_tally minus plus sum ≡ score_tally_of terms → stored_tally minus' plus' sum' ≡ score_tally_of (terms ++ term ∷ [])
tally_more minus plus sum minus' plus' sum' terms term m p s h =
    let one = sum_one term in
    let parts : stored_tally minus' plus' sum' ≡ join (stored_tally minus plus sum) (score_tally_of (term ∷ [])) =
    tally_is _ _ (ap (nat_lt 0) m ∙ flag_raised _ minus) (ap (nat_lt 0) p ∙ flag_raised _ plus) (omega (arith, ints)) in
    parts ∙ (ap (λ t. join t (score_tally_of (term ∷ []))) h ∙ sym (tally_of-append terms (term ∷ [])))

-- one more term at a node
pub put_stands : (minuses pluses sums minuses' pluses' sums' : List ℕ) (node : ℕ) (term : ℤ)
    → length minuses ≡ length sums → length pluses ≡ length sums → length sums' ≡ length sums → node < length sums
    → minuses' ≡ set minuses node (if int_eq term (neg_ℤ infinity) then 1 else get_or minuses node 0)
    → pluses' ≡ set pluses node (if int_eq term infinity then 1 else get_or pluses node 0)
    → pos (get_or sums' node 0) ≡ (pos (get_or sums node 0) +ℤ finite_part term)
    → ((k : ℕ) → k ≢ node → get_or sums' k 0 ≡ get_or sums k 0)
    → (terms : List (List ℤ)) → Stands (tallies minuses pluses sums) terms → Stands (tallies minuses' pluses' sums') (with_term terms node term)
put_stands minuses pluses sums minuses' pluses' sums' node term ml pl sl within m p s others terms h =
    let ml' = ap length m ∙ length-set minuses node _ in
    let pl' = ap length p ∙ length-set pluses node _ in
    let long = length-tallies minuses pluses sums ml pl in
    let long' = length-tallies minuses' pluses' sums' (omega arith) (omega arith) in
    let many = stands_length _ terms h in
    let more = get_or terms node [] ++ term ∷ [] in
    let many' = length-set terms node more in
    let old = λ (k : ℕ) (l : k < length sums). sym (get_or-tallies minuses pluses sums k (score_tally_of []) (omega arith) (omega arith) l)
    ∙ stands_at _ terms k (score_tally_of []) h (omega arith) in
    let new = λ (k : ℕ) (l : k < length sums). get_or-tallies minuses' pluses' sums' k (score_tally_of []) (omega arith) (omega arith) (omega arith) in
    let here : get_or (tallies minuses' pluses' sums') node (score_tally_of []) ≡ score_tally_of (get_or (set terms node more) node []) =
    new node within
    ∙ (tally_more _ _ _ _ _ _ (get_or terms node []) term
    (ap (λ xs. get_or xs node 0) m ∙ get_or-set_same minuses node _ 0 (omega arith))
    (ap (λ xs. get_or xs node 0) p ∙ get_or-set_same pluses node _ 0 (omega arith)) s (old node within)
    ∙ ap score_tally_of (sym (get_or-set_same terms node more [] (omega arith)))) in
    let there : (k : ℕ) → k < length sums → k ≢ node → get_or (tallies minuses' pluses' sums') k (score_tally_of []) ≡ score_tally_of (get_or (set terms node more) k []) =
    λ k l other.
    let a = ap (λ xs. get_or xs k 0) m ∙ get_or-set_other minuses node k _ 0 other in
    let b = ap (λ xs. get_or xs k 0) p ∙ get_or-set_other pluses node k _ 0 other in
    let e = others k other in
    new k l ∙ (tally_is _ (stored_tally (get_or minuses k 0) (get_or pluses k 0) (get_or sums k 0)) (ap (nat_lt 0) a) (ap (nat_lt 0) b) (ap (λ x. pos x -ℤ pos bias) e)
    ∙ (old k l ∙ ap score_tally_of (sym (get_or-set_other terms node k more [] other)))) in
    stands_if _ _ (omega arith) (λ k l. go k (omega arith) here there (cases_eq k node))
  where
    go : (k : ℕ) → k < length sums
        → get_or (tallies minuses' pluses' sums') node (score_tally_of []) ≡ score_tally_of (get_or (with_term terms node term) node [])
        → ((k : ℕ) → k < length sums → k ≢ node → get_or (tallies minuses' pluses' sums') k (score_tally_of []) ≡ score_tally_of (get_or (with_term terms node term) k []))
        → (k ≡ node) ⊎ (k ≢ node) → get_or (tallies minuses' pluses' sums') k (score_tally_of []) ≡ score_tally_of (get_or (with_term terms node term) k [])
    go k l here there (inl e) = subst (λ (i : ℕ). get_or (tallies minuses' pluses' sums') i (score_tally_of []) ≡ score_tally_of (get_or (with_term terms node term) i [])) (sym e) here
    go k l here there (inr e) = there k l e

-- the terms of two rows
pub add_stands : (minuses pluses sums minuses' pluses' sums' minuses'' pluses'' sums'' : List ℕ)
    → length minuses ≡ length sums → length pluses ≡ length sums → length minuses' ≡ length sums → length pluses' ≡ length sums → length sums' ≡ length sums
    → length minuses'' ≡ length sums → length pluses'' ≡ length sums → length sums'' ≡ length sums
    → ((k : ℕ) → k < length sums → get_or minuses'' k 0 ≡ bit_or (get_or minuses k 0) (get_or minuses' k 0))
    → ((k : ℕ) → k < length sums → get_or pluses'' k 0 ≡ bit_or (get_or pluses k 0) (get_or pluses' k 0))
    → ((k : ℕ) → k < length sums → get_or sums'' k 0 + bias ≡ get_or sums k 0 + get_or sums' k 0)
    → (terms others : List (List ℤ)) → Stands (tallies minuses pluses sums) terms → Stands (tallies minuses' pluses' sums') others
    → Stands (tallies minuses'' pluses'' sums'') (together terms others)
add_stands minuses pluses sums minuses' pluses' sums' minuses'' pluses'' sums'' ml pl ml' pl' sl' ml'' pl'' sl'' m p s terms others h h' =
    let long = length-tallies minuses pluses sums ml pl in
    let long' = length-tallies minuses' pluses' sums' (omega arith) (omega arith) in
    let long'' = length-tallies minuses'' pluses'' sums'' (omega arith) (omega arith) in
    let many = stands_length _ terms h in
    let many' = stands_length _ others h' in
    let many'' = length-together terms others (omega arith) in
    stands_if _ _ (omega arith) (λ k l.
    let sum = s k (omega arith) in
    let old = sym (get_or-tallies minuses pluses sums k (score_tally_of []) (omega arith) (omega arith) (omega arith)) ∙ stands_at _ terms k (score_tally_of []) h (omega arith) in
    let old' = sym (get_or-tallies minuses' pluses' sums' k (score_tally_of []) (omega arith) (omega arith) (omega arith)) ∙ stands_at _ others k (score_tally_of []) h' (omega arith) in
    let new = get_or-tallies minuses'' pluses'' sums'' k (score_tally_of []) (omega arith) (omega arith) (omega arith) in
    let flags = λ (a b c : ℕ) (e : c ≡ bit_or a b). ap (nat_lt 0) e ∙ flag_or a b in
    let parts = tally_is (stored_tally (get_or minuses'' k 0) (get_or pluses'' k 0) (get_or sums'' k 0))
    (join (stored_tally (get_or minuses k 0) (get_or pluses k 0) (get_or sums k 0)) (stored_tally (get_or minuses' k 0) (get_or pluses' k 0) (get_or sums' k 0)))
    (flags (get_or minuses k 0) (get_or minuses' k 0) (get_or minuses'' k 0) (m k (omega arith)))
    (flags (get_or pluses k 0) (get_or pluses' k 0) (get_or pluses'' k 0) (p k (omega arith))) (omega (arith, ints)) in
    new ∙ (parts ∙ (ap (λ t. join t (stored_tally (get_or minuses' k 0) (get_or pluses' k 0) (get_or sums' k 0))) old
    ∙ (ap (λ t. join (score_tally_of (get_or terms k [])) t) old' ∙ (sym (tally_of-append (get_or terms k []) (get_or others k []))
    ∙ ap score_tally_of (sym (get_or-together terms others k (omega arith))))))))

-- no terms
pub zeros_stand : (nodes : ℕ) → Stands (tallies (replicate nodes 0) (replicate nodes 0) (replicate nodes bias)) (replicate nodes [])
zeros_stand zero = refl
zeros_stand (suc nodes) = ap (λ row. score_tally_of [] ∷ row) (zeros_stand nodes)

-- without terms each finite sum is 0
pub zeros_finite : (nodes n : ℕ) → finite_at (tallies (replicate nodes 0) (replicate nodes 0) (replicate nodes bias)) n ≡ pos 0
zeros_finite zero n = refl
zeros_finite (suc nodes) zero = refl
zeros_finite (suc nodes) (suc n) = zeros_finite nodes n

-- what a row is known by while its fields are seen
module _ (minuses pluses sums : List ℕ) (row : List Tally) (ml : length minuses ≡ length sums) (pl : length pluses ≡ length sums) (seen : tallies minuses pluses sums ≡ row) where
  -- its nodes
  pub row_nodes : length row ≡ length sums
  row_nodes = ap length (sym seen) ∙ length-tallies minuses pluses sums ml pl

  -- the finite sum of a node
  pub row_finite : (node : ℕ) → node < length sums → finite_at row node ≡ (pos (get_or sums node 0) -ℤ pos bias)
  row_finite node within =
      ap (λ r. finite_at r node) (sym seen)
      ∙ ap (λ (t : Tally). t.finite) (get_or-tallies minuses pluses sums node (score_tally_of []) (omega arith) (omega arith) within)

  -- the totals of the row's terms
  pub totals_stand : (scores : List ℤ) → length scores ≡ length sums
      → ((k : ℕ) → k < length scores → points_at scores k ≡ tally_total (stored_tally (get_or minuses k 0) (get_or pluses k 0) (get_or sums k 0)))
      → (terms : List (List ℤ)) → Stands row terms → scores ≡ map total_of terms
  totals_stand scores long each terms h =
      let nodes = row_nodes in
      let many = stands_length row terms h in
      let points = length-map scores (λ (s : ℤ). s) in
      let totals = length-map terms total_of in
      ext_get_or (pos 0) (scores) (map total_of terms) (omega arith) (λ k l.
      let tally : stored_tally (get_or minuses k 0) (get_or pluses k 0) (get_or sums k 0) ≡ score_tally_of (get_or terms k []) =
      sym (get_or-tallies minuses pluses sums k (score_tally_of []) (omega arith) (omega arith) (omega arith)) ∙ stands_at _ terms k (score_tally_of []) (seen ∙ h) (omega (arith, ap length seen)) in
      each k (omega arith)
      ∙ (ap tally_total tally ∙ (tally_total_is (get_or terms k [])
      ∙ sym (get_or-map total_of terms k [] (pos 0) (omega arith)))))

  -- a node of which the stored sum is the same in another row of as many nodes
  pub finite_same : (minuses' pluses' sums' : List ℕ) → length minuses' ≡ length sums → length pluses' ≡ length sums → length sums' ≡ length sums
      → (node : ℕ) → get_or sums' node 0 ≡ get_or sums node 0 → finite_at (tallies minuses' pluses' sums') node ≡ finite_at row node
  finite_same minuses' pluses' sums' ml' pl' sl' node same = go (cases_lt node (length sums))
    where
      go : (node < length sums) ⊎ (length sums ≤ node) → finite_at (tallies minuses' pluses' sums') node ≡ finite_at row node
      go (inl within) =
          ap (λ (t : Tally). t.finite) (get_or-tallies minuses' pluses' sums' node (score_tally_of []) (omega arith) (omega arith) (omega arith))
          ∙ (ap (λ x. pos x -ℤ pos bias) same ∙ sym (row_finite node within))
      go (inr past) =
          let long = row_nodes in
          let long' = length-tallies minuses' pluses' sums' (omega arith) (omega arith) in
          ap (λ (t : Tally). t.finite) (get_or_past (tallies minuses' pluses' sums') node (score_tally_of []) (omega arith) ∙ sym (get_or_past row node (score_tally_of []) (omega arith)))
