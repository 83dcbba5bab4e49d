-- Rows of the terms that each node has, and one more term at a node.
use Rattle.std.proofs.Common.{◌≡◌, ◌≢◌, ◌⊎◌, inl, inr, ℕ, ◌+◌, ◌*◌, ◌<◌, ◌≤◌, ◌==◌, ℤ, pos, neg_ℤ, ◌+ℤ◌, ◌≤ℤ◌, Bool, true, false, ◌&&◌, if◌then◌else◌, List, [], ◌∷◌, ◌++◌, length, map, filter, refl, sym, ap, subst, ◌∙◌, append-nil, arith}
use Rattle.std.proofs.lemmas.Bool.{cases_eq, cases_lt, ne_eqb}
use Rattle.std.proofs.lemmas.Int.{ints}
use Rattle.std.proofs.lemmas.List.{length-map, length-append, get_or_past}
use Rattle.std.proofs.lemmas.List.Elements.{filter-append}
use Rattle.std.proofs.lemmas.List.FromFn.{get_or-map-range_with_len, length-map-range_with_len}
use Rattle.lemmas.proofs.Ranges.{map-same, map-set-range}
use Rattle.score.specs.Total.{IsScore}
use Rattle.score.specs.Row.{Tally, score_tally_of, Stands, is_finite, finite_part, finite_at, with_term}
use Rattle.placement.specs.Rows.{each_of, few, IsRow, IsRoomy, more_where}

-- the same terms below the number of nodes
pub row-same : (nodes : ℕ) (f g : ℕ → List ℤ) (row : List Tally) → ((n : ℕ) → n < nodes → f n ≡ g n) → IsRow nodes f row → IsRow nodes g row
row-same nodes f g row h is = record {
  stands = is.stands ∙ ap (map score_tally_of) (map-same f g nodes h);
  least = λ n low. subst (λ ts. neg_ℤ (pos (1000000 * few ts)) ≤ℤ finite_at row n) (h n low) (is.least n low);
  most = λ n low. subst (λ ts. finite_at row n ≤ℤ pos (1000000 * few ts)) (h n low) (is.most n low);
}

pub row-length : (nodes : ℕ) (f : ℕ → List ℤ) (row : List Tally) → IsRow nodes f row → length row ≡ nodes
row-length nodes f row is = ap length is.stands ∙ (length-map (each_of nodes f) score_tally_of ∙ length-map-range_with_len f 0 nodes)

-- rows of few terms have room
pub row-room : (nodes : ℕ) (f : ℕ → List ℤ) (row : List Tally) → IsRow nodes f row → ((n : ℕ) → n < nodes → few (f n) ≤ 900000) → (n : ℕ) → IsRoomy (finite_at row n)
row-room nodes f row is bound n = go (cases_lt n nodes)
  where
    go : (n < nodes) ⊎ (nodes ≤ n) → IsRoomy (finite_at row n)
    go (inl low) =
        let a = is.least n low in
        let b = is.most n low in
        let k = bound n low in
        record { least = omega (arith, ints, a, k); most = omega (arith, ints, b, k) }
    go (inr high) =
        let e = ap (λ (t : Tally). t.finite) (get_or_past row n (score_tally_of []) (omega (arith, high, row-length nodes f row is))) in
        record { least = omega (arith, ints, e); most = omega (arith, ints, e) }

few-more : (terms : List ℤ) (term : ℤ) (b : Bool) → is_finite term ≡ b → few (terms ++ term ∷ []) ≡ few terms + (if b then 1 else 0)
few-more terms term true e = ap length (filter-append is_finite terms (term ∷ [])) ∙ (length-append (filter is_finite terms) _ ∙ rw e refl)
few-more terms term false e = ap length (filter-append is_finite terms (term ∷ [])) ∙ (length-append (filter is_finite terms) _ ∙ rw e refl)

part-least : (term : ℤ) (b : Bool) → IsScore term → neg_ℤ (pos (1000000 * (if b then 1 else 0))) ≤ℤ (if b then term else pos 0)
part-least term true h = omega (arith, ints, h.0)
part-least term false h = omega (arith, ints)

part-most : (term : ℤ) (b : Bool) → IsScore term → (if b then term else pos 0) ≤ℤ pos (1000000 * (if b then 1 else 0))
part-most term true h = omega (arith, ints, h.1)
part-most term false h = omega (arith, ints)

module _ (nodes node : ℕ) (term : ℤ) (terms : ℕ → List ℤ) (old new : List Tally) (low : node < nodes) where
  abbrev pub more : ℕ → List ℤ
  more = more_where (λ n. true && node == n) term terms

  more-here : more node ≡ terms node ++ term ∷ []
  more-here = ap (λ (b : Bool). terms node ++ (if b then term ∷ [] else [])) (let e : (node == node) ≡ true = grind arith in e)

  more-other : (n : ℕ) → n ≢ node → more n ≡ terms n
  more-other n e = ap (λ (b : Bool). terms n ++ (if b then term ∷ [] else [])) (ne_eqb node n (λ s. e (sym s))) ∙ append-nil (terms n)

  -- after one more term at a node
  pub put-row : IsScore term → ((ts : List (List ℤ)) → Stands old ts → Stands new (with_term ts node term))
      → finite_at new node ≡ (finite_at old node +ℤ finite_part term) → ((n : ℕ) → n ≢ node → finite_at new n ≡ finite_at old n)
      → IsRow nodes terms old → IsRow nodes more new
  put-row within stand here others is = record {
    stands = stand (each_of nodes terms) is.stands ∙ ap (map score_tally_of) set-more;
    least = λ n below. least n below (cases_eq n node);
    most = λ n below. most n below (cases_eq n node);
  }
    where
      set-more : with_term (each_of nodes terms) node term ≡ each_of nodes more
      set-more =
          map-set-range [] terms more nodes node _ low
          (more-here ∙ ap (λ ts. ts ++ term ∷ []) (sym (get_or-map-range_with_len terms 0 nodes node node [] low (omega arith)))) more-other

      count : few (more node) ≡ few (terms node) + (if is_finite term then 1 else 0)
      count = ap few more-here ∙ few-more (terms node) term (is_finite term) refl

      least : (n : ℕ) → n < nodes → (n ≡ node) ⊎ (n ≢ node) → neg_ℤ (pos (1000000 * few (more n))) ≤ℤ finite_at new n
      least n below (inl e) =
          let a = is.least node low in
          let p = part-least term (is_finite term) within in
          let h : neg_ℤ (pos (1000000 * few (more node))) ≤ℤ finite_at new node = omega (arith, ints, a, p, here, count) in
          subst (λ (k : ℕ). neg_ℤ (pos (1000000 * few (more k))) ≤ℤ finite_at new k) (sym e) h
      least n below (inr e) = rw (more-other n e, others n e) (is.least n below)

      most : (n : ℕ) → n < nodes → (n ≡ node) ⊎ (n ≢ node) → finite_at new n ≤ℤ pos (1000000 * few (more n))
      most n below (inl e) =
          let a = is.most node low in
          let p = part-most term (is_finite term) within in
          let h : finite_at new node ≤ℤ pos (1000000 * few (more node)) = omega (arith, ints, a, p, here, count) in
          subst (λ (k : ℕ). finite_at new k ≤ℤ pos (1000000 * few (more k))) (sym e) h
      most n below (inr e) = rw (more-other n e, others n e) (is.most n below)
