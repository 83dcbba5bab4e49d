-- One more term on each node that passes, node by node.
use Rattle.std.proofs.Common.{◌≡◌, ◌≢◌, ◌⊎◌, inl, inr, ℕ, ◌+◌, ◌<◌, ◌≤◌, ◌==◌, ℤ, Bool, true, false, ◌&&◌, if◌then◌else◌, nat_lt, List, [], ◌∷◌, ◌++◌, sym, ap, subst, ◌∙◌, append-nil, arith}
use Rattle.std.proofs.Math.Bool.{and-false, and-true}
use Rattle.std.proofs.lemmas.Bool.{cases_eq, cases_lt, le-ltb, lt-ltb, ne_eqb}
use Rattle.score.specs.Row.{Tally}
use Rattle.placement.specs.Rows.{IsRow, more_where}
use Rattle.placement.proofs.TermRows.{row-same}

glue-first : (ts : List ℤ) (term : ℤ) (a b d : Bool) → a ≡ d → b ≡ false
    → (ts ++ (if a then term ∷ [] else [])) ++ (if b then term ∷ [] else []) ≡ ts ++ (if d then term ∷ [] else [])
glue-first ts term a b d e f = rw (e, f) (append-nil _)

glue-second : (ts : List ℤ) (term : ℤ) (a b d : Bool) → a ≡ false → b ≡ d
    → (ts ++ (if a then term ∷ [] else [])) ++ (if b then term ∷ [] else []) ≡ ts ++ (if d then term ∷ [] else [])
glue-second ts term a b d e f = rw (e, f) (ap (λ us. us ++ (if d then term ∷ [] else [])) (append-nil ts))

-- one more node of those that pass
pub each-more : (p : ℕ → Bool) (node : ℕ) (term : ℤ) (terms : ℕ → List ℤ) (n : ℕ)
    → more_where (λ k. p node && node == k) term (more_where (λ k. nat_lt k node && p k) term terms) n ≡ more_where (λ k. nat_lt k (node + 1) && p k) term terms n
each-more p node term terms n = go (cases_eq n node) (cases_lt n node)
  where
    here : (nat_lt node node && p node) ≡ false
    here = ap (λ b. b && p node) (le-ltb node node (omega arith))

    now : (p node && node == node) ≡ (nat_lt node (node + 1) && p node)
    now = ap (λ b. p node && b) (let e : (node == node) ≡ true = grind arith in e) ∙ (and-true (p node) ∙ sym (ap (λ b. b && p node) (lt-ltb node (node + 1) (omega arith))))

    none : n ≢ node → (p node && node == n) ≡ false
    none e = ap (λ b. p node && b) (ne_eqb node n (λ s. e (sym s))) ∙ and-false (p node)

    go : (n ≡ node) ⊎ (n ≢ node) → (n < node) ⊎ (node ≤ n)
        → more_where (λ k. p node && node == k) term (more_where (λ k. nat_lt k node && p k) term terms) n ≡ more_where (λ k. nat_lt k (node + 1) && p k) term terms n
    go (inl e) l =
        subst (λ m. more_where (λ k. p node && node == k) term (more_where (λ k. nat_lt k node && p k) term terms) m ≡ more_where (λ k. nat_lt k (node + 1) && p k) term terms m) (sym e)
        (glue-second (terms node) term _ _ _ here now)
    go (inr e) (inl low) =
        glue-first (terms n) term _ _ _
        (ap (λ b. b && p n) (lt-ltb n node low ∙ sym (lt-ltb n (node + 1) (omega (arith, low))))) (none e)
    go (inr e) (inr high) =
        glue-first (terms n) term _ _ _
        (ap (λ b. b && p n) (le-ltb n node high ∙ sym (le-ltb n (node + 1) (omega (arith, high, e))))) (none e)

-- none of them
pub each-none : (nodes : ℕ) (p : ℕ → Bool) (term : ℤ) (terms : ℕ → List ℤ) (row : List Tally) → IsRow nodes terms row
    → IsRow nodes (more_where (λ k. nat_lt k 0 && p k) term terms) row
each-none nodes p term terms row is =
    row-same nodes terms _ row
    (λ n low. sym (ap (λ b. terms n ++ (if b && p n then term ∷ [] else [])) (le-ltb n 0 (omega arith)) ∙ append-nil (terms n))) is

-- all of them
pub each-all : (nodes k : ℕ) (p : ℕ → Bool) (term : ℤ) (terms : ℕ → List ℤ) (row : List Tally) → nodes ≤ k → IsRow nodes (more_where (λ n. nat_lt n k && p n) term terms) row
    → IsRow nodes (more_where p term terms) row
each-all nodes k p term terms row all is =
    row-same nodes _ _ row (λ n low. ap (λ b. terms n ++ (if b && p n then term ∷ [] else [])) (lt-ltb n k (omega (arith, low, all)))) is

-- one more term on each node of a set, by what is put: the set is of the nodes that pass, and the term is this one
pub put-each : (nodes count : ℕ) (set passes : ℕ → Bool) (put term : ℤ) (terms : ℕ → List ℤ) (old new : List Tally) → count ≡ nodes
    → ((n : ℕ) → n < nodes → set n ≡ passes n) → put ≡ term
    → ((ts : ℕ → List ℤ) → IsRow count ts old → IsRow count (more_where set put ts) new)
    → IsRow nodes terms old → IsRow nodes (more_where passes term terms) new
put-each nodes count set passes put term terms old new size same one made is =
    row-same nodes (more_where set term terms) (more_where passes term terms) new
    (λ n low. ap (λ b. terms n ++ (if b then term ∷ [] else [])) (same n low))
    (subst (λ (k : ℕ). IsRow k (more_where set term terms) new) size
    (subst (λ (t : ℤ). IsRow count (more_where set t terms) new) one (made terms (subst (λ (k : ℕ). IsRow k terms old) (sym size) is))))
