-- How much a leaf wants to be promoted, put into a row node by node.
use Rattle.std.proofs.Common.{◌≡◌, inl, inr, ℕ, ◌+◌, ◌<◌, ◌≤◌, ◌==◌, ℤ, true, false, ◌&&◌, if◌then◌else◌, nat_lt, List, [], ◌∷◌, ◌++◌, refl, sym, ap, subst, append-nil, arith}
use Rattle.std.proofs.lemmas.Bool.{cases_eq, cases_lt, le-ltb, lt-ltb, ne_eqb}
use Rattle.placement.specs.Rows.{more_where}

module _ (first : ℕ → List ℤ) (wish : ℕ → ℤ) where
  -- with the wishes of the nodes below one
  abbrev pub wished : ℕ → ℕ → List ℤ
  wished bound n = first n ++ (if nat_lt n bound then wish n ∷ [] else [])

  pub wish-more : (node : ℕ) (term : ℤ) → term ≡ wish node → (n : ℕ) → more_where (λ k. true && node == k) term (wished node) n ≡ wished (node + 1) n
  wish-more node term is n = elim (cases_eq n node) [
    | inl e ↦ subst (λ k. more_where (λ k. true && node == k) term (wished node) k ≡ wished (node + 1) k) (sym e) here
    | inr e ↦ elim (cases_lt n node) [
      | inl low ↦
          let before = lt-ltb n node low in
          let after = lt-ltb n (node + 1) (omega (arith, low)) in
          let other : (node == n) ≡ false = ne_eqb node n (λ s. e (sym s)) in
          rw (before, after, other) (append-nil (first n ++ wish n ∷ []))
      | inr high ↦
          let before = le-ltb n node high in
          let after = le-ltb n (node + 1) (omega (arith, high, e)) in
          let other : (node == n) ≡ false = ne_eqb node n (λ s. e (sym s)) in
          rw (before, after, other) (append-nil (first n ++ []))
    ]
  ]
    where
      here : more_where (λ k. true && node == k) term (wished node) node ≡ wished (node + 1) node
      here =
          let before = le-ltb node node (omega arith) in
          let after = lt-ltb node (node + 1) (omega arith) in
          let same : (node == node) ≡ true = grind arith in
          rw (before, after, same, is) (ap (λ ts. ts ++ wish node ∷ []) (append-nil (first node)))

  pub wish-none : (n : ℕ) → first n ≡ wished 0 n
  wish-none n = let none = le-ltb n 0 (omega arith) in rw none (sym (append-nil (first n)))

  pub wish-all : (nodes bound n : ℕ) → nodes ≤ bound → n < nodes → wished bound n ≡ first n ++ wish n ∷ []
  wish-all nodes bound n all low = let within = lt-ltb n bound (omega (arith, all, low)) in rw within refl
