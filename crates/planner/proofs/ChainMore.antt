-- One position more of a chain.
use Rattle.std.proofs.Common.{arith, ◌≡◌, ◌<◌, ◌≤◌, ◌+◌, ◌++◌, if◌then◌else◌, ℕ, Bool, true, false, List, [], ◌∷◌, length, get_or, take, refl, sym, ap, ◌∙◌}
use Rattle.std.proofs.lemmas.List.{append-nil, append_assoc, take_more}
use Rattle.edges.specs.declared.edge.Edge.{Edge}
use Rattle.planner.specs.Inner.Gates.{chain_edges, chain_step, last_gate, next_gate, then_step}

module _ (f t : ℕ → Bool) where
  abbrev step : ℕ → ℕ → List Edge
  step gate place = then_step f t gate place ++ chain_step f t gate place

  last-append : (gate : ℕ) (places : List ℕ) (p : ℕ) → last_gate f t gate (places ++ p ∷ []) ≡ next_gate f t (last_gate f t gate places) p
  last-append gate [] p = refl
  last-append gate (q ∷ qs) p = last-append (next_gate f t gate q) qs p

  edges-append : (gate : ℕ) (places : List ℕ) (p : ℕ) → chain_edges f t gate (places ++ p ∷ []) ≡ chain_edges f t gate places ++ step (last_gate f t gate places) p
  edges-append gate [] p = append-nil (step gate p)
  edges-append gate (q ∷ qs) p =
      ap (λ v. step gate q ++ v) (edges-append (next_gate f t gate q) qs p)
      ∙ sym (append_assoc (step gate q) (chain_edges f t (next_gate f t gate q) qs) (step (last_gate f t (next_gate f t gate q) qs) p))

  next_up : (gate p : ℕ) → next_gate f t gate p ≤ gate + 1
  next_up gate p = on (f p)
    where
      on : (b : Bool) → (if b then gate + 1 else gate) ≤ gate + 1
      on true = omega arith
      on false = omega arith

  -- what a loop keeps: the edges and the gate of the positions so far
  pub record Chains (old now : List Edge) (start gate : ℕ) (places : List ℕ) (i : ℕ) : Type 0 where
    pub edges : now ≡ old ++ chain_edges f t start (take i places)
    pub last : gate ≡ last_gate f t start (take i places)
    pub room : gate ≤ start + i

  pub chains_more : (old now new : List Edge) (start gate next : ℕ) (places : List ℕ) (i d : ℕ) → i < length places → Chains old now start gate places i
      → new ≡ now ++ step gate (get_or places i d) → next ≡ next_gate f t gate (get_or places i d) → Chains old new start next places (i + 1)
  chains_more old now new start gate next places i d l h e n =
      let more = take_more places i d l in
      let p = get_or places i d in
      record {
        edges =
            e ∙ (ap (λ v. now ++ step v p) h.last ∙ (ap (λ v. v ++ step (last_gate f t start (take i places)) p) h.edges
            ∙ (append_assoc old (chain_edges f t start (take i places)) (step (last_gate f t start (take i places)) p)
            ∙ ap (λ v. old ++ v) (sym (edges-append start (take i places) p) ∙ ap (chain_edges f t start) (sym more)))));
        last = n ∙ (ap (λ v. next_gate f t v p) h.last ∙ (sym (last-append start (take i places) p) ∙ ap (last_gate f t start) (sym more)));
        room = let u = next_up gate p in let r = h.room in omega arith;
      }
