-- The edges of a chain, position by position.
use Rattle.std.proofs.Common.{arith, ◌≡◌, ◌<◌, ◌≤◌, ◌+◌, ◌⊎◌, inl, inr, if◌then◌else◌, ℕ, Bool, true, false, List, [], ◌∷◌, ◌++◌, Contains, refl}
use Rattle.std.proofs.lemmas.List.Elements.{Contains-append_cases, Contains-append_left, Contains-append_right}
use Rattle.edges.specs.declared.edge.Edge.{Edge}
use Rattle.lemmas.proofs.Searches.{of_none}
use Rattle.cluster_types.proofs.Few.{of_one, of_two}
use Rattle.cluster_types.proofs.GateGroups.{IsOwn, action, gate}
use Rattle.planner.specs.Inner.Gates.{chain_edges, chain_step, edge, next_gate, then_step}
use Rattle.lemmas.proofs.Members.{in_rest}

module _ (actions : ℕ) (is_first is_then : ℕ → Bool) where
  abbrev chain : ℕ → List ℕ → List Edge
  chain from places = chain_edges is_first is_then from places

  -- the edges of one position of a chain
  pub data IsHeadEdge (from place : ℕ) : Edge → Type 0 where
    to_then : is_then place ≡ true → IsHeadEdge from place (edge from place)
    into : is_first place ≡ true → IsHeadEdge from place (edge place (from + 1))
    onward : is_first place ≡ true → IsHeadEdge from place (edge from (from + 1))

  abbrev head : ℕ → ℕ → List Edge
  head from place = then_step is_first is_then from place ++ chain_step is_first is_then from place

  then_edge : (from place : ℕ) (b : Bool) → is_then place ≡ b → (e : Edge) → Contains (if b then edge from place ∷ [] else []) e → IsHeadEdge from place e
  then_edge from place true h e c = of_one (IsHeadEdge from place) (edge from place) e (to_then h) c
  then_edge from place false h e c = of_none (IsHeadEdge from place) e c

  first_edge : (from place : ℕ) (b : Bool) → is_first place ≡ b → (e : Edge) → Contains (if b then edge place (from + 1) ∷ edge from (from + 1) ∷ [] else []) e
      → IsHeadEdge from place e
  first_edge from place true h e c = of_two (IsHeadEdge from place) (edge place (from + 1)) (edge from (from + 1)) e (into h) (onward h) c
  first_edge from place false h e c = of_none (IsHeadEdge from place) e c

  pub is_head : (from place : ℕ) (e : Edge) → Contains (head from place) e → IsHeadEdge from place e
  is_head from place e c =
      elim (Contains-append_cases (then_step is_first is_then from place) (chain_step is_first is_then from place) e c) [
        | inl h ↦ then_edge from place (is_then place) refl e h
        | inr h ↦ first_edge from place (is_first place) refl e h
      ]

  pub has_then : (from place : ℕ) → is_then place ≡ true → Contains (head from place) (edge from place)
  has_then from place h =
      Contains-append_left (then_step is_first is_then from place) (chain_step is_first is_then from place) (edge from place)
      (on (is_then place) h)
    where
      on : (b : Bool) → b ≡ true → Contains (if b then edge from place ∷ [] else []) (edge from place)
      on true e = (0, omega arith, refl)
      on false e = cc

  pub has_first : (from place : ℕ) → is_first place ≡ true → Contains (head from place) (edge place (from + 1)) × Contains (head from place) (edge from (from + 1))
  has_first from place h =
      let p = on (is_first place) h in (
        Contains-append_right (then_step is_first is_then from place) (chain_step is_first is_then from place) (edge place (from + 1)) p.0,
        Contains-append_right (then_step is_first is_then from place) (chain_step is_first is_then from place) (edge from (from + 1)) p.1,
      )
    where
      on : (b : Bool) → b ≡ true → Contains (if b then edge place (from + 1) ∷ edge from (from + 1) ∷ [] else []) (edge place (from + 1))
          × Contains (if b then edge place (from + 1) ∷ edge from (from + 1) ∷ [] else []) (edge from (from + 1))
      on true e = ((0, omega arith, refl), (1, omega arith, refl))
      on false e = cc

  next_on : (from : ℕ) (b : Bool) → (from ≤ (if b then from + 1 else from)) × ((if b then from + 1 else from) ≤ from + 1)
  next_on from true = (omega arith, omega arith)
  next_on from false = (omega arith, omega arith)

  pub next_of : (from place : ℕ) → (from ≤ next_gate is_first is_then from place) × (next_gate is_first is_then from place ≤ from + 1)
  next_of from place = next_on from (is_first place)

  pub next_is : (from place : ℕ) → is_first place ≡ true → next_gate is_first is_then from place ≡ from + 1
  next_is from place h = on (is_first place) h
    where
      on : (b : Bool) → b ≡ true → (if b then from + 1 else from) ≡ from + 1
      on true e = refl
      on false e = cc

  pub next_same : (from place : ℕ) → is_first place ≡ false → next_gate is_first is_then from place ≡ from
  next_same from place h = on (is_first place) h
    where
      on : (b : Bool) → b ≡ false → (if b then from + 1 else from) ≡ from
      on true e = cc
      on false e = refl

  -- an edge of a chain begins at an action or a gate of the chain, and leads to an action or to a later gate of the chain, upward
  pub record IsChainEdge (from : ℕ) (e : Edge) : Type 0 where
    pub before : IsOwn actions from e.before
    pub after : IsOwn actions (from + 1) e.after
    pub upward : actions ≤ e.after → e.before < e.after

  pub head_edge : (from place : ℕ) → actions ≤ from → place < actions → (e : Edge) → IsHeadEdge from place e → IsChainEdge from e
  head_edge from place le l _ (to_then h) = record { before = gate (omega arith); after = action l; upward = λ g. absurd (omega arith) }
  head_edge from place le l _ (into h) = record { before = action l; after = gate (omega arith); upward = λ g. omega arith }
  head_edge from place le l _ (onward h) = record { before = gate (omega arith); after = gate (omega arith); upward = λ g. omega arith }

  pub lower : (from on x : ℕ) → from ≤ on → IsOwn actions on x → IsOwn actions from x
  lower from on x le (action h) = action h
  lower from on x le (gate h) = gate (omega arith)

  pub chain_edge : (from : ℕ) (places : List ℕ) → actions ≤ from → ((i : ℕ) → Contains places i → i < actions) → (e : Edge) → Contains (chain from places) e
      → IsChainEdge from e
  chain_edge from [] le l e (k, m, n) = absurd (omega arith)
  chain_edge from (p ∷ ps) le l e c =
      let next = next_of from p in
      go (Contains-append_cases (head from p) (chain (next_gate is_first is_then from p) ps) e c)
      (λ h. chain_edge (next_gate is_first is_then from p) ps (omega arith) (λ i m. l i (in_rest p ps i m)) e h)
    where
      go : Contains (head from p) e ⊎ Contains (chain (next_gate is_first is_then from p) ps) e
          → (Contains (chain (next_gate is_first is_then from p) ps) e → IsChainEdge (next_gate is_first is_then from p) e) → IsChainEdge from e
      go (inl h) f = head_edge from p le (l p (0, omega arith, refl)) e (is_head from p e h)
      go (inr h) f =
          let r = f h in
          let next = next_of from p in
          record {
            before = lower from (next_gate is_first is_then from p) e.before next.0 r.before;
            after = lower (from + 1) (next_gate is_first is_then from p + 1) e.after (omega arith) r.after;
            upward = r.upward;
          }
