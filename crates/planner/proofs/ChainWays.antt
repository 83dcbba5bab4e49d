-- Where a chain leads from its first gate and from an action, with one position more in front.
use Rattle.std.proofs.Common.{arith, ◌≡◌, ◌<◌, ◌≤◌, ◌+◌, inl, inr, ℕ, Bool, true, false, List, ◌++◌, Contains, refl, sym, subst}
use Rattle.std.proofs.lemmas.List.Elements.{Contains-append_cases, Contains-append_left, Contains-append_right}
use Rattle.edges.specs.declared.edge.Edge.{Edge}
use Rattle.edges.specs.Chains.{link_then, linked, one_link}
use Rattle.cluster_types.specs.Graphs.{LeadsByGates}
use Rattle.cluster_types.proofs.GateGroups.{more_edges, own_gate}
use Rattle.planner.specs.Inner.Gates.{chain_edges, chain_step, edge, next_gate, then_step}
use Rattle.planner.proofs.ChainEdges.{IsChainEdge, IsHeadEdge, to_then, into, onward, chain_edge, has_first, has_then, is_head, next_is, next_of, next_same}

module _ (actions : ℕ) (is_first is_then : ℕ → Bool) where
  abbrev chain : ℕ → List ℕ → List Edge
  chain from places = chain_edges is_first is_then from places

  abbrev head : ℕ → ℕ → List Edge
  head from place = then_step is_first is_then from place ++ chain_step is_first is_then from place

  -- one position in front of a chain
  module _ (from place : ℕ) (places : List ℕ) (le : actions ≤ from) (within : place < actions) (all_within : (i : ℕ) → Contains places i → i < actions) where
    abbrev next : ℕ
    next = next_gate is_first is_then from place

    abbrev tail : List Edge
    tail = chain next places

    abbrev whole : List Edge
    whole = head from place ++ tail

    next_enough : actions ≤ next
    next_enough = let n = next_of actions is_first is_then from place in omega arith

    tail_edge : (e : Edge) → Contains tail e → IsChainEdge actions is_first is_then next e
    tail_edge e c = chain_edge actions is_first is_then next places next_enough all_within e c

    pub in_tail : (x y : ℕ) → LeadsByGates actions tail x y → LeadsByGates actions whole x y
    in_tail = more_edges actions tail whole (λ e c. Contains-append_right (head from place) tail e c)

    not_head : {X : Type 0} (e : Edge) → IsHeadEdge actions is_first is_then from place e → from < e.before → X
    not_head _ (to_then h) l = absurd (omega arith)
    not_head _ (into h) l = absurd (omega arith)
    not_head _ (onward h) l = absurd (omega arith)

    -- from a later gate the rest of the chain alone leads on
    from_later : (x y : ℕ) → LeadsByGates actions whole x y → from < x → LeadsByGates actions tail x y
    from_later _ _ (one_link _ _ (linked e c)) l =
        elim (Contains-append_cases (head from place) tail e c) [
          | inl h ↦ not_head e (is_head actions is_first is_then from place e h) l
          | inr h ↦ one_link _ _ (linked e h)
        ]
    from_later _ _ (link_then _ _ y (linked e c) g rest) l =
        elim (Contains-append_cases (head from place) tail e c) [
          | inl h ↦ not_head e (is_head actions is_first is_then from place e h) l
          | inr h ↦ (
              let k = own_gate actions (next + 1) e.after (tail_edge e h).after g in
              let n = next_of actions is_first is_then from place in
              link_then _ _ y (linked e h) g (from_later e.after y rest (omega arith)))
        ]

    -- what leads on within the rest
    within_tail : (e : Edge) (y : ℕ) → Contains tail e → actions ≤ e.after → LeadsByGates actions whole e.after y → LeadsByGates actions tail e.before y
    within_tail e y h g rest =
        let k = own_gate actions (next + 1) e.after (tail_edge e h).after g in
        let n = next_of actions is_first is_then from place in
        link_then _ _ y (linked e h) g (from_later e.after y rest (omega arith))

    -- from the first gate: to the position itself, or on from the next gate
    pub data FromStart (y : ℕ) : Type 0 where
      to_itself : is_then place ≡ true → y ≡ place → FromStart y
      onwards : LeadsByGates actions tail next y → FromStart y

    next_gate_of : is_first place ≡ true → next ≡ from + 1
    next_gate_of h = next_is actions is_first is_then from place h

    start_head : (e : Edge) → IsHeadEdge actions is_first is_then from place e → e.before ≡ from → e.after < actions → FromStart e.after
    start_head _ (to_then h) q l = to_itself h refl
    start_head _ (into h) q l = absurd (omega arith)
    start_head _ (onward h) q l = absurd (omega arith)

    start_through : (e : Edge) (y : ℕ) → IsHeadEdge actions is_first is_then from place e → e.before ≡ from → actions ≤ e.after → LeadsByGates actions whole e.after y → FromStart y
    start_through _ y (to_then h) q g rest = absurd (omega arith)
    start_through _ y (into h) q g rest = absurd (omega arith)
    start_through _ y (onward h) q g rest =
        onwards (subst (λ v. LeadsByGates actions tail v y) (sym (next_gate_of h)) (from_later (from + 1) y rest (omega arith)))

    -- an edge of the rest that begins at the first gate: no gate was added
    same_gate : (e : Edge) → Contains tail e → e.before ≡ from → e.before ≡ next
    same_gate e h q =
        let n = next_of actions is_first is_then from place in
        let k = own_gate actions next e.before (tail_edge e h).before (omega arith) in
        omega arith

    pub from_start : (x y : ℕ) → LeadsByGates actions whole x y → x ≡ from → y < actions → FromStart y
    from_start _ _ (one_link _ _ (linked e c)) q l =
        elim (Contains-append_cases (head from place) tail e c) [
          | inl h ↦ start_head e (is_head actions is_first is_then from place e h) q l
          | inr h ↦ onwards (subst (λ v. LeadsByGates actions tail v e.after) (same_gate e h q) (one_link _ _ (linked e h)))
        ]
    from_start _ _ (link_then _ _ y (linked e c) g rest) q l =
        elim (Contains-append_cases (head from place) tail e c) [
          | inl h ↦ start_through e y (is_head actions is_first is_then from place e h) q g rest
          | inr h ↦ onwards (subst (λ v. LeadsByGates actions tail v y) (same_gate e h q) (within_tail e y h g rest))
        ]

    -- from an action: from the position itself on from the next gate, or within the rest
    pub data FromAction (x y : ℕ) : Type 0 where
      itself_on : is_first place ≡ true → x ≡ place → LeadsByGates actions tail next y → FromAction x y
      only_rest : LeadsByGates actions tail x y → FromAction x y

    action_through : (e : Edge) (y : ℕ) → IsHeadEdge actions is_first is_then from place e → e.before < actions → actions ≤ e.after → LeadsByGates actions whole e.after y → FromAction e.before y
    action_through _ y (to_then h) l g rest = absurd (omega arith)
    action_through _ y (into h) l g rest =
        itself_on h refl (subst (λ v. LeadsByGates actions tail v y) (sym (next_gate_of h)) (from_later (from + 1) y rest (omega arith)))
    action_through _ y (onward h) l g rest = absurd (omega arith)

    action_direct : {X : Type 0} (e : Edge) → IsHeadEdge actions is_first is_then from place e → e.before < actions → e.after < actions → X
    action_direct _ (to_then h) l m = absurd (omega arith)
    action_direct _ (into h) l m = absurd (omega arith)
    action_direct _ (onward h) l m = absurd (omega arith)

    pub from_action : (x y : ℕ) → LeadsByGates actions whole x y → x < actions → y < actions → FromAction x y
    from_action _ _ (one_link _ _ (linked e c)) l m =
        elim (Contains-append_cases (head from place) tail e c) [
          | inl h ↦ action_direct e (is_head actions is_first is_then from place e h) l m
          | inr h ↦ only_rest (one_link _ _ (linked e h))
        ]
    from_action _ _ (link_then _ _ y (linked e c) g rest) l m =
        elim (Contains-append_cases (head from place) tail e c) [
          | inl h ↦ action_through e y (is_head actions is_first is_then from place e h) l g rest
          | inr h ↦ only_rest (within_tail e y h g rest)
        ]

    -- and back
    pub to_place : is_then place ≡ true → LeadsByGates actions whole from place
    to_place h = one_link _ _ (linked (edge from place) (Contains-append_left (head from place) tail (edge from place) (has_then actions is_first is_then from place h)))

    first_on : is_first place ≡ true → (y : ℕ) → LeadsByGates actions tail next y → LeadsByGates actions whole from y
    first_on h y k =
        link_then _ _ y (linked (edge from (from + 1)) (Contains-append_left (head from place) tail (edge from (from + 1)) (has_first actions is_first is_then from place h).1)) (omega arith)
        (subst (λ v. LeadsByGates actions whole v y) (next_gate_of h) (in_tail next y k))

    pub start_on : (y : ℕ) → LeadsByGates actions tail next y → LeadsByGates actions whole from y
    start_on y k = go (is_first place) refl
      where
        go : (b : Bool) → is_first place ≡ b → LeadsByGates actions whole from y
        go true h = first_on h y k
        go false h = subst (λ v. LeadsByGates actions whole v y) (next_same actions is_first is_then from place h) (in_tail next y k)

    pub action_on : is_first place ≡ true → (y : ℕ) → LeadsByGates actions tail next y → LeadsByGates actions whole place y
    action_on h y k =
        link_then _ _ y (linked (edge place (from + 1)) (Contains-append_left (head from place) tail (edge place (from + 1)) (has_first actions is_first is_then from place h).0)) (omega arith)
        (subst (λ v. LeadsByGates actions whole v y) (next_gate_of h) (in_tail next y k))
