-- Groups of edges with gates of their own add up: what leads through both leads through one of them.
use Rattle.std.proofs.Common.{arith, ◌<◌, ◌≤◌, ◌⊎◌, inl, inr, ℕ, List, ◌++◌, Contains}
use Rattle.std.proofs.lemmas.List.Elements.{Contains-append_cases, Contains-append_left, Contains-append_right}
use Rattle.edges.specs.declared.edge.Edge.{Edge}
use Rattle.edges.specs.Chains.{link_then, linked, one_link}
use Rattle.cluster_types.specs.Graphs.{LeadsByGates}

-- an end of an edge of the later group: an action, or a gate of its own
pub data IsOwn (actions from x : ℕ) : Type 0 where
  action : x < actions → IsOwn actions from x
  gate : from ≤ x → IsOwn actions from x

-- one that is no action is a gate of its own
pub own_gate : (actions from x : ℕ) → IsOwn actions from x → actions ≤ x → from ≤ x
own_gate actions from x (action h) l = absurd (omega arith)
own_gate actions from x (gate h) l = h

-- with more edges all still leads that led
pub more_edges : (actions : ℕ) (some all : List Edge) → ((e : Edge) → Contains some e → Contains all e) → (x y : ℕ) → LeadsByGates actions some x y → LeadsByGates actions all x y
more_edges actions some all f _ _ (one_link _ _ (linked e c)) = one_link _ _ (linked e (f e c))
more_edges actions some all f _ _ (link_then _ _ y (linked e c) g rest) = link_then _ _ y (linked e (f e c)) g (more_edges actions some all f e.after y rest)

-- actions below `actions`, gates of the older edges below `from`, and those of the later ones from there on
module _ (actions from : ℕ) (old more : List Edge) (enough : actions ≤ from)
    (olds : (e : Edge) → Contains old e → (e.before < from) × (e.after < from))
    (news : (e : Edge) → Contains more e → IsOwn actions from e.before × IsOwn actions from e.after) where
  not_between : (x : ℕ) (X : Type 0) → IsOwn actions from x → actions ≤ x → x < from → X
  not_between x X (action h) l u = absurd (omega arith)
  not_between x X (gate h) l u = absurd (omega arith)

  from_old_gate : (x y : ℕ) → LeadsByGates actions (old ++ more) x y → actions ≤ x → x < from → LeadsByGates actions old x y
  from_old_gate _ _ (one_link _ _ (linked e c)) l u =
      elim (Contains-append_cases old more e c) [
        | inl h ↦ one_link _ _ (linked e h)
        | inr h ↦ not_between e.before (LeadsByGates actions old e.before e.after) (news e h).0 l u
      ]
  from_old_gate _ _ (link_then _ _ y (linked e c) g rest) l u =
      elim (Contains-append_cases old more e c) [
        | inl h ↦ link_then _ _ y (linked e h) g (from_old_gate e.after y rest g (olds e h).1)
        | inr h ↦ not_between e.before (LeadsByGates actions old e.before y) (news e h).0 l u
      ]

  from_new_gate : (x y : ℕ) → LeadsByGates actions (old ++ more) x y → from ≤ x → LeadsByGates actions more x y
  from_new_gate _ _ (one_link _ _ (linked e c)) l =
      elim (Contains-append_cases old more e c) [
        | inl h ↦ (let u = (olds e h).0 in absurd (omega arith))
        | inr h ↦ one_link _ _ (linked e h)
      ]
  from_new_gate _ _ (link_then _ _ y (linked e c) g rest) l =
      elim (Contains-append_cases old more e c) [
        | inl h ↦ (let u = (olds e h).0 in absurd (omega arith))
        | inr h ↦ link_then _ _ y (linked e h) g (from_new_gate e.after y rest (own_gate actions from e.after (news e h).1 g))
      ]

  pub one_group : (x y : ℕ) → LeadsByGates actions (old ++ more) x y → x < actions → LeadsByGates actions old x y ⊎ LeadsByGates actions more x y
  one_group _ _ (one_link _ _ (linked e c)) u =
      elim (Contains-append_cases old more e c) [
        | inl h ↦ inl (one_link _ _ (linked e h))
        | inr h ↦ inr (one_link _ _ (linked e h))
      ]
  one_group _ _ (link_then _ _ y (linked e c) g rest) u =
      elim (Contains-append_cases old more e c) [
        | inl h ↦ inl (link_then _ _ y (linked e h) g (from_old_gate e.after y rest g (olds e h).1))
        | inr h ↦ inr (link_then _ _ y (linked e h) g (from_new_gate e.after y rest (own_gate actions from e.after (news e h).1 g)))
      ]

  -- and back
  pub of_old : (x y : ℕ) → LeadsByGates actions old x y → LeadsByGates actions (old ++ more) x y
  of_old = more_edges actions old (old ++ more) (λ e c. Contains-append_left old more e c)

  pub of_more : (x y : ℕ) → LeadsByGates actions more x y → LeadsByGates actions (old ++ more) x y
  of_more = more_edges actions more (old ++ more) (λ e c. Contains-append_right old more e c)
