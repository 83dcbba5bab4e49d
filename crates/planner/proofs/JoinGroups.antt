-- The edges of a join are a group that says who is joined.
use Rattle.std.proofs.Common.{arith, ◌≡◌, ◌<◌, ◌≤◌, ◌+◌, ◌*◌, ◌==◌, inl, inr, ℕ, zero, suc, ◌/◌, ◌%◌, true, Option, Some, None, List, Contains, refl, sym, subst, ap, ◌∙◌}
use Rattle.std.proofs.lemmas.Bool.{and_parts, eqb-true}
use Rattle.std.proofs.lemmas.List.Elements.{Contains-append_cases, Contains-append_left, Contains-append_right}
use Rattle.std.proofs.lemmas.Nat.{div-mul-add, mod-mul-add, mul-add-lt}
use Rattle.edges.specs.declared.edge.Edge.{Edge}
use Rattle.edges.specs.Chains.{link_then, linked, one_link}
use Rattle.cluster_types.specs.Graphs.{LeadsByGates}
use Rattle.cluster_types.specs.Precedence.{LeafOnNode, both, is_one_cell}
use Rattle.cluster_types.proofs.GateGroups.{IsOwn, action, gate}
use Rattle.planner.specs.Inner.Gates.{edge, edge_in, edge_out, gate_edges_at, gate_of, join_edges}
use Rattle.lemmas.proofs.Members.{in_flat, of_flat}
use Rattle.planner.specs.Inner.Groups.{IsGroup}
use Rattle.planner.proofs.Groups.{own_ends}

-- equal cells are one
same_cell : (a b : LeafOnNode) → a.leaf ≡ b.leaf → a.node ≡ b.node → a ≡ b
same_cell a b e f = λ i. record { leaf = e i; node = f i }

pub one_cell : (a b : LeafOnNode) → is_one_cell a b ≡ true → a ≡ b
one_cell a b h = let (p, q) = and_parts (a.leaf == b.leaf) (a.node == b.node) h in same_cell a b (eqb-true a.leaf b.leaf p) (eqb-true a.node b.node q)

itself : (a : LeafOnNode) → is_one_cell a a ≡ true
itself a = grind arith

-- the cells of a join fit its gates, and its positions are those of its actions
pub record Fits (actions leaves width : ℕ) (from to : ℕ → Option LeafOnNode) (places : List ℕ) : Type 0 where
  pub within : (i : ℕ) → Contains places i → i < actions
  pub from_fits : (i : ℕ) (a : LeafOnNode) → from i ≡ Some a → (a.leaf < leaves) × (a.node < width)
  pub to_fits : (i : ℕ) (a : LeafOnNode) → to i ≡ Some a → (a.leaf < leaves) × (a.node < width)
  pub from_there : (i : ℕ) (a : LeafOnNode) → i < actions → from i ≡ Some a → Contains places i
  pub to_there : (i : ℕ) (a : LeafOnNode) → i < actions → to i ≡ Some a → Contains places i

module _ (actions base leaves width : ℕ) (from to : ℕ → Option LeafOnNode) (places : List ℕ) (enough : actions ≤ base) (fits : Fits actions leaves width from to places) where
  abbrev edges : List Edge
  edges = join_edges base width from to places

  -- an edge leads from an action to its gate, or from a gate to an action of it
  pub data IsJoinEdge : Edge → Type 0 where
    into : (i : ℕ) (a : LeafOnNode) → i < actions → from i ≡ Some a → IsJoinEdge (edge i (gate_of base width a))
    out_of : (i : ℕ) (a : LeafOnNode) → i < actions → to i ≡ Some a → IsJoinEdge (edge (gate_of base width a) i)

  by_in : (i : ℕ) (u : Option LeafOnNode) (e : Edge) → i < actions → from i ≡ u → Contains (edge_in base width u i) e → IsJoinEdge e
  by_in i (Some a) e l h (zero, k, m) = subst IsJoinEdge m (into i a l h)
  by_in i (Some a) e l h (suc n, k, m) = absurd (omega arith)
  by_in i None e l h (k, m, n) = absurd (omega arith)

  by_out : (i : ℕ) (u : Option LeafOnNode) (e : Edge) → i < actions → to i ≡ u → Contains (edge_out base width u i) e → IsJoinEdge e
  by_out i (Some a) e l h (zero, k, m) = subst IsJoinEdge m (out_of i a l h)
  by_out i (Some a) e l h (suc n, k, m) = absurd (omega arith)
  by_out i None e l h (k, m, n) = absurd (omega arith)

  is_edge : (e : Edge) → Contains edges e → IsJoinEdge e
  is_edge e c =
      let f = of_flat (gate_edges_at base width from to) places e c in
      let l = fits.within f.source f.among in
      elim (Contains-append_cases (edge_in base width (from f.source) f.source) (edge_out base width (to f.source) f.source) e f.gives) [
        | inl h ↦ by_in f.source (from f.source) e l refl h
        | inr h ↦ by_out f.source (to f.source) e l refl h
      ]

  has_in : (i : ℕ) (a : LeafOnNode) → i < actions → from i ≡ Some a → Contains edges (edge i (gate_of base width a))
  has_in i a l h =
      in_flat (gate_edges_at base width from to) places i (edge i (gate_of base width a)) (fits.from_there i a l h)
      (Contains-append_left (edge_in base width (from i) i) (edge_out base width (to i) i) (edge i (gate_of base width a))
      (subst (λ v. Contains (edge_in base width v i) (edge i (gate_of base width a))) (sym h) (0, omega arith, refl)))

  has_out : (i : ℕ) (a : LeafOnNode) → i < actions → to i ≡ Some a → Contains edges (edge (gate_of base width a) i)
  has_out i a l h =
      in_flat (gate_edges_at base width from to) places i (edge (gate_of base width a) i) (fits.to_there i a l h)
      (Contains-append_right (edge_in base width (from i) i) (edge_out base width (to i) i) (edge (gate_of base width a) i)
      (subst (λ v. Contains (edge_out base width v i) (edge (gate_of base width a) i)) (sym h) (0, omega arith, refl)))

  -- cells that fit have gates of their own
  one_gate : (a b : LeafOnNode) → a.node < width → b.node < width → gate_of base width a ≡ gate_of base width b → a ≡ b
  one_gate a b l m h =
      let same : a.leaf * width + a.node ≡ b.leaf * width + b.node = omega arith in
      let leaf : a.leaf ≡ b.leaf = sym (div-mul-add a.leaf width a.node l) ∙ (ap (λ v. v / width) same ∙ div-mul-add b.leaf width b.node m) in
      let node : a.node ≡ b.node = sym (mod-mul-add a.leaf width a.node l) ∙ (ap (λ v. v % width) same ∙ mod-mul-add b.leaf width b.node m) in
      same_cell a b leaf node

  abbrev Joined : ℕ → ℕ → Type 0
  Joined x y = both is_one_cell (from x) (to y) ≡ true

  joined_by : (x y : ℕ) (a b : LeafOnNode) → from x ≡ Some a → to y ≡ Some b → a ≡ b → Joined x y
  joined_by x y a b h k e = rw h (rw k (rw e (itself b)))

  -- what leads on from a gate leads to an action of its cell
  pub from_gate : (x y : ℕ) → LeadsByGates actions edges x y → (i : ℕ) (a : LeafOnNode) → from i ≡ Some a → x ≡ gate_of base width a → y < actions → Joined i y
  from_gate _ _ (one_link _ _ (linked e c)) i a h q l = at_end e (is_edge e c) q l
    where
      at_end : (e : Edge) → IsJoinEdge e → e.before ≡ gate_of base width a → e.after < actions → Joined i e.after
      at_end _ (into j b m k) q l = absurd (omega arith)
      at_end _ (out_of j b m k) q l =
          joined_by i j a b h k (one_gate a b (fits.from_fits i a h).1 (fits.to_fits j b k).1 (sym q))
  from_gate _ _ (link_then _ _ y (linked e c) g rest) i a h q l = absurd (at_gate e (is_edge e c) g q)
    where
      at_gate : (e : Edge) → IsJoinEdge e → actions ≤ e.after → e.before ≡ gate_of base width a → ⊥
      at_gate _ (into j b m k) g q = omega arith
      at_gate _ (out_of j b m k) g q = omega arith

  only : (x y : ℕ) → x < actions → y < actions → LeadsByGates actions edges x y → Joined x y
  only _ _ l m (one_link _ _ (linked e c)) = absurd (at_end e (is_edge e c) l m)
    where
      at_end : (e : Edge) → IsJoinEdge e → e.before < actions → e.after < actions → ⊥
      at_end _ (into j b n k) l m = omega arith
      at_end _ (out_of j b n k) l m = omega arith
  only _ _ l m (link_then _ _ y (linked e c) g rest) = at_gate e (is_edge e c) g l (λ i a h q. from_gate e.after y rest i a h q m)
    where
      at_gate : (e : Edge) → IsJoinEdge e → actions ≤ e.after → e.before < actions
          → ((i : ℕ) (a : LeafOnNode) → from i ≡ Some a → e.after ≡ gate_of base width a → Joined i y) → Joined e.before y
      at_gate _ (into j b n k) g l f = f j b k refl
      at_gate _ (out_of j b n k) g l f = absurd (omega arith)

  all_on : (x y : ℕ) (u v : Option LeafOnNode) → x < actions → y < actions → from x ≡ u → to y ≡ v → both is_one_cell u v ≡ true → LeadsByGates actions edges x y
  all_on x y (Some a) (Some b) l m h k e =
      let same : to y ≡ Some a = rw (one_cell a b e) k in
      link_then _ _ y (linked (edge x (gate_of base width a)) (has_in x a l h)) (omega arith) (one_link _ _ (linked (edge (gate_of base width a) y) (has_out y a m same)))
  all_on x y (Some a) None l m h k e = cc
  all_on x y None v l m h k e = cc

  gate_below : (a : LeafOnNode) → a.leaf < leaves → a.node < width → gate_of base width a < base + width * leaves
  gate_below a l m = let h = mul-add-lt a.leaf width a.node leaves l m in omega arith

  own_edge : (e : Edge) → IsJoinEdge e → IsOwn actions base e.before × IsOwn actions base e.after
  own_edge _ (into j b n k) = (action n, gate (omega arith))
  own_edge _ (out_of j b n k) = (gate (omega arith), action n)

  edge_below : (e : Edge) → IsJoinEdge e → (e.before < base + width * leaves) × (e.after < base + width * leaves)
  edge_below _ (into j b n k) = let h = gate_below b (fits.from_fits j b k).0 (fits.from_fits j b k).1 in (omega arith, h)
  edge_below _ (out_of j b n k) = let h = gate_below b (fits.to_fits j b k).0 (fits.to_fits j b k).1 in (h, omega arith)

  edge_upward : (e : Edge) → IsJoinEdge e → actions ≤ e.after → e.before < e.after
  edge_upward _ (into j b n k) g = omega arith
  edge_upward _ (out_of j b n k) g = absurd (omega arith)

  pub join_group : IsGroup actions base (base + width * leaves) edges Joined
  join_group = record {
    enough = enough;
    ordered = omega arith;
    own = λ e c. own_ends actions base e (own_edge e (is_edge e c));
    below = λ e c. edge_below e (is_edge e c);
    upward = λ e c g. edge_upward e (is_edge e c) g;
    only = only;
    all = λ x y l m h. all_on x y (from x) (to y) l m refl refl h;
  }
