-- The edges into a position, and where they begin.
use Rattle.std.proofs.Common.{arith, ◌≡◌, ◌==◌, ℕ, Bool, true, false, List, [], ◌∷◌, map, filter, cond, refl, ap, ◌⊎◌, inl, inr, Contains}
use Rattle.std.proofs.lemmas.Bool.{eqb-true}
use Rattle.lemmas.proofs.Members.{at_head, head_or_rest, in_none, in_rest}
use Rattle.edges.specs.declared.edge.Edge.{Edge}
use Rattle.edges.specs.Sources.{sources_of}

-- an edge leads from s to x
pub record Enters (edges : List Edge) (x s : ℕ) : Type 0 where
  pub edge : Edge
  pub among : Contains edges edge
  pub from : edge.before ≡ s
  pub to : edge.after ≡ x

more : (e : Edge) (edges : List Edge) (x s : ℕ) → Enters edges x s → Enters (e ∷ edges) x s
more e edges x s n = record { edge = n.edge; among = in_rest e edges n.edge n.among; from = n.from; to = n.to }

-- each of the sources has its edge
pub enters_of : (edges : List Edge) (x s : ℕ) → Contains (sources_of edges x) s → Enters edges x s
enters_of [] x s h = absurd (in_none s h)
enters_of (e ∷ edges) x s h = on (e.after == x) refl h (enters_of edges x s) where
  first : (e.after == x) ≡ true → (e.before ≡ s) ⊎ Contains (sources_of edges x) s → (Contains (sources_of edges x) s → Enters edges x s)
      → Enters (e ∷ edges) x s
  first at (inl f) next = record { edge = e; among = at_head e edges e refl; from = f; to = eqb-true e.after x at }
  first at (inr r) next = more e edges x s (next r)

  on : (b : Bool) → (e.after == x) ≡ b → Contains (map (λ (e : Edge). e.before) (cond b (e ∷ filter (λ (e : Edge). e.after == x) edges) (filter (λ (e : Edge). e.after == x) edges))) s
      → (Contains (sources_of edges x) s → Enters edges x s) → Enters (e ∷ edges) x s
  on true at h next = first at (head_or_rest e.before (sources_of edges x) s h) next
  on false at h next = more e edges x s (next h)

-- each edge begins at one of the sources of its end
pub source_of_edge : (edges : List Edge) (e : Edge) → Contains edges e → Contains (sources_of edges e.after) e.before
source_of_edge [] e h = absurd (in_none e h)
source_of_edge (f ∷ edges) e h = on (f.after == e.after) refl (head_or_rest f edges e h) (source_of_edge edges e) where
  on : (b : Bool) → (f.after == e.after) ≡ b → (f ≡ e) ⊎ Contains edges e → (Contains edges e → Contains (sources_of edges e.after) e.before)
      → Contains (map (λ (e : Edge). e.before) (cond b (f ∷ filter (λ (g : Edge). g.after == e.after) edges) (filter (λ (g : Edge). g.after == e.after) edges))) e.before
  on true at (inl same) next = at_head f.before (sources_of edges e.after) e.before (ap (λ (g : Edge). g.before) same)
  on true at (inr r) next = in_rest f.before (sources_of edges e.after) e.before (next r)
  on false at (inl same) next = let g = ap (λ (g : Edge). g.after == e.after) same in let r : (e.after == e.after) ≡ true = grind arith in cc
  on false at (inr r) next = next r
