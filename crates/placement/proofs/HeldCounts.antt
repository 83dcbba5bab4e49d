-- What a queue counts, with one position more taken.
use Rattle.std.proofs.Common.{arith, ◌≡◌, ◌≢◌, ℕ, ◌+◌, ◌<◌, ◌≤◌, ◌==◌, ◌&&◌, ◌||◌, not, Bool, true, false, cond, List, [], ◌∷◌, length, filter, count_by, replicate, slice_index_or, slice_set, Contains, Any, eqb-true, refl, sym, ap, subst, ◌∙◌, inl, inr}
use Rattle.std.specs.List.{list_any}
use Rattle.std.proofs.Math.Bool.{and-false, and-true}
use Rattle.std.proofs.lemmas.Bool.{cases_lt, eqb-false, false_from_ne_true}
use Rattle.std.proofs.lemmas.List.{get_or-replicate, get_or-set_same, get_or-set_other, get_or_past, length-replicate}
use Rattle.std.proofs.lemmas.List.Folds.{Any-from_list_any}
use Rattle.lemmas.proofs.Booleans.{sooner}
use Rattle.lemmas.proofs.Counts.{count-is, count-none, count_agree}
use Rattle.lemmas.proofs.Members.{of_filter, of_map}
use Rattle.edges.specs.declared.edge.Edge.{Edge}
use Rattle.edges.specs.Loops.{EndsWithin}
use Rattle.edges.specs.declared.side.Side.TheVariants.{After}
use Rattle.edges.specs.Rows.{edges_at, edge_targets_of}
use Rattle.placement.specs.Inner.Queueing.{held}

-- each target stands at the end of an edge
pub target-within : (positions : ℕ) (edges : List Edge) → EndsWithin positions edges → (k x : ℕ) → Contains (edge_targets_of edges k) x → x < positions
target-within positions edges ends k x there =
    let m = of_map (λ (e : Edge). e.after) (filter (λ (e : Edge). e.before == k) edges) x there in
    let f = of_filter (λ (e : Edge). e.before == k) edges m.source m.among in
    subst (λ (y : ℕ). y < positions) m.gives (ends m.source f.among).1

-- no edge leads past the last position
held-beyond : (positions : ℕ) (edges : List Edge) (made : List Bool) → EndsWithin positions edges → (x : ℕ) → positions ≤ x → held edges made x ≡ 0
held-beyond positions edges made ends x high =
    count-none (λ (e : Edge). x == e.after && not (slice_index_or made e.before false)) edges
    (false_from_ne_true (list_any (λ (e : Edge). x == e.after && not (slice_index_or made e.before false)) edges) (λ h.
    from (Any-from_list_any (λ (e : Edge). x == e.after && not (slice_index_or made e.before false)) edges h)))
  where
    from : Any (λ (e : Edge). x == e.after && not (slice_index_or made e.before false) ≡ true) edges → ⊥
    from (i, e, lt, is, pass) =
        let same : x ≡ e.after = eqb-true x e.after (sooner (x == e.after) _ pass) in
        let low : e.after < positions = (ends e (i, lt, is)).1 in
        let f : ⊥ = omega (arith, same, low, high) in
        f

module _ (edges : List Edge) (made : List Bool) (k : ℕ) (low : k < length made) (open_yet : slice_index_or made k false ≡ false) where
  abbrev now : List Bool
  now = slice_set made k true

  -- the edges from a position hold no more once it is taken
  count-row : (x : ℕ) (es : List Edge) → held es made x ≡ held es now x + count_by (◌==◌ x) (edge_targets_of es k)
  count-row x [] = refl
  count-row x (e ∷ es) = on (e.before == k) refl (x == e.after) refl (count-row x es)
    where
      on : (from : Bool) → (e.before == k) ≡ from → (b : Bool) → (x == e.after) ≡ b
          → held es made x ≡ held es now x + count_by (◌==◌ x) (edge_targets_of es k)
          → held (e ∷ es) made x ≡ held (e ∷ es) now x + count_by (◌==◌ x) (edge_targets_of (e ∷ es) k)
      on true from b at rest =
          let same : e.before ≡ k = eqb-true e.before k from in
          let was : slice_index_or made e.before false ≡ false = ap (λ y. slice_index_or made y false) same ∙ open_yet in
          let is : slice_index_or now e.before false ≡ true = ap (λ y. slice_index_or now y false) same ∙ get_or-set_same made k true false low in
          let one : held (e ∷ es) made x ≡ cond b 1 0 + held es made x =
          count-is (λ (e : Edge). x == e.after && not (slice_index_or made e.before false)) e es b (rw (at, was) (and-true b)) in
          let none : held (e ∷ es) now x ≡ 0 + held es now x =
          count-is (λ (e : Edge). x == e.after && not (slice_index_or now e.before false)) e es false (rw (at, is) (and-false b)) in
          let row : edge_targets_of (e ∷ es) k ≡ e.after ∷ edge_targets_of es k = rw from refl in
          let more : count_by (◌==◌ x) (e.after ∷ edge_targets_of es k) ≡ cond b 1 0 + count_by (◌==◌ x) (edge_targets_of es k) =
          count-is (◌==◌ x) e.after (edge_targets_of es k) b at in
          let all : count_by (◌==◌ x) (edge_targets_of (e ∷ es) k) ≡ cond b 1 0 + count_by (◌==◌ x) (edge_targets_of es k) = ap (count_by (◌==◌ x)) row ∙ more in
          omega arith
      on false from b at rest =
          let other : e.before ≢ k = eqb-false e.before k from in
          let still : slice_index_or now e.before false ≡ slice_index_or made e.before false = get_or-set_other made k e.before true false other in
          let was : held (e ∷ es) made x ≡ cond (b && not (slice_index_or made e.before false)) 1 0 + held es made x =
          count-is (λ (e : Edge). x == e.after && not (slice_index_or made e.before false)) e es (b && not (slice_index_or made e.before false)) (rw at refl) in
          let is : held (e ∷ es) now x ≡ cond (b && not (slice_index_or made e.before false)) 1 0 + held es now x =
          count-is (λ (e : Edge). x == e.after && not (slice_index_or now e.before false)) e es (b && not (slice_index_or made e.before false)) (rw (at, still) refl) in
          let row : edge_targets_of (e ∷ es) k ≡ edge_targets_of es k = rw from refl in
          let all : count_by (◌==◌ x) (edge_targets_of (e ∷ es) k) ≡ count_by (◌==◌ x) (edge_targets_of es k) = ap (count_by (◌==◌ x)) row in
          omega arith

  module _ (positions : ℕ) (ends : EndsWithin positions edges) (counts : List ℕ) (size : length counts ≡ positions)
      (counted : (x : ℕ) → x < positions → slice_index_or counts x 0 ≡ held edges made x) where
    -- so many can be counted off
    pub row-few : (x : ℕ) → count_by (◌==◌ x) (edge_targets_of edges k) ≤ slice_index_or counts x 0
    row-few x =
        let all = count-row x edges in
        elim (cases_lt x positions) [
          | inl inside ↦ (let c = counted x inside in omega arith)
          | inr beyond ↦ (let none = held-beyond positions edges made ends x beyond in omega arith)
        ]

    pub counted-next : (new : List ℕ) → ((x : ℕ) → slice_index_or new x 0 + count_by (◌==◌ x) (edge_targets_of edges k) ≡ slice_index_or counts x 0)
        → (x : ℕ) → x < positions → slice_index_or new x 0 ≡ held edges now x
    counted-next new less x inside =
        let all = count-row x edges in
        let c = counted x inside in
        let l = less x in
        omega arith

-- at first nothing was taken
none-made : (positions i : ℕ) → slice_index_or (replicate positions false) i false ≡ false
none-made positions i = elim (cases_lt i positions) [
  | inl low ↦ get_or-replicate positions i false false low
  | inr high ↦ get_or_past (replicate positions false) i false (let n = length-replicate positions false in omega (arith, n, high))
]

pub counted-first : (edges : List Edge) (positions x : ℕ) → edges_at After edges x ≡ held edges (replicate positions false) x
counted-first edges positions x =
    count_agree (λ (e : Edge). x == e.after) (λ (e : Edge). x == e.after && not (slice_index_or (replicate positions false) e.before false))
    (λ e. sym (ap (λ b. x == e.after && not b) (none-made positions e.before) ∙ and-true (x == e.after))) edges

pub none-ready : (positions p : ℕ) (rest : Bool) → (slice_index_or (replicate positions false) p false || rest) ≡ rest
none-ready positions p rest = ap (λ b. b || rest) (none-made positions p)
