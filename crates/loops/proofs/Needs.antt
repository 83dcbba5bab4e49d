-- The needs of decisions as edges.
use Rattle.std.proofs.Common.{arith, ◌≡◌, ◌<◌, ◌+◌, ◌&&◌, ◌||◌, not, ℕ, Bool, true, false, List, [], ◌∷◌, ◌++◌, map, length, refl, sym, ap, inl, inr, Contains, Any}
use Rattle.std.specs.List.{list_any, range_with_len}
use Rattle.std.proofs.lemmas.Bool.{and_from, or_left, or_right}
use Rattle.std.proofs.lemmas.List.Elements.{Contains-append_left, Contains-append_right, Contains-append_cases}
use Rattle.std.proofs.lemmas.List.Folds.{Any-from_list_any}
use Rattle.std.proofs.lemmas.List.FromFn.{map-range_with_len_more}
use Rattle.lemmas.proofs.Booleans.{sooner, later}
use Rattle.lemmas.proofs.Searches.{passes_by}
use Rattle.edges.specs.declared.edge.Edge.{Edge}
use Rattle.edges.proofs.Relations.{EdgeFor, LinkFor}
use Rattle.cluster_types.specs.declared.cluster.Cluster.{Cluster}
use Rattle.cluster_types.specs.declared.leaf.Role.{Role}
use Rattle.cluster_types.specs.declared.leaf.Role.TheVariants.{Started, Promoted}
use Rattle.cluster_types.specs.declared.placement.Decision.{Decision}
use Rattle.cluster_types.specs.declared.placement.Decision.TheVariants.{Place, Promote}
use Rattle.cluster_types.specs.declared.rules.Colocation.{Colocation}
use Rattle.cluster_types.specs.Decisions.{IsNeedLink, all_decisions, decision_of, is_place, is_same_decision, makes_need, leaf_of, needs}
use Rattle.loops.specs.Inner.Edges.{colocation_edge, decision_position, leaf_edge, leaf_edges, need_edges}
use Rattle.loops.specs.FirstLoops.{JoinsLeaves}
use Rattle.lemmas.proofs.Members.{Mapped, at_head, head_or_rest, in_flat, in_map, in_none, in_range, in_rest, of_flat, of_map, of_range}

pub leaves_more : (n : ℕ) → map leaf_edge (range_with_len 0 (n + 1)) ≡ map leaf_edge (range_with_len 0 n) ++ leaf_edge n ∷ []
leaves_more n = map-range_with_len_more leaf_edge 0 n n (omega arith)

-- equal decisions have equal positions, and the other way round

pub same_decision : (d e : Decision) → is_same_decision d e ≡ true → d ≡ e
same_decision (Place r) (Place s) h = let e : r ≡ s = grind arith in ap Place e
same_decision (Promote r) (Promote s) h = let e : r ≡ s = grind arith in ap Promote e
same_decision (Place r) (Promote s) h = cc
same_decision (Promote r) (Place s) h = cc

pub same_position : (d e : Decision) → decision_position d ≡ decision_position e → d ≡ e
same_position (Place r) (Place s) h = let e : r ≡ s = omega arith in ap Place e
same_position (Promote r) (Promote s) h = let e : r ≡ s = omega arith in ap Promote e
same_position (Place r) (Promote s) h = absurd (let f : ⊥ = omega arith in f)
same_position (Promote r) (Place s) h = absurd (let f : ⊥ = omega arith in f)

pub is_itself : (d : Decision) → is_same_decision d d ≡ true
is_itself (Place r) = grind arith
is_itself (Promote r) = grind arith

-- the decision that gives a leaf a role is of that leaf
pub decided_leaf : (r : ℕ) (given : Role) → leaf_of (decision_of r given) ≡ r
decided_leaf r Started = refl
decided_leaf r Promoted = refl

pub placed_by : (r s : ℕ) (given : Role) → Place r ≡ decision_of s given → (s ≡ r) × (given ≡ Started)
placed_by r s Started e = (cc, refl)
placed_by r s Promoted e = cc

-- the decisions of a cluster are those of its leaves

module _ (c : Cluster) where
  pair : ℕ → List Decision
  pair r = Place r ∷ Promote r ∷ []

  leaf_in_pair : (r : ℕ) (d : Decision) → Contains (Place r ∷ Promote r ∷ []) d → leaf_of d ≡ r
  leaf_in_pair r d h = elim (head_or_rest (Place r) (Promote r ∷ []) d h) [
    | inl e ↦ sym (ap leaf_of e)
    | inr t ↦ elim (head_or_rest (Promote r) [] d t) [
      | inl e ↦ sym (ap leaf_of e)
      | inr n ↦ absurd (in_none d n)
    ]
  ]

  pub leaf_there : (d : Decision) → Contains (all_decisions c) d → leaf_of d < length c.leaves
  leaf_there d h =
      let f = of_flat (λ r. Place r ∷ Promote r ∷ []) (range_with_len 0 (length c.leaves)) d h in
      let e = leaf_in_pair f.source d f.gives in
      let lt = of_range 0 (length c.leaves) f.source f.among in
      omega arith

  decision_in_pair : (d : Decision) → Contains (Place (leaf_of d) ∷ Promote (leaf_of d) ∷ []) d
  decision_in_pair (Place r) = at_head (Place r) (Promote r ∷ []) (Place r) refl
  decision_in_pair (Promote r) = in_rest (Place r) (Promote r ∷ []) (Promote r) (at_head (Promote r) [] (Promote r) refl)

  pub decision_there : (d : Decision) → leaf_of d < length c.leaves → Contains (all_decisions c) d
  decision_there d lt =
      in_flat (λ r. Place r ∷ Promote r ∷ []) (range_with_len 0 (length c.leaves)) (leaf_of d) d
      (in_range 0 (length c.leaves) (leaf_of d) (omega arith) (omega arith)) (decision_in_pair d)

-- each need is an edge, and each edge a need

module _ (c : Cluster) (joined : (col : Colocation) → Contains c.colocations col → JoinsLeaves c col) where
  in_leaf_edges : (r : ℕ) → r < length c.leaves → Contains (need_edges c) (leaf_edge r)
  in_leaf_edges r lt =
      Contains-append_left (leaf_edges (length c.leaves)) (map colocation_edge c.colocations) (leaf_edge r)
      (in_map leaf_edge (range_with_len 0 (length c.leaves)) r (in_range 0 (length c.leaves) r (omega arith) (omega arith)))

  in_colocation_edges : (col : Colocation) → Contains c.colocations col → Contains (need_edges c) (colocation_edge col)
  in_colocation_edges col h =
      Contains-append_right (leaf_edges (length c.leaves)) (map colocation_edge c.colocations) (colocation_edge col)
      (in_map colocation_edge c.colocations col h)

  edge_of_leaf : (w s : Decision) → leaf_of w < length c.leaves → not (is_place s) && is_same_decision w (Place (leaf_of s)) ≡ true
      → EdgeFor (λ d. d) (need_edges c) decision_position w s
  edge_of_leaf w (Place r) lt h = cc
  edge_of_leaf w (Promote r) lt h =
      let same : w ≡ Place r = same_decision w (Place r) h in
      record {
        edge = leaf_edge r;
        among = in_leaf_edges r (let l = ap leaf_of same in omega arith);
        from = refl;
        to = sym (ap decision_position same);
      }

  edge_of_colocation : (w s : Decision) → Any (λ col. makes_need s w col ≡ true) c.colocations
      → EdgeFor (λ d. d) (need_edges c) decision_position w s
  edge_of_colocation w s (k, col, lt, at, h) =
      let dependent : s ≡ decision_of col.dependent col.dependent_role
      = same_decision s _ (sooner (is_same_decision s (decision_of col.dependent col.dependent_role)) _ h) in
      let primary : w ≡ decision_of col.primary col.primary_role
      = same_decision w _ (later (is_same_decision s (decision_of col.dependent col.dependent_role)) _ h) in
      record {
        edge = colocation_edge col;
        among = in_colocation_edges col (k, lt, at);
        from = sym (ap decision_position dependent);
        to = sym (ap decision_position primary);
      }

  pub edge_for : (w s : Decision) → Contains (all_decisions c) w → needs c s w ≡ true
      → EdgeFor (λ d. d) (need_edges c) decision_position w s
  edge_for w s there h = on (not (is_place s) && is_same_decision w (Place (leaf_of s))) refl h where
    on : (b : Bool) → (not (is_place s) && is_same_decision w (Place (leaf_of s))) ≡ b → b || list_any (makes_need s w) c.colocations ≡ true
        → EdgeFor (λ d. d) (need_edges c) decision_position w s
    on true e g = edge_of_leaf w s (leaf_there c w there) e
    on false e g = edge_of_colocation w s (Any-from_list_any (makes_need s w) c.colocations g)

  link_of_leaf : (e : Edge) (s : Decision) → e.before ≡ decision_position s → Mapped leaf_edge (range_with_len 0 (length c.leaves)) e
      → LinkFor (IsNeedLink c (all_decisions c)) decision_position e s
  link_of_leaf e s from m =
      let starts : s ≡ Promote m.source = same_position s (Promote m.source) (let g = ap (λ (x : Edge). x.before) m.gives in cc) in
      let lt : m.source < length c.leaves = let l = of_range 0 (length c.leaves) m.source m.among in omega arith in
      record {
        next = Place m.source;
        link = record {
          there = decision_there c (Place m.source) lt;
          needed = rw starts (or_left (is_same_decision (Place m.source) (Place m.source)) _ (is_itself (Place m.source)));
        };
        to = sym (ap (λ (x : Edge). x.after) m.gives);
      }

  link_of_colocation : (e : Edge) (s : Decision) → e.before ≡ decision_position s → Mapped colocation_edge c.colocations e
      → LinkFor (IsNeedLink c (all_decisions c)) decision_position e s
  link_of_colocation e s from m =
      let col : Colocation = m.source in
      let starts : s ≡ decision_of col.dependent col.dependent_role
      = same_position s (decision_of col.dependent col.dependent_role) (let g = ap (λ (x : Edge). x.before) m.gives in cc) in
      let j = joined col m.among in
      let lt : leaf_of (decision_of col.primary col.primary_role) < length c.leaves
      = leaf_of_role col.primary col.primary_role (length c.leaves) j.primary in
      record {
        next = decision_of col.primary col.primary_role;
        link = record {
          there = decision_there c (decision_of col.primary col.primary_role) lt;
          needed = or_right (not (is_place s) && is_same_decision (decision_of col.primary col.primary_role) (Place (leaf_of s))) _
              (passes_by (makes_need s (decision_of col.primary col.primary_role)) c.colocations col m.among
              (and_from (is_same_decision s (decision_of col.dependent col.dependent_role)) _
              (rw starts (is_itself (decision_of col.dependent col.dependent_role)))
              (is_itself (decision_of col.primary col.primary_role))));
        };
        to = sym (ap (λ (x : Edge). x.after) m.gives);
      }
    where
      leaf_of_role : (r : ℕ) (role : Role) (n : ℕ) → r < n → leaf_of (decision_of r role) < n
      leaf_of_role r Started n lt = lt
      leaf_of_role r Promoted n lt = lt

  pub link_for : (e : Edge) (s : Decision) → Contains (need_edges c) e → e.before ≡ decision_position s
      → LinkFor (IsNeedLink c (all_decisions c)) decision_position e s
  link_for e s h from =
      elim (Contains-append_cases (leaf_edges (length c.leaves)) (map colocation_edge c.colocations) e h) [
        | inl l ↦ link_of_leaf e s from (of_map leaf_edge (range_with_len 0 (length c.leaves)) e l)
        | inr r ↦ link_of_colocation e s from (of_map colocation_edge c.colocations e r)
      ]
