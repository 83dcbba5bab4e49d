-- The rows of edges that were turned round: from where edges lead to each position.
use Rattle.std.proofs.Common.{◌≡◌, ◌<◌, ◌==◌, ◌&&◌, ◌||◌, ℕ, Bool, true, false, cond, List, [], ◌∷◌, length, map, filter, slice_index_or, refl, sym, ap, subst, ◌∙◌, Contains}
use Rattle.std.specs.List.{list_any}
use Rattle.lemmas.proofs.Booleans.{equal_turned, number_itself}
use Rattle.lemmas.proofs.Members.{of_map}
use Rattle.lemmas.proofs.Searches.{passes_by}
use Rattle.edges.specs.declared.edge.Edge.{Edge}
use Rattle.edges.specs.Loops.{EndsWithin}
use Rattle.edges.specs.Rows.{edge_targets_of}
use Rattle.edges.specs.Sources.{is_in_list}
use Rattle.edges.proofs.Filled.{target_lists, targets_at}
use Rattle.cluster_types.specs.declared.graph_edges.Edges.{Edges}
use Rattle.cluster_types.specs.Inner.Walks.{joins}
use Rattle.cluster_types.proofs.Walks.{by_edge}
use Rattle.trace_text.specs.Inner.Walk.{source_rows, turned_edge}

-- the ends of edges that are turned are positions too
pub turned_within : (positions : ℕ) (edges others : List Edge) → EndsWithin positions edges → others ≡ map turned_edge edges → EndsWithin positions others
turned_within positions edges others ends is e among =
    let from = of_map turned_edge edges e (subst (λ (es : List Edge). Contains es e) is among) in
    let w = ends from.source from.among in
    subst (λ (d : Edge). (d.before < positions) × (d.after < positions)) from.gives (w.1, w.0)

-- the row of a position has just the positions from which an edge leads to it
in_row : (edges : List Edge) (y x : ℕ) → is_in_list (edge_targets_of (map turned_edge edges) y) x ≡ list_any (joins x y) edges
in_row [] y x = refl
in_row (e ∷ es) y x = on (e.after == y) (in_row es y x) where
  on : (here : Bool) → is_in_list (edge_targets_of (map turned_edge es) y) x ≡ list_any (joins x y) es
      → is_in_list (map (λ (d : Edge). d.after)
      (cond here (turned_edge e ∷ filter (λ (d : Edge). d.before == y) (map turned_edge es)) (filter (λ (d : Edge). d.before == y) (map turned_edge es)))) x
      ≡ (here && e.before == x || list_any (joins x y) es)
  on true same =
      ap (λ b. b || is_in_list (edge_targets_of (map turned_edge es) y) x) (equal_turned x e.before) ∙ ap (λ b. e.before == x || b) same
  on false same = same

module _ (edges : Edges) (rows : List (List ℕ)) (sources : rows ≡ source_rows edges) where
  pub rows_there : length rows ≡ edges.positions
  rows_there = ap length sources ∙ target_lists edges.positions (map turned_edge edges.list)

  module _ (y : ℕ) (lt : y < edges.positions) where
    pub sources_are : (x : ℕ) → is_in_list (slice_index_or rows y []) x ≡ list_any (joins x y) edges.list
    sources_are x =
        ap (λ (rs : List (List ℕ)). is_in_list (slice_index_or rs y []) x) sources
        ∙ (ap (λ (row : List ℕ). is_in_list row x) (targets_at edges.positions (map turned_edge edges.list) y lt) ∙ in_row edges.list y x)

    pub sources_within : EndsWithin edges.positions edges.list → (x : ℕ) → Contains (slice_index_or rows y []) x → x < edges.positions
    sources_within ends x among =
        on (by_edge edges.list x y (sym (sources_are x) ∙ passes_by (◌==◌ x) (slice_index_or rows y []) x among (number_itself x))) where
          on : (e : Edge) × Contains edges.list e × (e.after ≡ y) × (e.before ≡ x) → x < edges.positions
          on (e, c, to, from) = rw (← from) (ends e c).0
