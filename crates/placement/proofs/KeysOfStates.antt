-- Keys by the states and the scores that a journal tells are those of the journal.
use Rattle.std.proofs.Common.{◌≡◌, ℕ, ◌<◌, Bool, false, List, filter, fold, length, map, ap, ◌∙◌, Contains, arith}
use Rattle.std.specs.List.{range_with_len}
use Rattle.std.specs.Option.{option_map_or}
use Rattle.lemmas.proofs.Members.{Kept, of_filter, of_range}
use Rattle.lemmas.proofs.Ranges.{filter-same}
use Rattle.cluster_types.specs.declared.cluster.Cluster.{Cluster}
use Rattle.cluster_types.specs.declared.journal.Event.{Event}
use Rattle.cluster_types.specs.declared.journal.Promotion.{Promotion}
use Rattle.cluster_types.specs.declared.placement.Decision.{Decision}
use Rattle.cluster_types.specs.declared.states.Cell.{Cell}
use Rattle.cluster_types.specs.CellStates.{cell_state}
use Rattle.cluster_types.specs.Decisions.{Key, greater_key, greatest_of, is_active_for, key_of, leaf_of, needs_through, bases_where}
use Rattle.cluster_types.specs.Fields.{priority}
use Rattle.cluster_types.specs.NodeStates.{is_usable}
use Rattle.cluster_types.specs.Terms.{base}
use Rattle.cluster_types.specs.UnpackedStates.{states_of}
use Rattle.cluster_types.proofs.StatesKept.{cell_kept}
use Rattle.placement.specs.Scores.{score_in, scores_of}
use Rattle.placement.specs.UsableNodes.{is_usable_by}
use Rattle.placement.proofs.OwnOfStates.{usable-is}
use Rattle.placement.proofs.TableOfStates.{total-is}
use Rattle.placement.specs.Inner.DecisionLists.{is_active_by_cell, compared_key, bases_where_by}
use Rattle.placement.specs.Inner.EffectiveKeys.{effective_in}
use Rattle.placement.proofs.Alike.{map-on}

module _ (c : Cluster) (es : List Event) (ps : List Promotion) (d : Decision) (leaf : leaf_of d < length c.leaves) where
  -- the totals of the decision on the nodes that pass
  totals-are : (passes also : ℕ → Bool) → ((n : ℕ) → n < length c.nodes → passes n ≡ also n)
      → bases_where_by c (states_of c es ps) (scores_of c es ps) passes d ≡ bases_where c es ps also d
  totals-are passes also same =
      ap (map (score_in (scores_of c es ps) d)) (filter-same passes also (length c.nodes) same)
      ∙ map-on (score_in (scores_of c es ps) d) (base c es ps d) (filter also (range_with_len 0 (length c.nodes)))
      (λ n h.
      let k : Kept also (range_with_len 0 (length c.nodes)) n = of_filter also (range_with_len 0 (length c.nodes)) n h in
      let low = of_range 0 (length c.nodes) n k.among in
      total-is c es ps d n leaf (omega (arith, low)))

  pub key-is : compared_key c (states_of c es ps) (scores_of c es ps) d ≡ key_of c es ps d
  key-is =
      let active = ap greatest_of (totals-are (is_active_by_cell c (states_of c es ps) d) (λ n. is_active_for d (cell_state c (leaf_of d) n es))
      (λ n node. ap (λ s. option_map_or (λ (cell : Cell). is_active_for d cell.state) s false) (cell_kept c es ps (leaf_of d) n leaf node))) in
      let usable = ap greatest_of (totals-are (is_usable_by c (states_of c es ps)) (λ n. is_usable c n es) (usable-is c es ps)) in
      λ i. record { priority = priority c (leaf_of d); active = active i; usable = usable i }

-- effective keys by keys that are the same of all decisions of the list
pub effective-same : (c : Cluster) (ds : List Decision) (key other : Decision → Key) → ((d : Decision) → Contains ds d → key d ≡ other d)
    → (d : Decision) → Contains ds d → effective_in c ds key d ≡ effective_in c ds other d
effective-same c ds key other same d h =
    let needing : Decision → Bool = λ e. needs_through c ds e d in
    ap (λ (k : Key). fold greater_key k (map key (filter needing ds))) (same d h)
    ∙ ap (fold greater_key (other d)) (map-on key other (filter needing ds) (λ e there. let k : Kept needing ds e = of_filter needing ds e there in same e k.among))
