-- The table of all totals by the states that a journal tells is that of the journal.
use Rattle.std.proofs.Common.{◌≡◌, ℕ, ◌+◌, ◌*◌, ◌<◌, nat_lt, true, slice_index_or, ℤ, pos, refl, List, [], ◌∷◌, ◌++◌, length, map, ap, ◌∙◌, arith}
use Rattle.std.specs.List.{range_with_len}
use Rattle.std.proofs.lemmas.Bool.Decides.{nat_tests}
use Rattle.std.proofs.lemmas.List.Sorted.{IsPermutation-append_comm}
use Rattle.lemmas.proofs.Ranges.{flat_map-same, map-same}
use Rattle.score.specs.Total.{total_of}
use Rattle.score.proofs.OrderLemmas.{same_total}
use Rattle.cluster_types.specs.declared.cluster.Cluster.{Cluster}
use Rattle.cluster_types.specs.declared.journal.Event.{Event}
use Rattle.cluster_types.specs.declared.journal.Promotion.{Promotion}
use Rattle.cluster_types.specs.declared.placement.Decision.{Decision}
use Rattle.cluster_types.specs.declared.placement.Decision.TheVariants.{Place, Promote}
use Rattle.cluster_types.specs.Decisions.{leaf_of}
use Rattle.cluster_types.proofs.StatesKept.{get_or-rows}
use Rattle.cluster_types.specs.Terms.{base, is_promoted, location_scores, promotion_score, with_lenders}
use Rattle.cluster_types.specs.UnpackedStates.{states_of}
use Rattle.placement.specs.Inner.OwnRows.{terms_by}
use Rattle.placement.specs.Inner.ScoresByStates.{place_by, promote_by, table_by}
use Rattle.placement.specs.Scores.{cells_of, score_in_list, score_in, scores_of}
use Rattle.placement.proofs.JoinedOfStates.{all-joins, terms-is}

-- cells that are the same
cells-same : {X : Type 0} (c : Cluster) (f g : ℕ → ℕ → X) → ((r n : ℕ) → r < length c.leaves → n < length c.nodes → f r n ≡ g r n) → cells_of c f ≡ cells_of c g
cells-same c f g h =
    flat_map-same (λ r. map (f r) (range_with_len 0 (length c.nodes))) (λ r. map (g r) (range_with_len 0 (length c.nodes))) (length c.leaves)
    (λ r leaf. map-same (f r) (g r) (length c.nodes) (λ n node. h r n leaf node))

-- a node that is there has its score in the list
score-there : (scores : List ℤ) (nodes r n : ℕ) → n < nodes → score_in_list scores nodes r n ≡ slice_index_or scores (r * nodes + n) (pos 0)
score-there scores nodes r n h = let there : nat_lt n nodes ≡ true = grind (arith, nat_tests) in rw there refl

module _ (c : Cluster) (es : List Event) (ps : List Promotion) where
  place-is : (r n : ℕ) → r < length c.leaves → n < length c.nodes → place_by c (states_of c es ps) r n ≡ base c es ps (Place r) n
  place-is r n leaf node =
      let joins = all-joins c es ps r leaf in
      ap (λ leaves. total_of (terms_by c (states_of c es ps) leaves n)) joins.same ∙ ap total_of (terms-is c es ps (with_lenders c es r) joins.below n node)

  promote-is : (r n : ℕ) → promote_by c (states_of c es ps) r n ≡ base c es ps (Promote r) n
  promote-is r n =
      let given = location_scores c es is_promoted r n in
      let wish = promotion_score ps r n in
      same_total (given ++ wish ∷ []) (wish ∷ given) (IsPermutation-append_comm given (wish ∷ []))

  pub table-is : table_by c (states_of c es ps) ≡ scores_of c es ps
  table-is =
      ap (λ (places : List ℤ). record { nodes = length c.nodes; places = places; promotes = cells_of c (promote_by c (states_of c es ps)) })
      (cells-same c (place_by c (states_of c es ps)) (λ r. base c es ps (Place r)) place-is)
      ∙ ap (λ (promotes : List ℤ). record { nodes = length c.nodes; places = cells_of c (λ r. base c es ps (Place r)); promotes = promotes })
      (cells-same c (promote_by c (states_of c es ps)) (λ r. base c es ps (Promote r)) (λ r n leaf node. promote-is r n))

  -- and what it says of a decision on a node is that total
  pub total-is : (d : Decision) (n : ℕ) → leaf_of d < length c.leaves → n < length c.nodes → score_in (scores_of c es ps) d n ≡ base c es ps d n
  total-is (Place r) n leaf node =
      score-there (cells_of c (λ s. base c es ps (Place s))) (length c.nodes) r n node ∙
      get_or-rows (λ s. base c es ps (Place s)) (length c.nodes) 0 (length c.leaves) r n (pos 0) leaf node
      ∙ ap (λ (s : ℕ). base c es ps (Place s) n) (let e : 0 + r ≡ r = omega arith in e)
  total-is (Promote r) n leaf node =
      score-there (cells_of c (λ s. base c es ps (Promote s))) (length c.nodes) r n node ∙
      get_or-rows (λ s. base c es ps (Promote s)) (length c.nodes) 0 (length c.leaves) r n (pos 0) leaf node
      ∙ ap (λ (s : ℕ). base c es ps (Promote s) n) (let e : 0 + r ≡ r = omega arith in e)
