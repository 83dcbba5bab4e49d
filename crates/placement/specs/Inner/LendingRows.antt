-- The leaves whose own terms count for a leaf, by the states of the cluster (follows from the definition of lenders).
use Rattle.std.specs.Prelude.{ℕ, ◌&&◌, Bool, not, if◌then◌else◌, List, [], ◌∷◌, ◌++◌, length, filter, fold}
use Rattle.std.specs.Int.{is_negative}
use Rattle.std.specs.List.{list_any, range_with_len}
use Rattle.score.specs.Total.{total_of}
use Rattle.cluster_types.specs.declared.cluster.Cluster.{Cluster}
use Rattle.cluster_types.specs.declared.states.States.{States}
use Rattle.cluster_types.specs.Terms.{is_tied}
use Rattle.placement.specs.Inner.OwnRows.{terms_by}
use Rattle.placement.specs.UsableNodes.{is_usable_by}

module _ (c : Cluster) (states : States) where
  -- with the terms of these leaves some usable node is left
  abbrev pub leaves_a_node_by : List ℕ → Bool
  leaves_a_node_by leaves =
      list_any (λ n. is_usable_by c states n && not (is_negative (total_of (terms_by c states leaves n))))
      (range_with_len 0 (length c.nodes))

  -- one more lender joins, unless no usable node would be left
  abbrev pub with_lender_by : List ℕ → ℕ → List ℕ
  with_lender_by joined s = if leaves_a_node_by (joined ++ s ∷ []) then joined ++ s ∷ [] else joined

  -- the leaf with the lenders below one that join it
  abbrev pub joined_below : ℕ → ℕ → List ℕ
  joined_below r s = fold with_lender_by (r ∷ []) (filter (λ t. is_tied c t r) (range_with_len 0 s))

  -- the same of all lenders
  abbrev pub all_joined : ℕ → List ℕ
  all_joined r = joined_below r (length c.leaves)
