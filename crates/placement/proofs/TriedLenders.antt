-- A lender that is tried: the row of what the leaf would have with it, and whether some usable node would be left.
use Rattle.std.proofs.Common.{◌≡◌, ℕ, ℤ, Bool, ◌&&◌, not, List, [], ◌∷◌, ◌++◌, length, sym, ap, subst, ◌∙◌}
use Rattle.std.specs.Int.{is_negative}
use Rattle.std.specs.List.{list_any, range_with_len}
use Rattle.lemmas.proofs.Ranges.{any-same}
use Rattle.score.specs.Row.{Tally}
use Rattle.score.specs.Total.{total_of}
use Rattle.cluster_types.specs.declared.cluster.Cluster.{Cluster}
use Rattle.cluster_types.specs.declared.states.States.{States}
use Rattle.placement.specs.Inner.LendingRows.{leaves_a_node_by}
use Rattle.placement.specs.OwnRows.{own_by}
use Rattle.placement.specs.Inner.OwnRows.{terms_by}
use Rattle.placement.specs.Rows.{IsRow}
use Rattle.placement.specs.UsableNodes.{is_usable_by}
use Rattle.placement.proofs.Lenders.{terms-more}
use Rattle.placement.proofs.TermRows.{row-same}

module _ (c : Cluster) (states : States) (joined : List ℕ) (s nodes : ℕ) where
  pub tried-row : (old own new : List Tally) → nodes ≡ length c.nodes
      → ((f g : ℕ → List ℤ) → IsRow nodes f old → IsRow nodes g own → IsRow nodes (λ n. f n ++ g n) new)
      → IsRow (length c.nodes) (terms_by c states joined) old → IsRow (length c.nodes) (own_by c states s) own
      → IsRow (length c.nodes) (terms_by c states (joined ++ s ∷ [])) new
  tried-row old own new size made one other =
      let both = made (terms_by c states joined) (own_by c states s) (subst (λ (k : ℕ). IsRow k (terms_by c states joined) old) (sym size) one)
      (subst (λ (k : ℕ). IsRow k (own_by c states s) own) (sym size) other) in
      row-same (length c.nodes) (λ n. terms_by c states joined n ++ own_by c states s n) (terms_by c states (joined ++ s ∷ [])) new
      (λ n low. sym (terms-more c states joined s n))
      (subst (λ (k : ℕ). IsRow k (λ n. terms_by c states joined n ++ own_by c states s n) new) size both)

  pub tried-test : (usable : ℕ → Bool) (row : List Tally) (fits : Bool) → nodes ≡ length c.nodes → ((n : ℕ) → usable n ≡ is_usable_by c states n)
      → IsRow (length c.nodes) (terms_by c states (joined ++ s ∷ [])) row
      → ((terms : ℕ → List ℤ) → IsRow nodes terms row → fits ≡ list_any (λ n. usable n && not (is_negative (total_of (terms n)))) (range_with_len 0 nodes))
      → fits ≡ leaves_a_node_by c states (joined ++ s ∷ [])
  tried-test usable row fits size same is test =
      test (terms_by c states (joined ++ s ∷ [])) (subst (λ (k : ℕ). IsRow k (terms_by c states (joined ++ s ∷ [])) row) (sym size) is)
      ∙ (ap (λ k. list_any (λ n. usable n && not (is_negative (total_of (terms_by c states (joined ++ s ∷ []) n)))) (range_with_len 0 k)) size
      ∙ any-same (λ n. usable n && not (is_negative (total_of (terms_by c states (joined ++ s ∷ []) n)))) _ (length c.nodes)
      (λ n low. ap (λ b. b && not (is_negative (total_of (terms_by c states (joined ++ s ∷ []) n)))) (same n)))
