-- Edges that are sorted by how high the positions are to which they lead.
use Rattle.std.proofs.Common.{◌≡◌, ◌⊎◌, inl, inr, ◌<◌, ◌≤◌, ℕ, List, get_or, ap, arith, Contains}
use Rattle.std.specs.List.Sorted.{IsNonDecreasingBy, IsPermutation}
use Rattle.std.proofs.lemmas.Bool.{cases_lt}
use Rattle.std.proofs.lemmas.List.{get_or_default}
use Rattle.std.proofs.lemmas.List.Sorted.{Contains-permutation, IsPermutation-sym}
use Rattle.edges.specs.declared.edge.Edge.{Edge}
use Rattle.edges.specs.Loops.{EndsWithin, HasNoLoop}
use Rattle.edges.specs.LongestChains.{longest}
use Rattle.edges.proofs.Longest.{heights_rise, longest_are_heights}
use Rattle.placement.specs.ChainOrder.{AreEdgesInOrder}

module _ (h : ℕ → ℕ) (edges : List Edge) (sorted : IsNonDecreasingBy (λ (e : Edge). h e.after) edges) where
  pub in-order : ((e : Edge) → Contains edges e → h e.before < h e.after) → AreEdgesInOrder edges
  in-order rises i j d low lower same = go (cases_lt i j)
    where
      rise : h (get_or edges j d).before < h (get_or edges j d).after
      rise = rises (get_or edges j d) (j, lower, get_or_default edges j (get_or edges j d) d lower)

      go : (i < j) ⊎ (j ≤ i) → i < j
      go (inl before) = before
      go (inr behind) =
          let up : h (get_or edges j d).after ≤ h (get_or edges i d).after = sorted j i d behind low in
          let at : h (get_or edges i d).after ≡ h (get_or edges j d).before = ap h same in
          absurd (let f : ⊥ = omega (arith, up, at, rise) in f)

module _ (positions : ℕ) (old new : List Edge) (heights : List ℕ) (within : EndsWithin positions old) (free : HasNoLoop old) where
  pub put-in-order : ((x : ℕ) → x < positions → get_or heights x 0 ≡ longest positions old x) → IsPermutation old new
      → IsNonDecreasingBy (λ (e : Edge). get_or heights e.after 0) new → AreEdgesInOrder new
  put-in-order high same sorted = in-order (λ x. get_or heights x 0) new sorted (λ e among.
      let was = Contains-permutation new old e (IsPermutation-sym old new same) among in
      let ends = within e was in
      let up : longest positions old e.before < longest positions old e.after =
      heights_rise old (longest positions old) (longest_are_heights positions old within free) e was in
      let a = high e.before ends.0 in
      let b = high e.after ends.1 in
      omega (arith, up, a, b))
