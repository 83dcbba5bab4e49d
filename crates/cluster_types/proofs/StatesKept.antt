-- Where what a journal tells of each node, cell and leaf is kept.
use Rattle.std.proofs.Common.{arith, ◌≡◌, ◌<◌, ◌≤◌, ◌+◌, ◌*◌, ◌-◌, ℕ, suc, zero, Some, List, ◌∙◌, ap, length, map, get_or}
use Rattle.std.specs.Prelude.{slice_get}
use Rattle.std.specs.List.{flat_map, range_with_len}
use Rattle.std.proofs.Math.Nat.{mul-le-mul_right}
use Rattle.std.proofs.lemmas.List.{get_or-append_right, get_or_append_left, length-append}
use Rattle.std.proofs.lemmas.List.FromFn.{get_or-map-range_with_len, length-map-range_with_len}
use Rattle.std.proofs.lemmas.Option.{slice_get-get_or}
use Rattle.lemmas.proofs.Ranges.{slice_get-range}
use Rattle.cluster_types.specs.declared.cluster.Cluster.{Cluster}
use Rattle.cluster_types.specs.declared.journal.Event.{Event}
use Rattle.cluster_types.specs.declared.journal.Promotion.{Promotion}
use Rattle.cluster_types.specs.Failures.{is_fail_stopped}
use Rattle.cluster_types.specs.NodeStates.{node_state}
use Rattle.cluster_types.specs.UnpackedStates.{cell_at, states_of}

-- rows of one width, one behind the other
module _ {X : Type 0} (f : ℕ → ℕ → X) (width : ℕ) where
  abbrev pub rows : ℕ → ℕ → List X
  rows from n = flat_map (λ r. map (f r) (range_with_len 0 width)) (range_with_len from n)

  pub length-rows : (from n : ℕ) → length (rows from n) ≡ n * width
  length-rows from zero = omega arith
  length-rows from (suc n) =
      let a = length-append (map (f from) (range_with_len 0 width)) (rows (from + 1) n) in
      let m = length-map-range_with_len (f from) 0 width in
      let rest = length-rows (from + 1) n in
      let step : suc n * width ≡ n * width + width = omega arith in
      omega arith

  pub get_or-rows : (from n r k : ℕ) (d : X) → r < n → k < width → get_or (rows from n) (r * width + k) d ≡ f (from + r) k
  get_or-rows from zero r k d low within = absurd (let f : ⊥ = omega arith in f)
  get_or-rows from (suc n) zero k d low within =
      let m = length-map-range_with_len (f from) 0 width in
      let at : 0 * width + k ≡ k = omega arith in
      let here : from + 0 ≡ from = omega arith in
      rw (at, here) (get_or_append_left (map (f from) (range_with_len 0 width)) (rows (from + 1) n) d k (omega arith)
      ∙ get_or-map-range_with_len (f from) 0 width k k d within (omega arith))
  get_or-rows from (suc n) (suc r) k d low within =
      let m = length-map-range_with_len (f from) 0 width in
      let step : suc r * width ≡ r * width + width = omega arith in
      let at : suc r * width + k - width ≡ r * width + k = omega arith in
      let here : from + suc r ≡ from + 1 + r = omega arith in
      rw here (get_or-append_right (map (f from) (range_with_len 0 width)) (rows (from + 1) n) width (suc r * width + k) d m (omega arith)
      ∙ ap (λ (i : ℕ). get_or (rows (from + 1) n) i d) at
      ∙ get_or-rows (from + 1) n r k d (omega arith) within)

  within_rows : (n r k : ℕ) → r < n → k < width → r * width + k < n * width
  within_rows n r k low within =
      let up : suc r * width ≤ n * width = mul-le-mul_right width low in
      let one : suc r * width ≡ r * width + width = omega arith in
      omega arith

  pub slice_get-rows : (n r k : ℕ) → r < n → k < width → slice_get (rows 0 n) (r * width + k) ≡ Some (f r k)
  slice_get-rows n r k low within =
      let size = length-rows 0 n in
      let lt = within_rows n r k low within in
      let here : 0 + r ≡ r = omega arith in
      slice_get-get_or (rows 0 n) (r * width + k) (f r k) (omega arith) ∙ ap Some (get_or-rows 0 n r k (f r k) low within ∙ ap (λ (s : ℕ). f s k) here)

module _ (c : Cluster) (es : List Event) (ps : List Promotion) where
  -- how many there are of each
  pub nodes_fit : length (states_of c es ps).nodes ≡ length c.nodes
  nodes_fit = length-map-range_with_len (λ n. node_state c n es) 0 (length c.nodes)

  pub cells_fit : length (states_of c es ps).cells ≡ length c.leaves * length c.nodes
  cells_fit = length-rows (cell_at c es) (length c.nodes) 0 (length c.leaves)

  pub fail_stops_fit : length (states_of c es ps).fail_stop ≡ length c.leaves
  fail_stops_fit = length-map-range_with_len (λ r. is_fail_stopped c r es) 0 (length c.leaves)

  -- and what each says
  pub node_kept : (n : ℕ) → n < length c.nodes → slice_get (states_of c es ps).nodes n ≡ Some (node_state c n es)
  node_kept n lt = slice_get-range (λ n. node_state c n es) (length c.nodes) n lt

  pub cell_kept : (r n : ℕ) → r < length c.leaves → n < length c.nodes → slice_get (states_of c es ps).cells (r * length c.nodes + n) ≡ Some (cell_at c es r n)
  cell_kept r n low within = slice_get-rows (cell_at c es) (length c.nodes) (length c.leaves) r n low within

  pub fail_stop_kept : (r : ℕ) → r < length c.leaves → slice_get (states_of c es ps).fail_stop r ≡ Some (is_fail_stopped c r es)
  fail_stop_kept r lt = slice_get-range (λ r. is_fail_stopped c r es) (length c.leaves) r lt
