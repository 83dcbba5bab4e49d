-- What is built of one more join, and how many edges it is.
use Rattle.std.proofs.Common.{arith, ◌≡◌, ◌≤◌, ◌+◌, ◌*◌, ◌++◌, ℕ, List, [], ◌∷◌, Option, Some, None, length, refl, sym, ap, ◌∙◌, slice_index_or}
use Rattle.std.specs.List.{slice_get, sum_by, range_with_len}
use Rattle.std.specs.Option.{option_map_or}
use Rattle.std.proofs.lemmas.List.Concat.{length-flat_map}
use Rattle.std.proofs.lemmas.List.Sums.{sum_by-cons, sum_by-le}
use Rattle.std.proofs.lemmas.List.{append-nil, append_assoc, length-append}
use Rattle.std.proofs.lemmas.List.FromFn.{length-range_with_len}
use Rattle.cluster_types.specs.declared.cluster.Cluster.{Cluster}
use Rattle.edges.specs.declared.edge.Edge.{Edge}
use Rattle.cluster_types.specs.declared.journal.Action.{Action}
use Rattle.cluster_types.specs.Precedence.{LeafOnNode}
use Rattle.planner.specs.declared.precedence.sides.Join.{Join}
use Rattle.planner.specs.Inner.Gates.{edge_in, edge_out, gate_edges_at, edges_of_joins, gates_upto, join_edges, key_at}
use Rattle.planner.specs.Joins.{first_joins, side_key_of}
use Rattle.planner.specs.Inner.Joins.{one_if, stands}
use Rattle.planner.specs.Inner.Rooms.{Builds, rows_of, rows_of_join, width_of, width_of_join}

module _ (c : Cluster) (actions : List Action) (leaves width : Join → ℕ) (places : Join → List ℕ) where
  upto-append : (base : ℕ) (xs ys : List Join)
      → gates_upto c actions leaves width places base (xs ++ ys) ≡ gates_upto c actions leaves width places (gates_upto c actions leaves width places base xs) ys
  upto-append base [] ys = refl
  upto-append base (x ∷ xs) ys = upto-append (base + width x * leaves x) xs ys

  pub edges-append : (base : ℕ) (xs ys : List Join)
      → edges_of_joins c actions leaves width places base (xs ++ ys)
      ≡ edges_of_joins c actions leaves width places base xs ++ edges_of_joins c actions leaves width places (gates_upto c actions leaves width places base xs) ys
  edges-append base [] ys = refl
  edges-append base (x ∷ xs) ys =
      ap (λ v. join_edges base (width x) (key_at c actions x.from) (key_at c actions x.to) (places x) ++ v) (edges-append (base + width x * leaves x) xs ys)
      ∙ sym (append_assoc (join_edges base (width x) (key_at c actions x.from) (key_at c actions x.to) (places x))
      (edges_of_joins c actions leaves width places (base + width x * leaves x) xs)
      (edges_of_joins c actions leaves width places (gates_upto c actions leaves width places (base + width x * leaves x) xs) ys))

pub builds_more : (c : Cluster) (actions : List Action) (places : Join → List ℕ) (list : List Edge) (base : ℕ) (js : List Join) (j : Join) (ps : List ℕ) (more : List Edge) (on : ℕ)
    → Builds c actions places list base js → ps ≡ places j
    → more ≡ list ++ join_edges base (width_of c j.from) (key_at c actions j.from) (key_at c actions j.to) ps
    → on ≡ base + width_of c j.from * rows_of c j.from → Builds c actions places more on (js ++ j ∷ [])
builds_more c actions places list base js j ps more on b p e f = record {
  list_is =
      e ∙ (ap (λ v. list ++ join_edges base (width_of c j.from) (key_at c actions j.from) (key_at c actions j.to) v) p
      ∙ (ap (λ v. v ++ join_edges base (width_of c j.from) (key_at c actions j.from) (key_at c actions j.to) (places j)) b.list_is
      ∙ (ap (λ v. edges_of_joins c actions (rows_of_join c) (width_of_join c) places (length actions) js
      ++ join_edges v (width_of c j.from) (key_at c actions j.from) (key_at c actions j.to) (places j)) b.base_is
      ∙ (ap (λ v. edges_of_joins c actions (rows_of_join c) (width_of_join c) places (length actions) js ++ v)
      (sym (append-nil (join_edges (gates_upto c actions (rows_of_join c) (width_of_join c) places (length actions) js) (width_of c j.from) (key_at c actions j.from)
      (key_at c actions j.to) (places j))))
      ∙ sym (edges-append c actions (rows_of_join c) (width_of_join c) places (length actions) js (j ∷ []))))));
  base_is =
      f ∙ (ap (λ v. v + width_of c j.from * rows_of c j.from) b.base_is
      ∙ sym (upto-append c actions (rows_of_join c) (width_of_join c) places (length actions) js (j ∷ [])));
}

-- how many edges: one for each side on which an action stands
pub both_sums : {X : Type 0} (f g : X → ℕ) (xs : List X) → sum_by f xs + sum_by g xs ≡ sum_by (λ x. f x + g x) xs
both_sums f g [] = refl
both_sums f g (x ∷ xs) =
    let a = sum_by-cons f x xs in
    let b = sum_by-cons g x xs in
    let d = sum_by-cons (λ x. f x + g x) x xs in
    let e = both_sums f g xs in
    omega arith

no_sum : {X : Type 0} (xs : List X) → sum_by (λ x. 0) xs ≡ 0
no_sum [] = refl
no_sum (x ∷ xs) = let a = sum_by-cons (λ x. 0) x xs in let b = no_sum xs in omega arith

same_sum : {X : Type 0} (f g : X → ℕ) (same : (x : X) → f x ≡ g x) (xs : List X) → sum_by f xs ≡ sum_by g xs
same_sum f g same [] = refl
same_sum f g same (x ∷ xs) =
    let a = sum_by-cons f x xs in
    let b = sum_by-cons g x xs in
    let d = same x in
    let e = same_sum f g same xs in
    omega arith

module _ (c : Cluster) (actions : List Action) (leaves width : Join → ℕ) where
  abbrev places : Join → List ℕ
  places j = range_with_len 0 (length actions)

  -- on how many sides the action at a position stands
  abbrev stands_at : List Join → ℕ → ℕ
  stands_at js i = sum_by (λ (j : Join). one_if c actions (key_at c actions j.from i) + one_if c actions (key_at c actions j.to i)) js

  in_length : (base width i : ℕ) (u : Option LeafOnNode) → length (edge_in base width u i) ≡ one_if c actions u
  in_length base width i (Some a) = refl
  in_length base width i None = refl

  out_length : (base width i : ℕ) (u : Option LeafOnNode) → length (edge_out base width u i) ≡ one_if c actions u
  out_length base width i (Some a) = refl
  out_length base width i None = refl

  at_length : (base width : ℕ) (from to : ℕ → Option LeafOnNode) (i : ℕ) → length (gate_edges_at base width from to i) ≡ one_if c actions (from i) + one_if c actions (to i)
  at_length base width from to i =
      let a = in_length base width i (from i) in
      let b = out_length base width i (to i) in
      let l = length-append (edge_in base width (from i) i) (edge_out base width (to i) i) in
      omega arith

  edges_length : (base : ℕ) (js : List Join) → length (edges_of_joins c actions leaves width places base js) ≡ sum_by (stands_at js) (range_with_len 0 (length actions))
  edges_length base [] = sym (no_sum (range_with_len 0 (length actions)))
  edges_length base (j ∷ js) =
      let one = length-flat_map (gate_edges_at base (width j) (key_at c actions j.from) (key_at c actions j.to)) (range_with_len 0 (length actions)) in
      let same = same_sum (λ i. length (gate_edges_at base (width j) (key_at c actions j.from) (key_at c actions j.to) i))
      (λ i. one_if c actions (key_at c actions j.from i) + one_if c actions (key_at c actions j.to i))
      (at_length base (width j) (key_at c actions j.from) (key_at c actions j.to)) (range_with_len 0 (length actions)) in
      let rest = edges_length (base + width j * leaves j) js in
      let l = length-append (join_edges base (width j) (key_at c actions j.from) (key_at c actions j.to) (range_with_len 0 (length actions)))
      (edges_of_joins c actions leaves width places (base + width j * leaves j) js) in
      let both = both_sums (λ i. one_if c actions (key_at c actions j.from i) + one_if c actions (key_at c actions j.to i)) (stands_at js) (range_with_len 0 (length actions)) in
      let cons = same_sum (λ i. one_if c actions (key_at c actions j.from i) + one_if c actions (key_at c actions j.to i) + stands_at js i) (stands_at (j ∷ js))
      (λ i. sym (sum_by-cons (λ (j : Join). one_if c actions (key_at c actions j.from i) + one_if c actions (key_at c actions j.to i)) j js)) (range_with_len 0 (length actions)) in
      omega arith

  -- an action stands on five sides at most of those that hang on no rule
  few_at : ((x : Action) → stands c actions first_joins x ≤ 5) → (i : ℕ) → stands_at first_joins i ≤ 5
  few_at few i = on (slice_get actions i) refl
    where
      on : (v : Option Action) → slice_get actions i ≡ v → stands_at first_joins i ≤ 5
      on (Some a) h =
          let same : stands_at first_joins i ≡ stands c actions first_joins a =
          ap (λ v. sum_by (λ (j : Join). one_if c actions (option_map_or (side_key_of c actions j.from) v None) + one_if c actions (option_map_or (side_key_of c actions j.to) v None)) first_joins) h in
          let f = few a in
          omega arith
      on None h =
          let same : stands_at first_joins i ≡ 0 =
          ap (λ v. sum_by (λ (j : Join). one_if c actions (option_map_or (side_key_of c actions j.from) v None) + one_if c actions (option_map_or (side_key_of c actions j.to) v None)) first_joins) h in
          omega arith

  pub few_edges : ((x : Action) → stands c actions first_joins x ≤ 5) → (base : ℕ) → length (edges_of_joins c actions leaves width places base first_joins) ≤ 5 * length actions
  few_edges few base =
      let size = edges_length base first_joins in
      let most = sum_by-le (stands_at first_joins) 5 (range_with_len 0 (length actions)) (λ k d l. few_at few (slice_index_or (range_with_len 0 (length actions)) k d)) in
      let long = length-range_with_len 0 (length actions) in
      omega arith
