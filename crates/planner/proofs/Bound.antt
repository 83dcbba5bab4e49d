-- How many edges all joins of a cluster have, and how many a chain has.
use Rattle.std.proofs.Common.{arith, ◌≡◌, ◌≤◌, ◌+◌, ◌*◌, ◌&&◌, if◌then◌else◌, ℕ, Bool, true, false, cond, List, [], ◌∷◌, ◌++◌, Option, Some, None, length, count_by, refl, ap, ◌∙◌}
use Rattle.std.specs.List.{flat_map, sum_by}
use Rattle.std.proofs.lemmas.List.{length-append}
use Rattle.std.proofs.lemmas.List.Concat.{flat_map-cons}
use Rattle.std.proofs.lemmas.List.Sums.{sum_by-cons}
use Rattle.cluster_types.specs.declared.cluster.Cluster.{Cluster}
use Rattle.edges.specs.declared.edge.Edge.{Edge}
use Rattle.cluster_types.specs.declared.journal.Action.{Action}
use Rattle.cluster_types.specs.declared.rules.Colocation.{Colocation}
use Rattle.cluster_types.specs.declared.rules.Order.{Order}
use Rattle.cluster_types.specs.Choice.{is_separation}
use Rattle.cluster_types.specs.Plans.{is_of_either}
use Rattle.cluster_types.specs.Precedence.{LeafOnNode, inverse, is_serialize, is_giving}
use Rattle.planner.specs.declared.precedence.sides.Join.{Join}
use Rattle.planner.specs.declared.precedence.sides.Side.TheVariants as side
use Rattle.planner.specs.Inner.Gates.{chain_edges, chain_step, edge, edge_in, edge_out, gate_edges_at, edges_of_joins, gates_upto, join_edges, key_at, next_gate, then_step}
use Rattle.planner.specs.Joins.{colocation_joins, first_joins, inverse_join, join, joins_of, order_joins, own_join}
use Rattle.planner.specs.Inner.Joins.{stands}
use Rattle.planner.specs.Inner.Places.{places_of}
use Rattle.planner.specs.Inner.Rooms.{rows_of_join, width_of_join}
use Rattle.planner.proofs.BuildsMore.{edges-append, few_edges}
use Rattle.planner.proofs.Counts.{rule_few, rule_few_swapped}

in_one : (base width i : ℕ) (u : Option LeafOnNode) → length (edge_in base width u i) ≤ 1
in_one base width i (Some a) = omega arith
in_one base width i None = omega arith

out_one : (base width i : ℕ) (u : Option LeafOnNode) → length (edge_out base width u i) ≤ 1
out_one base width i (Some a) = omega arith
out_one base width i None = omega arith

-- a join has two edges a position at most
pub join_few : (base width : ℕ) (from to : ℕ → Option LeafOnNode) (places : List ℕ) → length (join_edges base width from to places) ≤ 2 * length places
join_few base width from to [] = omega arith
join_few base width from to (i ∷ is) =
    let e = ap length (flat_map-cons (gate_edges_at base width from to) i is) in
    let l = length-append (gate_edges_at base width from to i) (flat_map (gate_edges_at base width from to) is) in
    let m = length-append (edge_in base width (from i) i) (edge_out base width (to i) i) in
    let a = in_one base width i (from i) in
    let b = out_one base width i (to i) in
    let rest = join_few base width from to is in
    omega arith

-- how many edges the joins of an order have at most
abbrev pub most_other : List Action → Order → ℕ
most_other actions o = if is_serialize o.kind then 0 else 4 * count_by (is_of_either o.first o.then_leaf) actions

module _ (c : Cluster) (actions : List Action) where
  abbrev edges_by : ℕ → List Join → List Edge
  edges_by base js = edges_of_joins c actions (rows_of_join c) (width_of_join c) (places_of actions) base js

  one_few : (base : ℕ) (j : Join) (js : List Join) → length (edges_by base (j ∷ js)) ≤ 2 * length (places_of actions j) + length (edges_by (base + width_of_join c j * rows_of_join c j) js)
  one_few base j js =
      let one = join_few base (width_of_join c j) (key_at c actions j.from) (key_at c actions j.to) (places_of actions j) in
      let l = length-append (join_edges base (width_of_join c j) (key_at c actions j.from) (key_at c actions j.to) (places_of actions j))
      (edges_by (base + width_of_join c j * rows_of_join c j) js) in
      omega arith

  -- a separation has four edges at most for each action of its leaves
  colocation_few : (base : ℕ) (col : Colocation) → length (edges_by base (colocation_joins col)) ≤ 4 * count_by (is_of_either col.dependent col.primary) actions
  colocation_few base col = on (is_separation col)
    where
      on : (b : Bool) → length (edges_by base (if b then join (side.Parts col.dependent col.dependent_role) (side.GivesRole col.primary col.primary_role)
          ∷ join (side.Parts col.primary col.primary_role) (side.GivesRole col.dependent col.dependent_role) ∷ [] else []))
          ≤ 4 * count_by (is_of_either col.dependent col.primary) actions
      on true =
          let j = join (side.Parts col.dependent col.dependent_role) (side.GivesRole col.primary col.primary_role) in
          let k = join (side.Parts col.primary col.primary_role) (side.GivesRole col.dependent col.dependent_role) in
          let one = one_few base j (k ∷ []) in
          let other = one_few (base + width_of_join c j * rows_of_join c j) k [] in
          let a = rule_few actions col.dependent col.primary in
          let b = rule_few_swapped actions col.dependent col.primary in
          omega arith
      on false = omega arith

  inverse_few : (base : ℕ) (o : Order) → length (edges_by base (inverse_join o ∷ [])) ≤ 2 * count_by (is_of_either o.first o.then_leaf) actions
  inverse_few base o = on (is_giving o.first_op && is_giving o.then_op)
    where
      on : (b : Bool) → length (edges_by base ((if b then join (side.EarlierTakers o.then_leaf o.then_op o.local) (side.LaterTakers o.first o.first_op o.local)
          else join (side.Earlier o.then_leaf (inverse o.then_op) o.local) (side.Later o.first (inverse o.first_op) o.local)) ∷ []))
          ≤ 2 * count_by (is_of_either o.first o.then_leaf) actions
      on true =
          let one = one_few base (join (side.EarlierTakers o.then_leaf o.then_op o.local) (side.LaterTakers o.first o.first_op o.local)) [] in
          let b = rule_few_swapped actions o.first o.then_leaf in
          omega arith
      on false =
          let one = one_few base (join (side.Earlier o.then_leaf (inverse o.then_op) o.local) (side.Later o.first (inverse o.first_op) o.local)) [] in
          let b = rule_few_swapped actions o.first o.then_leaf in
          omega arith

  -- so has an order that isn't Serialize
  order_few : (base : ℕ) (o : Order) → length (edges_by base (order_joins o)) ≤ 4 * count_by (is_of_either o.first o.then_leaf) actions
  order_few base o = on (is_serialize o.kind) o.symmetrical
    where
      on : (b d : Bool) → length (edges_by base (if b then [] else join (side.Earlier o.first o.first_op o.local) (side.Later o.then_leaf o.then_op o.local)
          ∷ (if d then inverse_join o ∷ [] else []))) ≤ 4 * count_by (is_of_either o.first o.then_leaf) actions
      on true d = omega arith
      on false true =
          let j = join (side.Earlier o.first o.first_op o.local) (side.Later o.then_leaf o.then_op o.local) in
          let one = one_few base j (inverse_join o ∷ []) in
          let other = inverse_few (base + width_of_join c j * rows_of_join c j) o in
          let a = rule_few actions o.first o.then_leaf in
          omega arith
      on false false =
          let j = join (side.Earlier o.first o.first_op o.local) (side.Later o.then_leaf o.then_op o.local) in
          let one = one_few base j [] in
          let a = rule_few actions o.first o.then_leaf in
          omega arith

  -- over all rules of a kind
  rules_few : {X : Type 0} (joins : X → List Join) (most : X → ℕ) → ((base : ℕ) (x : X) → length (edges_by base (joins x)) ≤ most x) → (base : ℕ) (xs : List X)
      → length (edges_by base (flat_map joins xs)) ≤ sum_by most xs
  rules_few joins most few base [] = omega arith
  rules_few joins most few base (x ∷ xs) =
      let e : edges_by base (flat_map joins (x ∷ xs)) ≡ edges_by base (joins x ++ flat_map joins xs) = ap (edges_by base) (flat_map-cons joins x xs) in
      let f = edges-append c actions (rows_of_join c) (width_of_join c) (places_of actions) base (joins x) (flat_map joins xs) in
      let g = ap length (e ∙ f) in
      let l = length-append (edges_by base (joins x)) (edges_by (gates_upto c actions (rows_of_join c) (width_of_join c) (places_of actions) base (joins x)) (flat_map joins xs)) in
      let a = few base x in
      let rest = rules_few joins most few (gates_upto c actions (rows_of_join c) (width_of_join c) (places_of actions) base (joins x)) xs in
      let s = sum_by-cons most x xs in
      omega arith

  -- one of the kind Serialize has no join
  other_few : (base : ℕ) (o : Order) → length (edges_by base (order_joins o)) ≤ most_other actions o
  other_few base o = on (is_serialize o.kind) refl
    where
      on : (b : Bool) → is_serialize o.kind ≡ b → length (edges_by base (order_joins o)) ≤ most_other actions o
      on true e =
          let none : order_joins o ≡ [] =
          ap (λ b. if b then [] else own_join o ∷ (if o.symmetrical then inverse_join o ∷ [] else [])) e in
          let l = ap (λ js. length (edges_by base js)) none in
          omega arith
      on false e =
          let most : most_other actions o ≡ 4 * count_by (is_of_either o.first o.then_leaf) actions =
          ap (λ b. if b then 0 else 4 * count_by (is_of_either o.first o.then_leaf) actions) e in
          let l = order_few base o in
          omega arith

  pub joins_few_apart : ((x : Action) → stands c actions first_joins x ≤ 5) → (base : ℕ)
      → length (edges_by base (joins_of c)) ≤ 5 * length actions
      + sum_by (λ (col : Colocation). 4 * count_by (is_of_either col.dependent col.primary) actions) c.colocations
      + sum_by (most_other actions) c.orders
  joins_few_apart few base =
      let first : length (edges_by base first_joins) ≤ 5 * length actions = few_edges c actions (rows_of_join c) (width_of_join c) few base in
      let mid = gates_upto c actions (rows_of_join c) (width_of_join c) (places_of actions) base first_joins in
      let e = edges-append c actions (rows_of_join c) (width_of_join c) (places_of actions) base first_joins (flat_map colocation_joins c.colocations ++ flat_map order_joins c.orders) in
      let f = edges-append c actions (rows_of_join c) (width_of_join c) (places_of actions) mid (flat_map colocation_joins c.colocations) (flat_map order_joins c.orders) in
      let g = ap length e in
      let h = ap length f in
      let on = gates_upto c actions (rows_of_join c) (width_of_join c) (places_of actions) mid (flat_map colocation_joins c.colocations) in
      let l = length-append (edges_by base first_joins) (edges_by mid (flat_map colocation_joins c.colocations ++ flat_map order_joins c.orders)) in
      let m = length-append (edges_by mid (flat_map colocation_joins c.colocations)) (edges_by on (flat_map order_joins c.orders)) in
      let a = rules_few colocation_joins (λ (col : Colocation). 4 * count_by (is_of_either col.dependent col.primary) actions) colocation_few mid c.colocations in
      let b = rules_few order_joins (most_other actions) other_few on c.orders in
      omega arith

-- a chain has two edges for each of its first kind and one for each of its other kind
module _ (is_first is_then : ℕ → Bool) where
  abbrev pub weight : ℕ → ℕ
  weight i = cond (is_first i) 2 0 + cond (is_then i) 1 0

  then_length : (gate i : ℕ) (b : Bool) → length (if b then edge gate i ∷ [] else []) ≡ cond b 1 0
  then_length gate i true = refl
  then_length gate i false = refl

  first_length : (gate i : ℕ) (b : Bool) → length (if b then edge i (gate + 1) ∷ edge gate (gate + 1) ∷ [] else []) ≡ cond b 2 0
  first_length gate i true = refl
  first_length gate i false = refl

  pub chain_few : (gate : ℕ) (places : List ℕ) → length (chain_edges is_first is_then gate places) ≡ sum_by weight places
  chain_few gate [] = refl
  chain_few gate (i ∷ is) =
      let a = then_length gate i (is_then i) in
      let b = first_length gate i (is_first i) in
      let l = length-append (then_step is_first is_then gate i) (chain_step is_first is_then gate i) in
      let m = length-append (then_step is_first is_then gate i ++ chain_step is_first is_then gate i) (chain_edges is_first is_then (next_gate is_first is_then gate i) is) in
      let rest = chain_few (next_gate is_first is_then gate i) is in
      let s = sum_by-cons weight i is in
      omega arith
