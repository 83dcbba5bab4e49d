-- What is built of an order more.
use Rattle.std.proofs.Common.{arith, ◌≡◌, ◌<◌, ◌≤◌, ◌+◌, ◌*◌, ◌++◌, ◌&&◌, if◌then◌else◌, ℕ, Bool, true, false, List, [], ◌∷◌, length, refl, sym, ap, subst, ◌∙◌}
use Rattle.std.proofs.lemmas.List.{append_assoc}
use Rattle.cluster_types.specs.declared.cluster.Cluster.{Cluster}
use Rattle.edges.specs.declared.edge.Edge.{Edge}
use Rattle.cluster_types.specs.declared.journal.Action.{Action}
use Rattle.cluster_types.specs.declared.rules.Order.{Order}
use Rattle.cluster_types.specs.Precedence.{is_serialize, is_giving}
use Rattle.planner.specs.declared.precedence.sides.Join.{Join}
use Rattle.planner.specs.Inner.Gates.{join_edges, key_at}
use Rattle.planner.specs.Inner.Index.{IsIndex, places_in}
use Rattle.planner.specs.Joins.{inverse_join, order_joins, own_join, takers_join, turned_join}
use Rattle.planner.specs.Inner.Places.{places_of, rule_places}
use Rattle.planner.specs.Inner.Rooms.{Builds, nodes_if, rows_of, width_of}
use Rattle.planner.proofs.BuildsMore.{builds_more}
use Rattle.planner.proofs.IndexPlaces.{index_is}

nodes_few : (c : Cluster) (b : Bool) → length c.nodes ≤ 256 → nodes_if c b ≤ 256
nodes_few c true few = few
nodes_few c false few = omega arith

pub own_small : (c : Cluster) (o : Order) → length c.nodes ≤ 256 → width_of c (own_join o).from * rows_of c (own_join o).from ≤ 256
own_small c o few = let h = nodes_few c o.local few in omega arith

pub inverse_small : (c : Cluster) (o : Order) → length c.nodes ≤ 256 → width_of c (inverse_join o).from * rows_of c (inverse_join o).from ≤ 256
inverse_small c o few = on (is_giving o.first_op && is_giving o.then_op)
  where
    on : (b : Bool) → width_of c (if b then takers_join o else turned_join o).from * rows_of c (if b then takers_join o else turned_join o).from ≤ 256
    on true = let h = nodes_few c o.local few in omega arith
    on false = let h = nodes_few c o.local few in omega arith

inverse_places : (actions : List Action) (o : Order) → places_of actions (inverse_join o) ≡ rule_places actions o.then_leaf o.first
inverse_places actions o = on (is_giving o.first_op && is_giving o.then_op)
  where
    on : (b : Bool) → places_of actions (if b then takers_join o else turned_join o) ≡ rule_places actions o.then_leaf o.first
    on true = refl
    on false = refl

module _ (c : Cluster) (actions : List Action) (index : List (List ℕ)) (o : Order) (is : IsIndex actions (length c.leaves) index)
    (first : o.first < length c.leaves) (then_leaf : o.then_leaf < length c.leaves) (kind : is_serialize o.kind ≡ false) where
  abbrev Built : List Edge → ℕ → List Join → Type 0
  Built list base js = Builds c actions (places_of actions) list base js

  abbrev back : List Join
  back = if o.symmetrical then inverse_join o ∷ [] else []

  joins_are : order_joins o ≡ own_join o ∷ back
  joins_are = ap (λ b. if b then [] else own_join o ∷ back) kind

  module _ (js : List Join) (list more : List Edge) (base on : ℕ) (own : Join) (own_is : own ≡ own_join o) (built : Built list base js)
      (edges : more ≡ list ++ join_edges base (width_of c own.from) (key_at c actions own.from) (key_at c actions own.to) (places_in index o.first o.then_leaf))
      (gates : on ≡ base + width_of c own.from * rows_of c own.from) where
    own_more : Built more on (js ++ own ∷ [])
    own_more =
        builds_more c actions (places_of actions) list base js own (places_in index o.first o.then_leaf) more on built
        (index_is actions (length c.leaves) index o.first o.then_leaf is first then_leaf ∙ ap (places_of actions) (sym own_is)) edges gates

    pub order_alone : o.symmetrical ≡ false → Built more on (js ++ order_joins o)
    order_alone h =
        let e : order_joins o ≡ own_join o ∷ [] = joins_are ∙ ap (λ b. own_join o ∷ (if b then inverse_join o ∷ [] else [])) h in
        subst (λ v. Built more on (js ++ v)) (ap (λ v. v ∷ []) own_is ∙ sym e) own_more

    pub order_both : o.symmetrical ≡ true → (inverse : Join) → inverse ≡ inverse_join o → (most : List Edge) (upto : ℕ)
        → most ≡ more ++ join_edges on (width_of c inverse.from) (key_at c actions inverse.from) (key_at c actions inverse.to) (places_in index o.then_leaf o.first)
        → upto ≡ on + width_of c inverse.from * rows_of c inverse.from → Built most upto (js ++ order_joins o)
    order_both h inverse inverse_is most upto f g =
        let e : order_joins o ≡ own_join o ∷ inverse_join o ∷ [] = joins_are ∙ ap (λ b. own_join o ∷ (if b then inverse_join o ∷ [] else [])) h in
        let k : own ∷ inverse ∷ [] ≡ own_join o ∷ inverse_join o ∷ [] = ap (λ v. v ∷ inverse ∷ []) own_is ∙ ap (λ v. own_join o ∷ v ∷ []) inverse_is in
        let places = index_is actions (length c.leaves) index o.then_leaf o.first is then_leaf first ∙ sym (ap (places_of actions) inverse_is ∙ inverse_places actions o) in
        let second = builds_more c actions (places_of actions) more on (js ++ own ∷ []) inverse (places_in index o.then_leaf o.first) most upto own_more
        places f g in
        subst (λ v. Built most upto (js ++ v)) (k ∙ sym e) (subst (λ v. Built most upto v) (append_assoc js (own ∷ []) (inverse ∷ [])) second)
