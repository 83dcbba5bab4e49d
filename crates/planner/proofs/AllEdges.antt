-- All joins and all chains together.
use Rattle.std.proofs.Common.{arith, ◌≡◌, ◌<◌, ◌≤◌, ◌+◌, ◌*◌, ◌++◌, ◌↔◌, if◌then◌else◌, ℕ, Bool, true, false, List, [], ◌∷◌, Some, length, count_by, Contains, refl, sym, ap, subst, ◌∙◌}
use Rattle.std.specs.List.{list_any, slice_get, sum_by}
use Rattle.std.proofs.lemmas.List.{length-append}
use Rattle.std.proofs.lemmas.List.Sums.{sum_by-cons}
use Rattle.cluster_types.specs.declared.cluster.Cluster.{Cluster}
use Rattle.edges.specs.declared.edge.Edge.{Edge}
use Rattle.cluster_types.specs.declared.graph_edges.Edges.{Edges}
use Rattle.cluster_types.specs.declared.journal.Action.{Action}
use Rattle.cluster_types.specs.declared.rules.Order.{Order}
use Rattle.cluster_types.specs.Numbers.{is_earlier}
use Rattle.cluster_types.specs.Plans.{first_gates, is_of_either, most_edges, most_positions}
use Rattle.cluster_types.specs.Graphs.{LeadsByGates}
use Rattle.cluster_types.specs.Precedence.{is_serialize, is_serialized, must_precede}
use Rattle.planner.specs.declared.precedence.sides.Join.{Join}
use Rattle.planner.specs.Inner.Chains.{serialized_at, serialized_of}
use Rattle.planner.specs.Inner.Gates.{edges_of_joins}
use Rattle.planner.specs.Inner.Groups.{AddsGroup}
use Rattle.planner.specs.Joins.{joins_of}
use Rattle.planner.specs.Inner.Places.{places_of}
use Rattle.planner.specs.PrecedenceEdges.{AreEdges}
use Rattle.planner.specs.Inner.Rooms.{Builds, rows_of_join, width_of_join}
use Rattle.planner.specs.ActionNames.{IsActionWithin}
use Rattle.planner.specs.Inner.Serials.{most_serial, serial_room}
use Rattle.planner.proofs.AllJoins.{JoinFits, leads_precede, whole_group}
use Rattle.planner.proofs.Bound.{joins_few_apart, most_other}
use Rattle.planner.proofs.EvenJoins.{each_even}
use Rattle.planner.proofs.FewEach.{few}
use Rattle.planner.proofs.JoinFits.{join_fits}
use Rattle.planner.proofs.JoinsLead.{all_joins}
use Rattle.planner.proofs.Tests.{any_same}

-- each order is of the one kind or not
module _ (actions : List Action) where
  one_kind : (n : ℕ) (b : Bool) → (if b then 0 else n) + (if b then n else 0) ≡ n
  one_kind n true = omega arith
  one_kind n false = omega arith

  kinds : (orders : List Order) → sum_by (most_other actions) orders + sum_by (most_serial actions) orders
      ≡ sum_by (λ (o : Order). 4 * count_by (is_of_either o.first o.then_leaf) actions) orders
  kinds [] = refl
  kinds (o ∷ os) =
      let a = sum_by-cons (most_other actions) o os in
      let b = sum_by-cons (most_serial actions) o os in
      let d = sum_by-cons (λ (o : Order). 4 * count_by (is_of_either o.first o.then_leaf) actions) o os in
      let e = one_kind (4 * count_by (is_of_either o.first o.then_leaf) actions) (is_serialize o.kind) in
      let f = kinds os in
      omega arith

  -- the gates of all orders have numbers of 32 bits where the edges are few
  rooms : (orders : List Order) → 2 * sum_by (serial_room actions) orders ≤ sum_by (λ (o : Order). 4 * count_by (is_of_either o.first o.then_leaf) actions) orders
      + 1024 * length orders
  rooms [] = omega arith
  rooms (o ∷ os) =
      let a = sum_by-cons (serial_room actions) o os in
      let d = sum_by-cons (λ (o : Order). 4 * count_by (is_of_either o.first o.then_leaf) actions) o os in
      let f = rooms os in
      omega arith

  pub room_for_all : (c : Cluster) (base : ℕ) → length c.colocations + length c.orders ≤ 2000 → length c.leaves ≤ 1000 → length c.nodes * length c.leaves ≤ 256000
      → most_edges c actions ≤ 2000000000 → base ≤ length actions + first_gates c + 512 * length c.colocations + 512 * length c.orders → base + sum_by (serial_room actions) c.orders < 4294967296
  room_for_all c base rules leaves cells most below = let r = rooms c.orders in omega arith

  pub few_positions : (c : Cluster) (base upto : ℕ)
      → base ≤ length actions + first_gates c + 512 * length c.colocations + 512 * length c.orders → upto ≤ base + sum_by (serial_room actions) c.orders
      → upto ≤ most_positions c actions
  few_positions c base upto below room = let r = rooms c.orders in omega arith

  pub few_actions : (c : Cluster) → most_edges c actions ≤ 2000000000 → length actions ≤ 2000000000
  few_actions c most = omega arith

module _ (c : Cluster) (actions : List Action) (inside : (a : Action) → Contains actions a → IsActionWithin c a) where
  abbrev Chained : ℕ → ℕ → Type 0
  Chained x y = list_any (serialized_at actions (is_earlier c actions) x y) c.orders ≡ true

  chained_is : (x y : ℕ) (a b : Action) → slice_get actions x ≡ Some a → slice_get actions y ≡ Some b
      → Chained x y ↔ (list_any (λ (o : Order). is_serialized (is_earlier c actions) o a b) c.orders ≡ true)
  chained_is x y a b h k =
      let same = any_same (serialized_at actions (is_earlier c actions) x y) (λ (o : Order). is_serialized (is_earlier c actions) o a b)
      (λ o. ap (λ v. serialized_of actions (is_earlier c actions) o v (slice_get actions y)) h ∙ ap (λ v. serialized_of actions (is_earlier c actions) o (Some a) v) k) c.orders in
      (λ d. sym same ∙ d, λ d. same ∙ d)

  fits : (j : Join) → Contains (joins_of c) j → JoinFits c actions (rows_of_join c) (width_of_join c) (places_of actions) j
  fits j h = join_fits c actions inside j (each_even c j h)

  pub base_enough : (list : List Edge) (base : ℕ) → Builds c actions (places_of actions) list base (joins_of c) → length actions ≤ base
  base_enough list base builds = let o = (all_joins c actions inside).ordered in let e = builds.base_is in omega arith

  pub whole : (list all : List Edge) (base upto : ℕ) → Builds c actions (places_of actions) list base (joins_of c)
      → AddsGroup (length actions) list all base upto (sum_by (most_serial actions) c.orders) Chained
      → upto ≤ most_positions c actions
      → (edges : Edges) → edges.list ≡ all → edges.positions ≡ upto → AreEdges c actions (is_earlier c actions) edges
  whole list all base upto builds adds few_gates edges list_is positions_is =
      let e = list_is ∙ (adds.list_is ∙ ap (λ v. v ++ adds.more) builds.list_is) in
      let group = whole_group c actions (rows_of_join c) (width_of_join c) (places_of actions) (is_earlier c actions) (length actions) base upto adds.more (omega arith) fits
      builds.base_is Chained chained_is adds.group in
      record {
        leads = λ x y a b l m h k.
            subst (λ v. LeadsByGates (length actions) v x y ↔ (must_precede c actions (is_earlier c actions) a b ≡ true)) (sym e)
            (leads_precede c actions (rows_of_join c) (width_of_join c) (places_of actions) (is_earlier c actions) (length actions) base upto adds.more (omega arith) fits
            builds.base_is Chained chained_is adds.group x y a b l m h k);
        positions = let o = group.ordered in omega arith;
        within = λ x h. subst (λ n. (x.before < n) × (x.after < n)) (sym positions_is) (group.below x (subst (λ v. Contains v x) e h));
        upward = λ x h. group.upward x (subst (λ v. Contains v x) e h);
        few = record {
          list =
              let joins = joins_few_apart c actions (few c actions) (length actions) in
              let chains = adds.few in
              let l = length-append (edges_of_joins c actions (rows_of_join c) (width_of_join c) (places_of actions) (length actions) (joins_of c)) adds.more in
              let long = ap length e in
              let k = kinds actions c.orders in
              omega arith;
          positions = subst (λ n. n ≤ most_positions c actions) (sym positions_is) few_gates;
        };
      }
