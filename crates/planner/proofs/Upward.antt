-- The edges of needed actions lead to those of higher numbers, and upward where the actions are numbered.
use Rattle.std.proofs.Common.{arith, ◌≡◌, ◌<◌, ◌==◌, ◌↔◌, nat_lt, ℕ, Bool, true, false, List, Some, length, get_or, Contains, refl, sym, subst}
use Rattle.std.specs.List.{slice_get}
use Rattle.std.proofs.lemmas.Bool.{eqb-true}
use Rattle.std.proofs.lemmas.Option.{get_or_from_slice_get, slice_get-get_or}
use Rattle.cluster_types.specs.declared.cluster.Cluster.{Cluster}
use Rattle.cluster_types.specs.declared.graph_edges.Edges.{Edges}
use Rattle.cluster_types.specs.declared.journal.Action.{Action}
use Rattle.cluster_types.specs.declared.journal.Action.TheVariants.{Fence}
use Rattle.cluster_types.specs.declared.journal.Event.{Event}
use Rattle.cluster_types.specs.declared.leaf.Role.TheVariants as role
use Rattle.cluster_types.specs.Fields.{is_promotable}
use Rattle.cluster_types.specs.Graphs.{IsGraph, LeadsByGates}
use Rattle.cluster_types.specs.NeededActions.{Needed}
use Rattle.cluster_types.specs.Numbers.{AreNumbered, is_earlier, action_place}
use Rattle.cluster_types.specs.Tables.{Targets, holds_role}
use Rattle.cluster_types.specs.Valid.{IsValid}
use Rattle.cluster_types.proofs.NumberLaws.{not_both}
use Rattle.plan_laws.proofs.Upward.{pairs_upward}
use Rattle.planner.specs.PrecedenceEdges.{AreEdges, graph_by}

module _ (c : Cluster) (es : List Event) (targets : Targets) (actions : List Action) (edges : Edges) (valid : IsValid c)
    (roles : (r n : ℕ) → r < length c.leaves → n < length c.nodes → holds_role targets r role.Promoted n ≡ true → is_promotable c r ≡ true) where
  pub leads_higher : ((a : Action) → Contains actions a ↔ Needed c es targets a) → AreEdges c actions (is_earlier c actions) edges
      → (x y : ℕ) (a b : Action) → x < length actions → y < length actions → slice_get actions x ≡ Some a → slice_get actions y ≡ Some b
      → LeadsByGates (length actions) edges.list x y → is_earlier c actions a b ≡ true
  leads_higher needed are x y a b l m h k way =
      pairs_upward c es targets actions valid roles needed a b (x, l, get_or_from_slice_get actions x a a h) (y, m, get_or_from_slice_get actions y b b k) ((are.leads x y a b l m h k).0 way)

  abbrev at : ℕ → Action
  at x = get_or actions x (Fence 0)

  leads_upward : AreNumbered c (Needed c es targets) actions → AreEdges c actions (is_earlier c actions) edges
      → (x y : ℕ) → x < length actions → y < length actions → LeadsByGates (length actions) edges.list x y → x < y
  leads_upward numbered are x y l m way =
      by_tests (nat_lt x y) (x == y) refl refl
      (leads_higher numbered.needed are x y (at x) (at y) l m (slice_get-get_or actions x (Fence 0) l) (slice_get-get_or actions y (Fence 0) m) way)
    where
      by_tests : (less same : Bool) → nat_lt x y ≡ less → (x == y) ≡ same → is_earlier c actions (at x) (at y) ≡ true → x < y
      by_tests true same e f h = grind arith
      by_tests false true e f h =
          let itself : is_earlier c actions (at x) (at x) ≡ true = subst (λ v. is_earlier c actions (at x) (at v) ≡ true) (sym (eqb-true x y f)) h in
          absurd (not_both (action_place c actions (at x)) (action_place c actions (at x)) itself itself)
      by_tests false false e f h =
          let less : y < x = grind arith in
          absurd (not_both (action_place c actions (at x)) (action_place c actions (at y)) h (numbered.in_order y x (Fence 0) less l))

  pub is_graph : AreNumbered c (Needed c es targets) actions → AreEdges c actions (is_earlier c actions) edges → IsGraph (graph_by actions edges)
  is_graph numbered are = record {
    positions = are.positions;
    within = are.within;
    gates_upward = are.upward;
    actions_upward = leads_upward numbered are;
  }
