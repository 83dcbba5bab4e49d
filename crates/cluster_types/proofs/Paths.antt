-- Paths through gates, computed.
use Rattle.std.proofs.Common.{arith, length, ◌≡◌, ◌≢◌, ◌<◌, ◌≤◌, ◌==◌, ◌&&◌, ◌||◌, nat_le, ℕ, suc, zero, ◌+◌, ◌-◌, Bool, true, false, List, [], ◌∷◌, refl, ◌∙◌, Contains, Any}
use Rattle.std.specs.List.{list_any, range_with_len}
use Rattle.std.proofs.lemmas.List.Folds.{Any-from_list_any, list_any_at, list_any_more}
use Rattle.std.proofs.lemmas.Bool.{and_from}
use Rattle.std.proofs.lemmas.Bool.Decides.{nat_tests}
use Rattle.lemmas.proofs.Booleans.{either, later, same_test, sooner}
use Rattle.lemmas.proofs.Members.{at_head, in_filter, in_range, in_rest, of_filter}
use Rattle.lemmas.proofs.Searches.{passes_by}
use Rattle.edges.specs.declared.edge.Edge.{Edge}
use Rattle.edges.specs.Chains.{leads_through, linked}
use Rattle.edges.specs.Loops.{EndsWithin, IsEdge, is_edge}
use Rattle.edges.proofs.ThroughOthers.{chain_is_led, chain_of_led, edge_tested}
use Rattle.edges.specs.Chains.{link_then, linked, one_link}
use Rattle.cluster_types.specs.Graphs.{GraphOf, IsGraph, IsBefore, is_before, is_action_number, LeadUpward, LeadsByGates, gates}
use Rattle.cluster_types.specs.Inner.Walks.{leads_by, leads_by_gates_within}

pub leads_by_one : (most actions : ℕ) (edges : List Edge) (x y : ℕ) → most ≢ 0
    → leads_by_gates_within most actions edges x y ≡ list_any (leads_by (most - 1) actions edges x y) edges
leads_by_one zero actions edges x y h = elim (h refl) [ ]
leads_by_one (suc most) actions edges x y h = let e : suc most - 1 ≡ most = omega arith in rw e refl

pub ruleset paths = (leads_by_one, list_any_at, list_any_more)

-- What is computed leads somewhere, and what leads somewhere is computed.

straight : (actions : ℕ) (edges : List Edge) (x y : ℕ) (e : Edge) → Contains edges e → e.before ≡ x → e.after ≡ y → LeadsByGates actions edges x y
straight actions edges x y e c s t = rw (← s) (rw (← t) (one_link _ _ (linked e c)))

around : (actions : ℕ) (edges : List Edge) (x y : ℕ) (e : Edge) → Contains edges e → e.before ≡ x → nat_le actions e.after ≡ true
    → LeadsByGates actions edges e.after y → LeadsByGates actions edges x y
around actions edges x y e c s gate rest = rw (← s) (link_then _ _ y (linked e c) (grind arith) rest)

of_end : (most actions : ℕ) (edges : List Edge) (x y : ℕ) (e : Edge) → Contains edges e → e.before ≡ x
    → (leads_by_gates_within most actions edges e.after y ≡ true → LeadsByGates actions edges e.after y)
    → (there : Bool) → (e.after == y) ≡ there → there || nat_le actions e.after && leads_by_gates_within most actions edges e.after y ≡ true
    → LeadsByGates actions edges x y
of_end most actions edges x y e c s next true t h = straight actions edges x y e c s (grind arith)
of_end most actions edges x y e c s next false t h = around actions edges x y e c s (sooner _ _ h) (next (later _ _ h))

of_edge : (most actions : ℕ) (edges : List Edge) (x y : ℕ) (e : Edge) → Contains edges e
    → (leads_by_gates_within most actions edges e.after y ≡ true → LeadsByGates actions edges e.after y)
    → leads_by most actions edges x y e ≡ true → LeadsByGates actions edges x y
of_edge most actions edges x y e c next h =
    let same : (e.before == x) ≡ true = sooner _ _ h in
    of_end most actions edges x y e c (grind arith) next (e.after == y) refl (later _ _ h)

of_any : (most actions : ℕ) (edges : List Edge) (x y : ℕ) → ((x : ℕ) → leads_by_gates_within most actions edges x y ≡ true → LeadsByGates actions edges x y)
    → Any (λ e. leads_by most actions edges x y e ≡ true) edges → LeadsByGates actions edges x y
of_any most actions edges x y next (k, e, lt, at, h) = of_edge most actions edges x y e (k, lt, at) (next e.after) h

pub leads-from_computed : (most actions : ℕ) (edges : List Edge) (x y : ℕ) → leads_by_gates_within most actions edges x y ≡ true → LeadsByGates actions edges x y
leads-from_computed zero actions edges x y h = cc
leads-from_computed (suc most) actions edges x y h =
    of_any most actions edges x y (λ x'. leads-from_computed most actions edges x' y) (Any-from_list_any (leads_by most actions edges x y) edges h)

by_last : (a b c d : Bool) → a ≡ true → c ≡ true → d ≡ true → a && (b || c && d) ≡ true
by_last a true c d h g f = and_from a true h refl
by_last a false c d h g f = and_from a (c && d) h (and_from c d g f)

pub leads-computed : (positions most actions : ℕ) (edges : List Edge) (x y : ℕ) → EndsWithin positions edges → LeadUpward actions edges
    → positions ≤ most + x → LeadsByGates actions edges x y → leads_by_gates_within most actions edges x y ≡ true
leads-computed positions zero actions edges _ _ ends upward h (one_link _ _ (linked e c)) = let w = ends e c in absurd (let f : ⊥ = omega arith in f)
leads-computed positions (suc most) actions edges _ _ ends upward h (one_link _ _ (linked e c)) =
    passes_by (leads_by most actions edges e.before e.after) edges e c (grind arith)
leads-computed positions zero actions edges _ _ ends upward h (link_then _ _ y (linked e c) gate rest) = let w = ends e c in absurd (let f : ⊥ = omega arith in f)
leads-computed positions (suc most) actions edges _ _ ends upward h (link_then _ _ y (linked e c) gate rest) =
    let up : e.before < e.after = upward e c gate in
    let led : leads_by_gates_within most actions edges e.after y ≡ true = leads-computed positions most actions edges e.after y ends upward (omega arith) rest in
    passes_by (leads_by most actions edges e.before y) edges e c (by_last _ _ _ _ (grind arith) (grind arith) led)

-- through gates alone, computed

gate_behind : (g : GraphOf) (via : ℕ) → Contains (gates g) via → length g.actions ≤ via
gate_behind g via h =
    let k = of_filter (λ x. nat_le (length g.actions) x) (range_with_len 0 g.edges.positions) via h in
    let p = k.passes in
    grind (arith, nat_tests, p)

gate_there : (g : GraphOf) → IsGraph g → (x via : ℕ) → IsEdge g.edges.list x via → length g.actions ≤ via → Contains (gates g) via
gate_there g graph _ _ (linked e h) gate =
    let w = (graph.within e h).1 in
    in_filter (λ x. nat_le (length g.actions) x) (range_with_len 0 g.edges.positions) e.after
    (in_range 0 g.edges.positions e.after (omega arith) (omega arith)) (grind (arith, nat_tests))

-- what the test finds, and what edges lead to
gates_led : (g : GraphOf) (x y : ℕ) → leads_through (is_edge g.edges.list) (gates g) x y ≡ true → LeadsByGates (length g.actions) g.edges.list x y
gates_led g x y h =
    chain_of_led (is_edge g.edges.list) (IsEdge g.edges.list) (edge_tested g.edges.list) (λ via. length g.actions ≤ via) (gates g) (gate_behind g) x y h

led_by_gates : (g : GraphOf) → IsGraph g → (x y : ℕ) → LeadsByGates (length g.actions) g.edges.list x y → leads_through (is_edge g.edges.list) (gates g) x y ≡ true
led_by_gates g graph x y chain =
    chain_is_led (is_edge g.edges.list) (IsEdge g.edges.list) (edge_tested g.edges.list) (λ via. length g.actions ≤ via) (gates g)
    (λ x via y l m at. gate_there g graph x via l at) x y chain

pub before-from_computed : (g : GraphOf) (x y : ℕ) → is_before g x y ≡ true → IsBefore g x y
before-from_computed g x y h =
    let numbers = sooner (is_action_number g x && is_action_number g y) _ h in
    record {
      earlier = sooner (is_action_number g x) _ numbers;
      later = later (is_action_number g x) _ numbers;
      leads = gates_led g (x - 1) (y - 1) (later (is_action_number g x && is_action_number g y) _ h);
    }

pub before-computed : (g : GraphOf) (x y : ℕ) → IsGraph g → IsBefore g x y → is_before g x y ≡ true
before-computed g x y graph before =
    and_from (is_action_number g x && is_action_number g y) _ (and_from (is_action_number g x) _ before.earlier before.later)
    (led_by_gates g graph (x - 1) (y - 1) before.leads)

-- as many edges as there are positions are enough
pub within_positions : (g : GraphOf) → IsGraph g → (x y : ℕ) → 0 < x → x ≤ length g.actions → 0 < y → y ≤ length g.actions
    → leads_by_gates_within g.edges.positions (length g.actions) g.edges.list (x - 1) (y - 1) ≡ is_before g x y
within_positions g graph x y from most low high =
    let numbers : is_action_number g x && is_action_number g y ≡ true = grind (arith, nat_tests) in
    same_test (leads_by_gates_within g.edges.positions (length g.actions) g.edges.list (x - 1) (y - 1)) (is_before g x y)
    (λ h. and_from (is_action_number g x && is_action_number g y) _ numbers
    (led_by_gates g graph (x - 1) (y - 1)
    (leads-from_computed g.edges.positions (length g.actions) g.edges.list (x - 1) (y - 1) h)))
    (λ h. leads-computed g.edges.positions g.edges.positions (length g.actions) g.edges.list (x - 1) (y - 1) graph.within graph.gates_upward (omega arith)
    (gates_led g (x - 1) (y - 1)
    (later (is_action_number g x && is_action_number g y) _ h)))

pub before_found : (g now : GraphOf) (count : ℕ) (edges : List Edge) (found : Bool) → now ≡ g → IsGraph g → count ≡ length g.actions → edges ≡ g.edges.list
    → (x y : ℕ) → 0 < x → x ≤ length now.actions → 0 < y → y ≤ length now.actions
    → found ≡ leads_by_gates_within g.edges.positions count edges (x - 1) (y - 1) → found ≡ is_before now x y
before_found g now count edges found view graph few same x y from most low high e =
    e ∙ rw (few, same, view) (within_positions g graph x y from (rw view at most) low (rw view at high))
