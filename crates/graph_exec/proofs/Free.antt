-- With all counted off, an action has no edge left just where each action before it has succeeded.
use Rattle.std.proofs.Common.{arith, ◌≡◌, ◌<◌, ◌≤◌, ◌+◌, ◌-◌, ◌==◌, ◌&&◌, ◌||◌, not, ℕ, suc, zero, Bool, true, false, List, [], length, take, filter, slice_index_or, refl, sym, ap, ◌∙◌, ◌≢◌, ◌⊎◌, inl, inr, Contains, Any}
use Rattle.std.specs.List.{range_with_len}
use Rattle.std.proofs.lemmas.Bool.{cases_lt, eqb-true, eqb-false, eq-eqb}
use Rattle.std.proofs.lemmas.List.{take_all}
use Rattle.std.proofs.lemmas.List.Folds.{Any-from_list_any, list_all_at}
use Rattle.std.proofs.lemmas.List.FromFn.{get_or-range_with_len, length-range_with_len}
use Rattle.edges.specs.declared.edge.Edge.{Edge}
use Rattle.edges.specs.Chains.{link_then, linked, one_link}
use Rattle.cluster_types.specs.Graphs.{GraphOf, IsGraph, LeadsByGates, is_before}
use Rattle.cluster_types.proofs.Paths.{before-computed, before-from_computed}
use Rattle.listed.specs.Sets.{is_member, members}
use Rattle.graph_exec.specs.Inner.ClearedPositions.{ClearsGates, edges_held}
use Rattle.graph_exec.specs.ReadyActions.{inputs_have_succeeded, startable}
use Rattle.lemmas.proofs.Booleans.{unless, sooner, later}
use Rattle.lemmas.proofs.Counts.{count_none, count_some}
use Rattle.lemmas.proofs.Ranges.{all_in_range, filter-alike}
use Rattle.edges.specs.Sources.{is_in_list}
use Rattle.graph_exec.proofs.Beyond.{beyond}

-- a way goes on by an edge from a gate
leads_on : (actions : ℕ) (edges : List Edge) (x y : ℕ) → LeadsByGates actions edges x y → actions ≤ y → (e : Edge) → Contains edges e → e.before ≡ y
    → LeadsByGates actions edges x e.after
leads_on actions edges _ _ (one_link _ _ (linked d among)) gate e c at =
    link_then _ _ e.after (linked d among) gate (let n : LeadsByGates actions edges e.before e.after = one_link _ _ (linked e c) in rw at at n)
leads_on actions edges _ y (link_then _ _ _ (linked d among) up rest) gate e c at = link_then _ _ e.after (linked d among) up (leads_on actions edges d.after y rest gate e c at)

module _ (g : GraphOf) (graph : IsGraph g) (begun succeeded ready : List Bool) (left cleared : List ℕ)
    (c : ClearsGates g begun succeeded ready (length cleared) [] left cleared) where
  counted : (x : ℕ) → x < g.edges.positions → slice_index_or left x 0 ≡ edges_held g.edges.list cleared x
  counted x within =
      let e : slice_index_or left x 0 ≡ edges_held g.edges.list (take (length cleared) cleared) x + 0 = c.counted x within in
      let t : take (length cleared) cleared ≡ cleared = take_all (length cleared) cleared (omega arith) in
      let f : slice_index_or left x 0 ≡ edges_held g.edges.list cleared x + 0 = rw t at e in
      omega arith

  -- with no edge left, each edge comes from a cleared position
  from_cleared : (x : ℕ) → x < g.edges.positions → slice_index_or left x 0 ≡ 0 → (e : Edge) → Contains g.edges.list e → x ≡ e.after
      → is_in_list cleared e.before ≡ true
  from_cleared x within none e (k, lt, at) to =
      let n = counted x within in
      unless (x == e.after) (is_in_list cleared e.before) (eq-eqb x e.after to)
      (count_none (beyond x (is_in_list cleared)) g.edges.list (omega arith) k e lt at)

  cleared_before : (x y : ℕ) → LeadsByGates (length g.actions) g.edges.list x y → y < g.edges.positions → slice_index_or left y 0 ≡ 0
      → is_in_list cleared x ≡ true
  cleared_before _ _ (one_link _ _ (linked e among)) within none = from_cleared e.after within none e among refl
  cleared_before _ y (link_then _ _ _ (linked e among) gate rest) within none =
      let w = graph.within e among in
      let h : is_in_list cleared e.after ≡ true = cleared_before e.after y rest within none in
      let z : slice_index_or left e.after 0 ≡ 0 = eqb-true _ 0 (sym (c.gates e.after gate w.1) ∙ h) in
      from_cleared e.after w.1 z e among refl

  -- an action that hasn't succeeded leads to the position
  record IsBlocked (y : ℕ) : Type 0 where
    pub by : ℕ
    pub action : by < length g.actions
    pub not_yet : slice_index_or succeeded by false ≡ false
    pub leads : LeadsByGates (length g.actions) g.edges.list by y

  from_open : (y : ℕ) (e : Edge) → Contains g.edges.list e → e.after ≡ y → is_in_list cleared e.before ≡ false → (before : ℕ) → e.before ≡ before
      → (before < length g.actions) ⊎ (length g.actions ≤ before)
      → ((p : ℕ) → length g.actions ≤ p → p < g.edges.positions → slice_index_or left p 0 ≢ 0 → p ≡ before → IsBlocked p) → IsBlocked y
  from_open y e among to closed before at (inl action) further = record {
    by = e.before;
    action = rw at action;
    not_yet = let a = c.actions e.before (rw at action) in sym a ∙ closed;
    leads = rw (← to) (one_link _ _ (linked e among));
  }
  from_open y e among to closed before at (inr gate) further =
      let w = graph.within e among in
      let h : (slice_index_or left e.before 0 == 0) ≡ false = sym (c.gates e.before (rw at gate) w.0) ∙ closed in
      let b = further e.before (rw at gate) w.0 (eqb-false _ 0 h) at in
      record {
        by = b.by;
        action = b.action;
        not_yet = b.not_yet;
        leads = rw (← to) (leads_on (length g.actions) g.edges.list b.by e.before b.leads (rw at gate) e among refl);
      }

  -- with an edge left, an edge comes from a position that isn't cleared
  record IsHeld (y : ℕ) : Type 0 where
    pub edge : Edge
    pub among : Contains g.edges.list edge
    pub to : edge.after ≡ y
    pub closed : is_in_list cleared edge.before ≡ false

  parted : (y : ℕ) (e : Edge) → Contains g.edges.list e → (b : Bool) → is_in_list cleared e.before ≡ b → (y == e.after && not b) ≡ true → IsHeld y
  parted y e among true is h = absurd (both y e (later (y == e.after) false h)) where
    both : (y : ℕ) (e : Edge) → false ≡ true → ⊥
    both y e f = cc
  parted y e among false is h = record { edge = e; among = among; to = sym (eqb-true y e.after (sooner (y == e.after) true h)); closed = is }

  held_by : (y : ℕ) → Any (λ e. beyond y (is_in_list cleared) e ≡ true) g.edges.list → IsHeld y
  held_by y (k, e, lt, at, h) = parted y e (k, lt, at) (is_in_list cleared e.before) refl h

  held : (y : ℕ) → y < g.edges.positions → slice_index_or left y 0 ≢ 0 → IsHeld y
  held y within some =
      let n = counted y within in
      held_by y (Any-from_list_any (beyond y (is_in_list cleared)) g.edges.list
      (count_some (beyond y (is_in_list cleared)) g.edges.list (let s : 0 < edges_held g.edges.list cleared y = omega arith in s)))

  gate_blocked : (fuel p : ℕ) → p ≤ fuel → length g.actions ≤ p → p < g.edges.positions → slice_index_or left p 0 ≢ 0 → IsBlocked p
  gate_blocked zero p le gate within some =
      let h = held p within some in
      let up : h.edge.before < h.edge.after = graph.gates_upward h.edge h.among (let t = h.to in omega arith) in
      let t = h.to in
      absurd (let f : ⊥ = omega arith in f)
  gate_blocked (suc fuel) p le gate within some =
      let h = held p within some in
      let up : h.edge.before < h.edge.after = graph.gates_upward h.edge h.among (let t = h.to in omega arith) in
      let t = h.to in
      from_open p h.edge h.among h.to h.closed h.edge.before refl (cases_lt h.edge.before (length g.actions))
      (λ q gate within some at. gate_blocked fuel q (omega arith) gate within some)

  blocked : (y : ℕ) → y < g.edges.positions → slice_index_or left y 0 ≢ 0 → IsBlocked y
  blocked y within some =
      let h = held y within some in
      from_open y h.edge h.among h.to h.closed h.edge.before refl (cases_lt h.edge.before (length g.actions))
      (λ q gate within some at. gate_blocked q q (omega arith) gate within some)

  -- numbers count from 1, and positions from 0

  passes : (k j : ℕ) → 0 < k → k ≤ length g.actions → slice_index_or left (k - 1) 0 ≡ 0 → 1 ≤ j → j < 1 + length g.actions
      → (b : Bool) → is_before g j k ≡ b → (not b || is_member succeeded j) ≡ true
  passes k j some lt none low high true e =
      let b = before-from_computed g j k e in
      let p = graph.positions in
      let h = cleared_before (j - 1) (k - 1) b.leads (omega arith) none in
      sym (c.actions (j - 1) (omega arith)) ∙ h
  passes k j some lt none low high false e = refl

  comes_before : (x k : ℕ) → x < length g.actions → 0 < k → k ≤ length g.actions → LeadsByGates (length g.actions) g.edges.list x (k - 1)
      → is_before g (x + 1) k ≡ true
  comes_before x k lt low high leads =
      before-computed g (x + 1) k graph (record {
        earlier = grind arith;
        later = grind arith;
        leads = let e : x + 1 - 1 ≡ x = omega arith in rw e leads;
      })

  stays : (x : ℕ) → slice_index_or succeeded x false ≡ false → is_member succeeded (x + 1) ≡ false
  stays x f = let e : x + 1 - 1 ≡ x = omega arith in rw e f

  pub free_none : (k : ℕ) → 0 < k → k ≤ length g.actions → (b : Bool) → (slice_index_or left (k - 1) 0 == 0) ≡ b → b ≡ inputs_have_succeeded g succeeded k
  free_none k some lt true e =
      sym (all_in_range (λ j. not (is_before g j k) || is_member succeeded j) 1 (length g.actions)
      (λ j low high. passes k j some lt (eqb-true _ 0 e) low high (is_before g j k) refl))
  free_none k some lt false e =
      let p = graph.positions in
      let b = blocked (k - 1) (omega arith) (eqb-false _ 0 e) in
      let a = b.action in
      let before = comes_before b.by k b.action some lt b.leads in
      let later' = stays b.by b.not_yet in
      let there : slice_index_or (range_with_len 1 (length g.actions)) b.by 0 ≡ b.by + 1
      = get_or-range_with_len 1 (length g.actions) b.by 0 b.action ∙ (let e : 1 + b.by ≡ b.by + 1 = omega arith in e) in
      let long = length-range_with_len 1 (length g.actions) in
      sym (list_all_at (λ j. not (is_before g j k) || is_member succeeded j) (range_with_len 1 (length g.actions)) b.by 0 (omega arith)
      (rw (there, before, later') refl))

  pub are_startable : members ready ≡ startable (record { graph = g; begun = begun; succeeded = succeeded })
  are_startable =
      let s = c.ready_size in
      ap (λ n. filter (is_member ready) (range_with_len 1 n)) s
      ∙ filter-alike (is_member ready) (λ k. inputs_have_succeeded g succeeded k && not (is_member begun k)) 1 (length g.actions)
      (λ k low high. c.may_begin (k - 1) (omega arith)
      ∙ ap (λ b. b && not (is_member begun k)) (free_none k (omega arith) (omega arith) (slice_index_or left (k - 1) 0 == 0) refl))
