-- What each step keeps of the positions that are cleared.
use Rattle.std.proofs.Common.{arith, ◌≡◌, ◌<◌, ◌≤◌, ◌+◌, ◌-◌, ◌==◌, ◌&&◌, ◌||◌, not, nat_lt, ℕ, Bool, true, false, if◌then◌else◌, List, [], ◌∷◌, ◌++◌, length, take, count_by, slice_index_or, slice_set, refl, sym, ap, ◌∙◌, ◌≢◌, ◌⊎◌, inl, inr, Contains, Any}
use Rattle.std.specs.List.{IsDistinct}
use Rattle.std.proofs.lemmas.Bool.{cases_eq, cases_lt, or_cases, eqb-true, eqb-false, eq-eqb, ne_eqb}
use Rattle.std.proofs.lemmas.List.{get_or-set_same, get_or-set_other, get_or_past, length-set, take-append-le, length_push}
use Rattle.std.proofs.lemmas.List.Folds.{Any-from_list_any}
use Rattle.std.proofs.lemmas.Map.Keys.{IsDistinct-push}
use Rattle.std.proofs.lemmas.Map.Steps.{length-le_from_distinct_below}
use Rattle.edges.specs.declared.edge.Edge.{Edge}
use Rattle.cluster_types.specs.Graphs.{GraphOf, IsGraph}
use Rattle.graph_exec.specs.Inner.ClearedPositions.{ClearsGates, gates_cleared_then, ready_then, edges_held}
use Rattle.edges.specs.Rows.{edge_targets_of}
use Rattle.std.proofs.Math.Bool.{or-false}
use Rattle.lemmas.proofs.Booleans.{sooner}
use Rattle.lemmas.proofs.Counts.{count-is, count_some}
use Rattle.edges.specs.Sources.{is_in_list}
use Rattle.edges.specs.Rows.{less_one}
use Rattle.edges.proofs.Members.{equal_laws, has_push, not_before}
use Rattle.edges.proofs.Steps.{after_take, left_elsewhere}
use Rattle.graph_exec.proofs.Beyond.{beyond, beyond_more}

-- A position is taken: the edges from it are to be counted off.

module _ (g : GraphOf) (begun succeeded ready : List Bool) (taken : ℕ) (left cleared : List ℕ) (lt : taken < length cleared)
    (c : ClearsGates g begun succeeded ready taken [] left cleared) where
  more_pending : (x : ℕ) → edges_held g.edges.list (take taken cleared) x
      ≡ edges_held g.edges.list (take (taken + 1) cleared) x + count_by (◌==◌ x) (edge_targets_of g.edges.list (slice_index_or cleared taken 0))
  more_pending x =
      beyond_more x (slice_index_or cleared taken 0) (is_in_list (take taken cleared)) (is_in_list (take (taken + 1) cleared))
      (λ a. after_take cleared taken a lt) (not_before cleared taken c.distinct lt) g.edges.list

  stands : (x : ℕ) (e : Edge) → Contains g.edges.list e → x ≡ e.after → IsGraph g → x < g.edges.positions
  stands x e among at graph = let w = graph.within e among in rw at (w.1)

  within_on : IsGraph g → (x : ℕ) → (x < g.edges.positions) ⊎ (g.edges.positions ≤ x)
      → count_by (◌==◌ x) (edge_targets_of g.edges.list (slice_index_or cleared taken 0)) ≤ slice_index_or left x 0
  within_on graph x (inl w) = let a = c.counted x w in let m = more_pending x in omega arith
  within_on graph x (inr past) =
      let m = more_pending x in
      neither (cases_lt 0 (edges_held g.edges.list (take taken cleared) x)) m where
        one : Any (λ e. beyond x (is_in_list (take taken cleared)) e ≡ true) g.edges.list → x < g.edges.positions
        one (k, e, at_k, at, h) = stands x e (k, at_k, at) (eqb-true x e.after (sooner _ (not (is_in_list (take taken cleared) e.before)) h)) graph

        neither : (0 < edges_held g.edges.list (take taken cleared) x) ⊎ (edges_held g.edges.list (take taken cleared) x ≤ 0)
            → edges_held g.edges.list (take taken cleared) x
            ≡ edges_held g.edges.list (take (taken + 1) cleared) x + count_by (◌==◌ x) (edge_targets_of g.edges.list (slice_index_or cleared taken 0))
            → count_by (◌==◌ x) (edge_targets_of g.edges.list (slice_index_or cleared taken 0)) ≤ slice_index_or left x 0
        neither (inl some) m =
            let w = one (Any-from_list_any (beyond x (is_in_list (take taken cleared))) g.edges.list
            (count_some (beyond x (is_in_list (take taken cleared))) g.edges.list some)) in
            absurd (let f : ⊥ = omega arith in f)
        neither (inr none) m = omega arith

  pub taken_next : IsGraph g
      → ClearsGates g begun succeeded ready (taken + 1) (edge_targets_of g.edges.list (slice_index_or cleared taken 0)) left cleared
  taken_next graph = record {
    enough = omega arith;
    size = c.size;
    ready_size = c.ready_size;
    distinct = c.distinct;
    below = c.below;
    counted = λ x within. let old = c.counted x within in let m = more_pending x in omega arith;
    within = λ x. within_on graph x (cases_lt x g.edges.positions);
    gates = c.gates;
    actions = c.actions;
    may_begin = c.may_begin;
    begun_free = c.begun_free;
    success_begun = c.success_begun;
  }

-- An edge is counted off.

module _ (g : GraphOf) (begun succeeded ready : List Bool) (taken p : ℕ) (pending left cleared : List ℕ)
    (c : ClearsGates g begun succeeded ready taken (p ∷ pending) left cleared) where
  one_more : count_by (◌==◌ p) (p ∷ pending) ≡ 1 + count_by (◌==◌ p) pending
  one_more = count-is (◌==◌ p) p pending true (grind arith)

  no_more : (x : ℕ) → x ≢ p → count_by (◌==◌ x) (p ∷ pending) ≡ 0 + count_by (◌==◌ x) pending
  no_more x differ = count-is (◌==◌ x) p pending false (ne_eqb x p differ)

  pub some_left : 0 < slice_index_or left p 0
  some_left = let o = one_more in let w = c.within p in omega arith

  pub p_within : p < g.edges.positions
  p_within = on (cases_lt p g.edges.positions) where
    on : (p < g.edges.positions) ⊎ (g.edges.positions ≤ p) → p < g.edges.positions
    on (inl lt) = lt
    on (inr ge) =
        let s = c.size in
        let some = some_left in
        let past : slice_index_or left p 0 ≡ 0 = get_or_past left p 0 (omega arith) in
        absurd (let f : ⊥ = omega arith in f)

  -- an action with an edge left hasn't begun
  p_not_begun : p < length g.actions → (b : Bool) → slice_index_or begun p false ≡ b → b ≡ false
  p_not_begun lt true e = let f = c.begun_free p lt e in let s = some_left in absurd (let f : ⊥ = omega arith in f)
  p_not_begun lt false e = refl

  p_waits : is_in_list cleared p ≡ false
  p_waits = on (cases_lt p (length g.actions)) where
    success : p < length g.actions → (b : Bool) → slice_index_or succeeded p false ≡ b → b ≡ false
    success lt true e =
        let b = c.success_begun p lt e in
        let f = c.begun_free p lt b in
        let s = some_left in
        absurd (let f : ⊥ = omega arith in f)
    success lt false e = refl

    on : (p < length g.actions) ⊎ (length g.actions ≤ p) → is_in_list cleared p ≡ false
    on (inl lt) = c.actions p lt ∙ success lt (slice_index_or succeeded p false) refl
    on (inr ge) = let s = some_left in c.gates p ge p_within ∙ ne_eqb (slice_index_or left p 0) 0 (λ e. omega arith)

  -- there is room for one position more
  pub p_room : length cleared < g.edges.positions
  p_room =
      let below : (q : ℕ) → is_in_list (cleared ++ p ∷ []) q ≡ true → q < g.edges.positions = λ q h. elim (or_cases (is_in_list cleared q) (q == p) (rw (has_push cleared p q) at h)) [
        | inl old ↦ c.below q old
        | inr e ↦ rw (eqb-true q p e) p_within
      ] in
      let m = length-le_from_distinct_below (cleared ++ p ∷ []) g.edges.positions (IsDistinct-push equal_laws cleared p c.distinct p_waits) below in
      let l = length_push cleared p in
      omega arith

  left_there : slice_index_or (less_one left p) p 0 ≡ slice_index_or left p 0 - 1
  left_there = let s = c.size in let w = p_within in get_or-set_same left p (slice_index_or left p 0 - 1) 0 (omega arith)

  counted_left : (x : ℕ) → x < g.edges.positions
      → slice_index_or (less_one left p) x 0 ≡ edges_held g.edges.list (take taken cleared) x + count_by (◌==◌ x) pending
  counted_left x within = elim (cases_eq x p) [
    | inl e ↦ rw e (let l = left_there in let o = one_more in let old = c.counted p p_within in omega arith)
    | inr differ ↦ let l = left_elsewhere left p x differ in let o = no_more x differ in let old = c.counted x within in omega arith
  ]

  within_left : (x : ℕ) → count_by (◌==◌ x) pending ≤ slice_index_or (less_one left p) x 0
  within_left x = elim (cases_eq x p) [
    | inl e ↦ rw e (let l = left_there in let o = one_more in let old = c.within p in omega arith)
    | inr differ ↦ let l = left_elsewhere left p x differ in let o = no_more x differ in let old = c.within x in omega arith
  ]

  free_left : (x : ℕ) → x < length g.actions → slice_index_or begun x false ≡ true → slice_index_or (less_one left p) x 0 ≡ 0
  free_left x lt b = elim (cases_eq x p) [
    | inl e ↦ let l = left_there in let f = c.begun_free x lt b in rw e (let h : slice_index_or left p 0 ≡ 0 = rw e at f in omega arith)
    | inr differ ↦ left_elsewhere left p x differ ∙ c.begun_free x lt b
  ]

  size_left : length (less_one left p) ≡ g.edges.positions
  size_left = length-set left p (slice_index_or left p 0 - 1) ∙ c.size

  -- what holds whichever way, of the cleared positions and the ready actions then
  gathered : (ready' : List Bool) (cleared' : List ℕ) → length ready' ≡ length ready → taken ≤ length cleared'
      → take taken cleared' ≡ take taken cleared → ((x : ℕ) → is_in_list cleared' x ≡ true → x < g.edges.positions)
      → ((x : ℕ) → length g.actions ≤ x → x < g.edges.positions → is_in_list cleared' x ≡ (slice_index_or (less_one left p) x 0 == 0))
      → ((x : ℕ) → x < length g.actions → is_in_list cleared' x ≡ slice_index_or succeeded x false)
      → ((x : ℕ) → x < length g.actions
      → slice_index_or ready' x false ≡ (slice_index_or (less_one left p) x 0 == 0 && not (slice_index_or begun x false)))
      → IsDistinct ◌==◌ cleared'
      → ClearsGates g begun succeeded ready' taken pending (less_one left p) cleared'
  gathered ready' cleared' size enough front below gates actions may d = record {
    enough = enough;
    size = size_left;
    ready_size = size ∙ c.ready_size;
    distinct = d;
    below = below;
    counted = λ x within. rw front (counted_left x within);
    within = within_left;
    gates = gates;
    actions = actions;
    may_begin = may;
    begun_free = free_left;
    success_begun = c.success_begun;
  }

  -- an edge is left
  still_waits : slice_index_or left p 0 ≢ 1 → ClearsGates g begun succeeded ready taken pending (less_one left p) cleared
  still_waits more = gathered ready cleared refl c.enough refl c.below gates_later c.actions may_later c.distinct where
    p_holds : (slice_index_or (less_one left p) p 0 == 0) ≡ false
    p_holds = let l = left_there in let s = some_left in ne_eqb _ 0 (λ e. omega arith)

    p_held : (slice_index_or left p 0 == 0) ≡ false
    p_held = let s = some_left in ne_eqb _ 0 (λ e. omega arith)

    gates_later : (x : ℕ) → length g.actions ≤ x → x < g.edges.positions → is_in_list cleared x ≡ (slice_index_or (less_one left p) x 0 == 0)
    gates_later x gate within = elim (cases_eq x p) [
      | inl e ↦ rw e (p_waits ∙ sym p_holds)
      | inr differ ↦ rw (left_elsewhere left p x differ) (c.gates x gate within)
    ]

    may_later : (x : ℕ) → x < length g.actions
        → slice_index_or ready x false ≡ (slice_index_or (less_one left p) x 0 == 0 && not (slice_index_or begun x false))
    may_later x lt = elim (cases_eq x p) [
      | inl e ↦ let m = c.may_begin x lt in rw (e, p_holds) (let n : slice_index_or ready p false ≡ (slice_index_or left p 0 == 0 && not (slice_index_or begun p false)) = rw e at m in n ∙ ap (λ b. b && not (slice_index_or begun p false)) p_held)
      | inr differ ↦ rw (left_elsewhere left p x differ) (c.may_begin x lt)
    ]

  module _ (one : slice_index_or left p 0 ≡ 1) where
    none_left : (slice_index_or (less_one left p) p 0 == 0) ≡ true
    none_left = let l = left_there in eq-eqb _ 0 (omega arith)

    -- no edge to the action is left
    begins_now : p < length g.actions → ClearsGates g begun succeeded (slice_set ready p true) taken pending (less_one left p) cleared
    begins_now action =
        gathered (slice_set ready p true) cleared (length-set ready p true) c.enough refl c.below gates_now c.actions may_now c.distinct where
          gates_now : (x : ℕ) → length g.actions ≤ x → x < g.edges.positions → is_in_list cleared x ≡ (slice_index_or (less_one left p) x 0 == 0)
          gates_now x gate within = rw (left_elsewhere left p x (λ e. omega arith)) (c.gates x gate within)

          may_now : (x : ℕ) → x < length g.actions
              → slice_index_or (slice_set ready p true) x false ≡ (slice_index_or (less_one left p) x 0 == 0 && not (slice_index_or begun x false))
          may_now x lt = elim (cases_eq x p) [
            | inl e ↦ rw (e, none_left, p_not_begun action (slice_index_or begun p false) refl) (let s = c.ready_size in get_or-set_same ready p true false (omega arith))
            | inr differ ↦ rw (left_elsewhere left p x differ) (get_or-set_other ready p x true false differ ∙ c.may_begin x lt)
          ]

    -- no edge to the gate is left
    clears_now : length g.actions ≤ p → ClearsGates g begun succeeded ready taken pending (less_one left p) (cleared ++ p ∷ [])
    clears_now gate =
        gathered ready (cleared ++ p ∷ []) refl (let l = length_push cleared p in let e = c.enough in omega arith)
        (let e = c.enough in take-append-le taken cleared (p ∷ []) (omega arith)) below_now gates_now actions_now
        may_now (IsDistinct-push equal_laws cleared p c.distinct p_waits) where
          elsewhere : (x : ℕ) → x ≢ p → is_in_list (cleared ++ p ∷ []) x ≡ is_in_list cleared x
          elsewhere x differ = has_push cleared p x ∙ ap (λ b. is_in_list cleared x || b) (ne_eqb x p differ) ∙ or-false (is_in_list cleared x)

          below_now : (x : ℕ) → is_in_list (cleared ++ p ∷ []) x ≡ true → x < g.edges.positions
          below_now x h = elim (or_cases (is_in_list cleared x) (x == p) (rw (has_push cleared p x) at h)) [
            | inl old ↦ c.below x old
            | inr e ↦ rw (eqb-true x p e) p_within
          ]

          gates_now : (x : ℕ) → length g.actions ≤ x → x < g.edges.positions
              → is_in_list (cleared ++ p ∷ []) x ≡ (slice_index_or (less_one left p) x 0 == 0)
          gates_now x gate within = elim (cases_eq x p) [
            | inl e ↦ rw (e, none_left, has_push cleared p p) (rw p_waits (eq-eqb p p refl))
            | inr differ ↦ rw (left_elsewhere left p x differ) (elsewhere x differ ∙ c.gates x gate within)
          ]

          actions_now : (x : ℕ) → x < length g.actions → is_in_list (cleared ++ p ∷ []) x ≡ slice_index_or succeeded x false
          actions_now x lt = elsewhere x (λ e. omega arith) ∙ c.actions x lt

          may_now : (x : ℕ) → x < length g.actions
              → slice_index_or ready x false ≡ (slice_index_or (less_one left p) x 0 == 0 && not (slice_index_or begun x false))
          may_now x lt = rw (left_elsewhere left p x (λ e. omega arith)) (c.may_begin x lt)

  by_kind : slice_index_or left p 0 ≡ 1 → (b : Bool) → nat_lt p (length g.actions) ≡ b
      → ClearsGates g begun succeeded (if b then slice_set ready p true else ready) taken pending (less_one left p) (if not b then cleared ++ p ∷ [] else cleared)
  by_kind one true e = begins_now one (grind arith)
  by_kind one false e = clears_now one (grind arith)

  by_left : (b : Bool) → (slice_index_or left p 0 == 1) ≡ b
      → ClearsGates g begun succeeded (if b && nat_lt p (length g.actions) then slice_set ready p true else ready) taken pending (less_one left p)
      (if b && not (nat_lt p (length g.actions)) then cleared ++ p ∷ [] else cleared)
  by_left true e = by_kind (eqb-true _ 1 e) (nat_lt p (length g.actions)) refl
  by_left false e = still_waits (eqb-false _ 1 e)

  pub counted_off : ClearsGates g begun succeeded (ready_then (length g.actions) left ready p) taken pending (less_one left p)
      (gates_cleared_then (length g.actions) left cleared p)
  counted_off = by_left (slice_index_or left p 0 == 1) refl

-- no more positions are cleared than there are
pub few_cleared : (g : GraphOf) (begun succeeded ready : List Bool) (taken : ℕ) (pending left cleared : List ℕ)
    → ClearsGates g begun succeeded ready taken pending left cleared → length cleared ≤ g.edges.positions
few_cleared g begun succeeded ready taken pending left cleared c = length-le_from_distinct_below cleared g.edges.positions c.distinct c.below
