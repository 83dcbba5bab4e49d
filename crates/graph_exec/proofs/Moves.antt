-- What is cleared when nothing has begun, when an action begins, and when one succeeds.
use Rattle.std.proofs.Common.{arith, ◌≡◌, ◌<◌, ◌≤◌, ◌-◌, ◌==◌, ◌&&◌, ◌||◌, not, ℕ, Bool, true, false, List, [], ◌∷◌, ◌++◌, Some, length, filter, replicate, slice_index_or, slice_set, slice_get, refl, sym, ap, ◌∙◌, ◌≢◌, inl, inr}
use Rattle.std.specs.List.{range_with_len}
use Rattle.std.proofs.lemmas.Bool.{cases_eq, or_cases, eqb-true, eq-eqb, ne_eqb}
use Rattle.std.proofs.lemmas.List.{get_or-set_same, get_or-set_other, get_or-replicate, length-set, take-append-le, length_push}
use Rattle.std.proofs.lemmas.Map.Keys.{IsDistinct-push}
use Rattle.std.proofs.lemmas.Option.{slice_get_within, get_or_from_slice_get}
use Rattle.cluster_types.specs.Graphs.{GraphOf, IsGraph}
use Rattle.listed.specs.Sets.{is_member, members}
use Rattle.graph_exec.specs.Inner.ClearedPositions.{ClearsGates, ClearingRests}
use Rattle.edges.specs.declared.side.Side.TheVariants.{After}
use Rattle.edges.specs.Rows.{edges_at}
use Rattle.graph_exec.specs.ReadyActions.{startable}
use Rattle.std.proofs.Math.Bool.{and-true, or-false}
use Rattle.lemmas.proofs.Booleans.{sooner, later}
use Rattle.lemmas.proofs.Counts.{count_agree}
use Rattle.edges.specs.Sources.{is_in_list}
use Rattle.edges.proofs.Members.{equal_laws, has_push, has_at}
use Rattle.edges.proofs.Beginnings.{in_range, of_range, has_filter, distinct_filter}
use Rattle.graph_exec.proofs.Free.{are_startable}
use Rattle.graph_exec.proofs.QueueSteps.{few_cleared}

-- Nothing has begun.

module _ (g : GraphOf) (graph : IsGraph g) (ready : List Bool) (left : List ℕ) (size : length left ≡ g.edges.positions)
    (counted : (x : ℕ) → x < g.edges.positions → slice_index_or left x 0 ≡ edges_at After g.edges.list x)
    (ready_size : length ready ≡ length g.actions)
    (free : (x : ℕ) → x < length g.actions → slice_index_or ready x false ≡ (slice_index_or left x 0 == 0)) where
  abbrev is_done : ℕ → Bool
  is_done x = slice_index_or left x 0 == 0

  abbrev none : List Bool
  none = replicate (length g.actions) false

  abbrev first : List ℕ
  first = filter is_done (range_with_len (length g.actions) (g.edges.positions - length g.actions))

  parts : (x : ℕ) → is_in_list first x ≡ true → is_in_list (range_with_len (length g.actions) (g.edges.positions - length g.actions)) x && is_done x ≡ true
  parts x h = sym (has_filter is_done (range_with_len (length g.actions) (g.edges.positions - length g.actions)) x) ∙ h

  bounds : (x : ℕ) → is_in_list first x ≡ true → (length g.actions ≤ x) × (x < g.edges.positions)
  bounds x h =
      let r = of_range (length g.actions) (g.edges.positions - length g.actions) x (sooner _ (is_done x) (parts x h)) in
      let p = graph.positions in
      (r.0, omega arith)

  no_action : (x : ℕ) → x < length g.actions → (b : Bool) → is_in_list first x ≡ b → b ≡ false
  no_action x lt true h = let r = bounds x h in absurd (let f : ⊥ = omega arith in f)
  no_action x lt false h = refl

  unset : (x : ℕ) → x < length g.actions → slice_index_or none x false ≡ false
  unset x lt = get_or-replicate (length g.actions) x false false lt

  pub clears_first : ClearsGates g none none ready 0 [] left first
  clears_first = record {
    enough = omega arith;
    size = size;
    ready_size = ready_size;
    distinct = distinct_filter is_done (length g.actions) (g.edges.positions - length g.actions);
    below = λ x h. (bounds x h).1;
    counted = λ x lt.
        let c = counted x lt in
        let a = count_agree (λ e. x == e.after && true) (λ e. x == e.after) (λ e. and-true (x == e.after)) g.edges.list in
        omega arith;
    within = λ x. omega arith;
    gates = λ x gate lt.
        has_filter is_done (range_with_len (length g.actions) (g.edges.positions - length g.actions)) x
        ∙ ap (λ b. b && is_done x) (in_range (length g.actions) (g.edges.positions - length g.actions) x gate (omega arith));
    actions = λ x lt. no_action x lt (is_in_list first x) refl ∙ sym (unset x lt);
    may_begin = λ x lt. free x lt ∙ sym (and-true (slice_index_or left x 0 == 0)) ∙ ap (λ b. (slice_index_or left x 0 == 0) && not b) (sym (unset x lt));
    begun_free = λ x lt h. let u = unset x lt in cc;
    success_begun = λ x lt h. let u = unset x lt in cc;
  }

-- a member of a set that was found in it
pub record IsMember (flags : List Bool) (k : ℕ) : Type 0 where
  pub low : 0 < k
  pub high : k ≤ length flags
  pub is : is_member flags k ≡ true

pub member_found : (flags : List Bool) (k : ℕ) → slice_get (members flags) 0 ≡ Some k → IsMember flags k
member_found flags k at =
    let lt = slice_get_within (members flags) 0 k at in
    let g : slice_index_or (members flags) 0 0 ≡ k = get_or_from_slice_get (members flags) 0 k 0 at in
    let h : is_in_list (members flags) k ≡ true = rw g at (has_at (members flags) 0 lt) in
    let p = sym (has_filter (is_member flags) (range_with_len 1 (length flags)) k) ∙ h in
    let r = of_range 1 (length flags) k (sooner _ (is_member flags k) p) in
    record { low = omega arith; high = omega arith; is = later (is_in_list (range_with_len 1 (length flags)) k) (is_member flags k) p }

-- An action begins.

module _ (g : GraphOf) (begun succeeded ready : List Bool) (taken p : ℕ) (left cleared : List ℕ)
    (c : ClearsGates g begun succeeded ready taken [] left cleared) (size : length begun ≡ length g.actions) (action : p < length g.actions)
    (may : slice_index_or ready p false ≡ true) where
  both : (slice_index_or left p 0 == 0 && not (slice_index_or begun p false)) ≡ true
  both = sym (c.may_begin p action) ∙ may

  none_left : (slice_index_or left p 0 == 0) ≡ true
  none_left = sooner _ (not (slice_index_or begun p false)) both

  pub clears_begun : ClearsGates g (slice_set begun p true) succeeded (slice_set ready p false) taken [] left cleared
  clears_begun = record {
    enough = c.enough;
    size = c.size;
    ready_size = length-set ready p false ∙ c.ready_size;
    distinct = c.distinct;
    below = c.below;
    counted = c.counted;
    within = c.within;
    gates = c.gates;
    actions = c.actions;
    may_begin = λ x lt. elim (cases_eq x p) [
      | inl e ↦ rw (e, get_or-set_same ready p false false (let s = c.ready_size in omega arith), get_or-set_same begun p true false (omega arith), none_left) refl
      | inr d ↦ rw (get_or-set_other ready p x false false d, get_or-set_other begun p x true false d) (c.may_begin x lt)
    ];
    begun_free = λ x lt h. elim (cases_eq x p) [
      | inl e ↦ rw e (eqb-true _ 0 none_left)
      | inr d ↦ c.begun_free x lt (sym (get_or-set_other begun p x true false d) ∙ h)
    ];
    success_begun = λ x lt h. elim (cases_eq x p) [
      | inl e ↦ rw e (get_or-set_same begun p true false (omega arith))
      | inr d ↦ get_or-set_other begun p x true false d ∙ c.success_begun x lt h
    ];
  }

-- An action succeeds.

module _ (g : GraphOf) (graph : IsGraph g) (begun succeeded ready : List Bool) (p : ℕ) (left cleared : List ℕ)
    (c : ClearsGates g begun succeeded ready (length cleared) [] left cleared) (size : length succeeded ≡ length g.actions)
    (action : p < length g.actions) (runs : slice_index_or begun p false ≡ true) (not_yet : slice_index_or succeeded p false ≡ false) where
  new : is_in_list cleared p ≡ false
  new = c.actions p action ∙ not_yet

  elsewhere : (x : ℕ) → x ≢ p → is_in_list (cleared ++ p ∷ []) x ≡ is_in_list cleared x
  elsewhere x differ = has_push cleared p x ∙ ap (λ b. is_in_list cleared x || b) (ne_eqb x p differ) ∙ or-false (is_in_list cleared x)

  below_now : (x : ℕ) → is_in_list (cleared ++ p ∷ []) x ≡ true → x < g.edges.positions
  below_now x h = elim (or_cases (is_in_list cleared x) (x == p) (rw (has_push cleared p x) at h)) [
    | inl old ↦ c.below x old
    | inr e ↦ rw (eqb-true x p e) (let l = graph.positions in omega arith)
  ]

  pub clears_success : ClearsGates g begun (slice_set succeeded p true) ready (length cleared) [] left (cleared ++ p ∷ [])
  clears_success = record {
    enough = let l = length_push cleared p in omega arith;
    size = c.size;
    ready_size = c.ready_size;
    distinct = IsDistinct-push equal_laws cleared p c.distinct new;
    below = below_now;
    counted = λ x lt. rw (take-append-le (length cleared) cleared (p ∷ []) (omega arith)) (c.counted x lt);
    within = c.within;
    gates = λ x gate lt. elsewhere x (λ e. omega arith) ∙ c.gates x gate lt;
    actions = λ x lt. elim (cases_eq x p) [
      | inl e ↦ rw (e, get_or-set_same succeeded p true false (omega arith), has_push cleared p p, new) (eq-eqb p p refl)
      | inr d ↦ elsewhere x d ∙ c.actions x lt ∙ sym (get_or-set_other succeeded p x true false d)
    ];
    may_begin = c.may_begin;
    begun_free = c.begun_free;
    success_begun = λ x lt h. elim (cases_eq x p) [
      | inl e ↦ rw e runs
      | inr d ↦ c.success_begun x lt (sym (get_or-set_other succeeded p x true false d) ∙ h)
    ];
  }

-- the same of all that is kept

module _ (g : GraphOf) (rows : List (List ℕ)) (begun succeeded ready : List Bool) (left cleared : List ℕ) (room : ℕ)
    (r : ClearingRests g rows begun succeeded ready left cleared room) where
  pub startable_found : (k : ℕ) → slice_get (startable (record { graph = g; begun = begun; succeeded = succeeded })) 0 ≡ Some k → IsMember ready k
  startable_found k at =
      member_found ready k (ap (λ (xs : List ℕ). slice_get xs 0) (are_startable g r.graph begun succeeded ready left cleared r.clears) ∙ at)

  pub sizes : length ready ≡ length begun
  sizes = r.clears.ready_size ∙ sym r.begun_size

  pub begun_rests : (k : ℕ) → IsMember ready k
      → ClearingRests g rows (slice_set begun (k - 1) true) succeeded (slice_set ready (k - 1) false) left cleared room
  begun_rests k m =
      let low = m.low in
      let high = m.high in
      let s = r.clears.ready_size in
      record {
        graph = r.graph;
        rows_are = r.rows_are;
        has_room = r.has_room;
        begun_size = length-set begun (k - 1) true ∙ r.begun_size;
        succeeded_size = r.succeeded_size;
        clears = clears_begun g begun succeeded ready (length cleared) (k - 1) left cleared r.clears r.begun_size (omega arith) m.is;
      }

  module _ (k : ℕ) (low : 0 < k) (high : k ≤ length g.actions) (runs : is_member begun k ≡ true) (not_yet : is_member succeeded k ≡ false) where
    pub success_clears : ClearsGates g begun (slice_set succeeded (k - 1) true) ready (length cleared) [] left (cleared ++ (k - 1) ∷ [])
    success_clears =
        clears_success g r.graph begun succeeded ready (k - 1) left cleared r.clears r.succeeded_size (omega arith) runs not_yet

    -- there is room for one more cleared position
    pub success_room : length cleared < room
    success_room =
        let f = few_cleared g begun (slice_set succeeded (k - 1) true) ready (length cleared) [] left (cleared ++ (k - 1) ∷ []) success_clears in
        let l = length_push cleared (k - 1) in
        let h = r.has_room in
        omega arith
