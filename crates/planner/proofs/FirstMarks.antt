-- The first marks, leaf by leaf.
use Rattle.std.proofs.Common.{arith, ◌≡◌, ◌<◌, ◌≤◌, ◌+◌, ◌==◌, ◌&&◌, ◌||◌, nat_lt, ℕ, Bool, true, false, List, length, map, slice_index_or, refl, sym, ◌∙◌, ap, inl, inr}
use Rattle.std.specs.List.{range_with_len}
use Rattle.std.proofs.Math.Bool.{and-false, or-false}
use Rattle.std.proofs.Math.Path.{fun_ext}
use Rattle.std.proofs.lemmas.Bool.{cases_lt, cases_order, eq-eqb, le-ltb, lt-ltb, ne_eqb}
use Rattle.std.proofs.lemmas.List.{get_or_past}
use Rattle.std.proofs.lemmas.List.FromFn.{get_or-map-range_with_len, length-map-range_with_len}
use Rattle.lemmas.proofs.Ranges.{count-same}
use Rattle.cluster_types.specs.declared.cluster.Cluster.{Cluster}
use Rattle.cluster_types.specs.declared.journal.Event.{Event}
use Rattle.cluster_types.specs.CellStates.{cell_state}
use Rattle.cluster_types.specs.Fields.{copies}
use Rattle.cluster_types.specs.NeededActions.{can_cycle}
use Rattle.cluster_types.specs.Tables.{Targets}
use Rattle.cluster_types.specs.Terms as terms
use Rattle.planner.specs.Inner.ByNeeds as by_needs
use Rattle.planner.specs.CycledCells.{MarkedCells, first_marks}
use Rattle.planner.specs.Inner.Levels.{AreNeeds, need_in}
use Rattle.planner.specs.declared.needed_actions.steps.CellNeed.{CellNeed}

-- one leaf more
pub row_more : (all : MarkedCells) (k r n : ℕ) (now after here : Bool) → now ≡ (nat_lt r k && all r n) → after ≡ (now || r == k && here)
    → here ≡ all k n → after ≡ (nat_lt r (k + 1) && all r n)
row_more all k r n now after here was is flag = elim (cases_order r k) [
  | inl e ↦
      let a : nat_lt r k ≡ false = le-ltb r k (omega arith) in
      let b : nat_lt r (k + 1) ≡ true = lt-ltb r (k + 1) (omega arith) in
      let s : (r == k) ≡ true = eq-eqb r k e in
      let f : here ≡ all r n = flag ∙ ap (λ x. all x n) (sym e) in
      is ∙ ap (λ b. b || r == k && here) (was ∙ ap (λ b. b && all r n) a) ∙ ap (λ b. b && here) s ∙ f ∙ ap (λ b. b && all r n) (sym b)
  | inr (inl lt) ↦
      let a : nat_lt r k ≡ true = lt-ltb r k lt in
      let b : nat_lt r (k + 1) ≡ true = lt-ltb r (k + 1) (omega arith) in
      let s : (r == k) ≡ false = ne_eqb r k (λ s. let f : ⊥ = omega arith in f) in
      is ∙ ap (λ b. b || r == k && here) (was ∙ ap (λ b. b && all r n) a) ∙ ap (λ b. all r n || b && here) s ∙ or-false (all r n)
      ∙ ap (λ b. b && all r n) (sym b)
  | inr (inr gt) ↦
      let a : nat_lt r k ≡ false = le-ltb r k (omega arith) in
      let b : nat_lt r (k + 1) ≡ false = le-ltb r (k + 1) (omega arith) in
      let s : (r == k) ≡ false = ne_eqb r k (λ s. let f : ⊥ = omega arith in f) in
      is ∙ ap (λ b. b || r == k && here) (was ∙ ap (λ b. b && all r n) a) ∙ ap (λ b. b && here) s ∙ ap (λ b. b && all r n) (sym b)
]

module _ (c : Cluster) (es : List Event) (targets : Targets) (needs : List CellNeed) (are : AreNeeds c es targets needs) where
  count_is : (r : ℕ) → r < length c.leaves → by_needs.needed_active_count (length c.nodes) needs r ≡ terms.active_count c es r
  count_is r lt =
      count-same (λ n. terms.is_active (need_in (length c.nodes) needs r n).state) (λ n. terms.is_active (cell_state c r n es)) (length c.nodes)
      (λ n ln. ap (λ (need : CellNeed). terms.is_active need.state) (are r n lt ln))

  on_node : (r n : ℕ) (often : Bool) → r < length c.leaves → n < length c.nodes → often ≡ nat_lt (copies c r) (terms.active_count c es r)
      → ((need_in (length c.nodes) needs r n).can_cycle && often) ≡ first_marks c es targets r n
  on_node r n often lr ln is =
      ap (λ (need : CellNeed). need.can_cycle && often) (are r n lr ln)
      ∙ ap (λ b. can_cycle c es targets r n && b) is
      ∙ ap (λ b. b && can_cycle c es targets r n && nat_lt (copies c r) (terms.active_count c es r)) (sym (lt-ltb n (length c.nodes) ln))
      ∙ ap (λ b. b && nat_lt n (length c.nodes) && can_cycle c es targets r n && nat_lt (copies c r) (terms.active_count c es r))
      (sym (lt-ltb r (length c.leaves) lr))

  past_nodes : (r n : ℕ) → length c.nodes ≤ n → first_marks c es targets r n ≡ false
  past_nodes r n le =
      ap (λ b. nat_lt r (length c.leaves) && b && can_cycle c es targets r n && nat_lt (copies c r) (terms.active_count c es r))
      (le-ltb n (length c.nodes) le)
      ∙ ap (λ b. b && can_cycle c es targets r n && nat_lt (copies c r) (terms.active_count c es r)) (and-false (nat_lt r (length c.leaves)))

  on_nodes : (r n : ℕ) (often : Bool) (flags : List Bool) → r < length c.leaves
      → often ≡ nat_lt (copies c r) (by_needs.needed_active_count (length c.nodes) needs r)
      → flags ≡ map (λ n. (need_in (length c.nodes) needs r n).can_cycle && often) (range_with_len 0 (length c.nodes))
      → slice_index_or flags n false ≡ first_marks c es targets r n
  on_nodes r n often flags lr is made = ap (λ fs. slice_index_or fs n false) made ∙ elim (cases_lt n (length c.nodes)) [
    | inl lt ↦
        get_or-map-range_with_len (λ n. (need_in (length c.nodes) needs r n).can_cycle && often) 0 (length c.nodes) n n false lt (omega arith)
        ∙ on_node r n often lr lt (is ∙ ap (nat_lt (copies c r)) (count_is r lr))
    | inr le ↦
        let size = length-map-range_with_len (λ n. (need_in (length c.nodes) needs r n).can_cycle && often) 0 (length c.nodes) in
        get_or_past (map (λ n. (need_in (length c.nodes) needs r n).can_cycle && often) (range_with_len 0 (length c.nodes))) n false (omega arith)
        ∙ sym (past_nodes r n le)
  ]

  pub flag_is : (nodes : ℕ) → nodes ≡ length c.nodes → (r n : ℕ) (often : Bool) (flags : List Bool) → r < length c.leaves
      → often ≡ nat_lt (copies c r) (by_needs.needed_active_count nodes needs r)
      → flags ≡ map (λ n. (need_in nodes needs r n).can_cycle && often) (range_with_len 0 nodes)
      → slice_index_or flags n false ≡ first_marks c es targets r n
  flag_is nodes e r n often flags lr is made = on_nodes r n often flags lr (rw e at is) (rw e at made)

  -- all leaves
  whole : (r n : ℕ) → (nat_lt r (length c.leaves) && first_marks c es targets r n) ≡ first_marks c es targets r n
  whole r n = on (nat_lt r (length c.leaves)) where
    on : (b : Bool) → (b && (b && nat_lt n (length c.nodes) && can_cycle c es targets r n && nat_lt (copies c r) (terms.active_count c es r)))
        ≡ (b && nat_lt n (length c.nodes) && can_cycle c es targets r n && nat_lt (copies c r) (terms.active_count c es r))
    on true = refl
    on false = refl

  pub all_first : (marks : MarkedCells) (k : ℕ) → k ≡ length c.leaves → ((r n : ℕ) → marks r n ≡ (nat_lt r k && first_marks c es targets r n))
      → marks ≡ first_marks c es targets
  all_first marks k e each = fun_ext (λ r. fun_ext (λ n. each r n ∙ ap (λ j. nat_lt r j && first_marks c es targets r n) e ∙ whole r n))
