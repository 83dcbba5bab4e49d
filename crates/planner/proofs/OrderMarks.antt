-- What an order marks by a list of what cells need is what it marks.
use Rattle.std.proofs.Common.{arith, ◌≡◌, ◌<◌, ◌==◌, ◌&&◌, ◌||◌, nat_lt, ℕ, Bool, true, false, not, if◌then◌else◌, List, [], ◌∷◌, length, map, slice_index_or, refl, sym, ◌∙◌, ap, inl, inr, Any}
use Rattle.std.specs.List.{list_any, range_with_len}
use Rattle.std.proofs.Math.Path.{fun_ext}
use Rattle.std.proofs.lemmas.Bool.{cases_lt, eq-eqb, eqb-true, le-ltb, lt-ltb, and_from}
use Rattle.std.proofs.lemmas.List.{get_or_past}
use Rattle.std.proofs.lemmas.List.Folds.{Any-from_list_any}
use Rattle.std.proofs.lemmas.List.FromFn.{get_or-map-range_with_len, length-map-range_with_len}
use Rattle.lemmas.proofs.Booleans.{later, sooner}
use Rattle.lemmas.proofs.Searches.{passes_by}
use Rattle.lemmas.proofs.Ranges.{any-same}
use Rattle.loops.specs.FirstLoops.{OrdersSteps}
use Rattle.lemmas.proofs.Members.{in_range}
use Rattle.cluster_types.specs.declared.cluster.Cluster.{Cluster}
use Rattle.cluster_types.specs.declared.journal.Event.{Event}
use Rattle.cluster_types.specs.declared.rules.Order.{Order}
use Rattle.cluster_types.specs.NeededActions.{can_cycle, has_disturbing}
use Rattle.cluster_types.specs.Precedence.{role_given}
use Rattle.cluster_types.specs.Tables.{Targets, holds_role, is_in_scope, target_holds}
use Rattle.planner.specs.Inner.ByNeeds as by_needs
use Rattle.planner.specs.CycledCells.{MarkedCells, is_disturbed, is_marked_by, with_order}
use Rattle.planner.specs.Inner.Levels.{AreNeeds, marks_in, steps_by}
use Rattle.planner.specs.declared.needed_actions.steps.CellNeed.{CellNeed}

any_flag : (p : ℕ → Bool) (xs : List ℕ) → list_any (λ b. b) (map p xs) ≡ list_any p xs
any_flag p [] = refl
any_flag p (x ∷ xs) = ap (λ b. p x || b) (any_flag p xs)

-- of one number alone
any_one : (p : ℕ → Bool) (nodes n : ℕ) → n < nodes → list_any (λ m. n == m && p m) (range_with_len 0 nodes) ≡ p n
any_one p nodes n lt = on (p n) refl where
  found : Any (λ m. n == m && p m ≡ true) (range_with_len 0 nodes) → p n ≡ true
  found (k, m, l, at, h) = rw (eqb-true n m (sooner (n == m) (p m) h)) (later (n == m) (p m) h)

  none : (b : Bool) → list_any (λ m. n == m && p m) (range_with_len 0 nodes) ≡ b → p n ≡ false → b ≡ false
  none true h f = let t = found (Any-from_list_any (λ m. n == m && p m) (range_with_len 0 nodes) h) in cc
  none false h f = refl

  on : (b : Bool) → p n ≡ b → list_any (λ m. n == m && p m) (range_with_len 0 nodes) ≡ p n
  on true h =
      passes_by (λ m. n == m && p m) (range_with_len 0 nodes) n (in_range 0 nodes n (omega arith) (omega arith))
      (and_from (n == n) (p n) (eq-eqb n n refl) h)
      ∙ sym h
  on false h =
      none (list_any (λ m. n == m && p m) (range_with_len 0 nodes)) refl h ∙ sym h

module _ (c : Cluster) (es : List Event) (targets : Targets) (needs : List CellNeed) (are : AreNeeds c es targets needs)
    (marks : MarkedCells) (o : Order) (ordered : OrdersSteps c o) where
  abbrev flags : List Bool
  flags = map (by_needs.is_disturbed_by_needs (length c.nodes) needs marks o) (range_with_len 0 (length c.nodes))

  disturbed_alike : (m : ℕ) → m < length c.nodes → by_needs.is_disturbed_by_needs (length c.nodes) needs marks o m ≡ is_disturbed c es targets marks o m
  disturbed_alike m lt =
      ap (λ (need : CellNeed). has_disturbing o.first_op (steps_by need false) || marks o.first m && has_disturbing o.first_op (steps_by need true))
      (are o.first m ordered.first lt)

  scoped : (n : ℕ) (local : Bool) → n < length c.nodes
      → (if local then slice_index_or flags n false else list_any (λ b. b) flags)
      ≡ list_any (λ m. (not local || n == m) && is_disturbed c es targets marks o m) (range_with_len 0 (length c.nodes))
  scoped n true lt =
      get_or-map-range_with_len (by_needs.is_disturbed_by_needs (length c.nodes) needs marks o) 0 (length c.nodes) n n false lt (omega arith)
      ∙ disturbed_alike n lt
      ∙ sym (any_one (is_disturbed c es targets marks o) (length c.nodes) n lt)
  scoped n false lt =
      any_flag (by_needs.is_disturbed_by_needs (length c.nodes) needs marks o) (range_with_len 0 (length c.nodes))
      ∙ any-same (by_needs.is_disturbed_by_needs (length c.nodes) needs marks o) (is_disturbed c es targets marks o) (length c.nodes) disturbed_alike

  marked_alike : (n : ℕ) → n < length c.nodes
      → by_needs.is_marked_on (length c.nodes) needs o flags (list_any (λ b. b) flags) n ≡ is_marked_by c es targets marks o n
  marked_alike n lt =
      let within : nat_lt n (length c.nodes) ≡ true = lt-ltb n (length c.nodes) lt in
      ap (λ (need : CellNeed). need.can_cycle && target_holds need.target (role_given o.then_op)
      && (if o.local then slice_index_or flags n false else list_any (λ b. b) flags)) (are o.then_leaf n ordered.later lt)
      ∙ ap (λ b. can_cycle c es targets o.then_leaf n && holds_role targets o.then_leaf (role_given o.then_op) n && b) (scoped n o.local lt)
      ∙ ap (λ b. b && can_cycle c es targets o.then_leaf n && holds_role targets o.then_leaf (role_given o.then_op) n
      && list_any (λ m. is_in_scope o n m && is_disturbed c es targets marks o m) (range_with_len 0 (length c.nodes))) (sym within)

  flag_alike : (n : ℕ)
      → slice_index_or (map (by_needs.is_marked_on (length c.nodes) needs o flags (list_any (λ b. b) flags)) (range_with_len 0 (length c.nodes))) n false
      ≡ is_marked_by c es targets marks o n
  flag_alike n = elim (cases_lt n (length c.nodes)) [
    | inl lt ↦
        get_or-map-range_with_len (by_needs.is_marked_on (length c.nodes) needs o flags (list_any (λ b. b) flags)) 0 (length c.nodes) n n false lt (omega arith)
        ∙ marked_alike n lt
    | inr le ↦
        let size = length-map-range_with_len (by_needs.is_marked_on (length c.nodes) needs o flags (list_any (λ b. b) flags)) 0 (length c.nodes) in
        let out : nat_lt n (length c.nodes) ≡ false = le-ltb n (length c.nodes) le in
        get_or_past (map (by_needs.is_marked_on (length c.nodes) needs o flags (list_any (λ b. b) flags)) (range_with_len 0 (length c.nodes))) n false (omega arith)
        ∙ ap (λ b. b && can_cycle c es targets o.then_leaf n && holds_role targets o.then_leaf (role_given o.then_op) n
        && list_any (λ m. is_in_scope o n m && is_disturbed c es targets marks o m) (range_with_len 0 (length c.nodes))) (sym out)
  ]

  pub order_marked : (after : MarkedCells)
      → ((r n : ℕ) → after r n ≡ (marks r n || r == o.then_leaf
      && slice_index_or (map (by_needs.is_marked_on (length c.nodes) needs o flags (list_any (λ b. b) flags)) (range_with_len 0 (length c.nodes))) n false))
      → after ≡ with_order c es targets marks o
  order_marked after is =
      fun_ext (λ r. fun_ext (λ n. is r n ∙ ap (λ b. marks r n || r == o.then_leaf && b) (flag_alike n)))

-- with the flags as they were made
module _ (c : Cluster) (es : List Event) (targets : Targets) (needs : List CellNeed) (are : AreNeeds c es targets needs)
    (o : Order) (ordered : OrdersSteps c o) (cells dist made : List Bool) (after : MarkedCells) where
  on_nodes : dist ≡ map (by_needs.is_disturbed_by_needs (length c.nodes) needs (marks_in (length c.nodes) cells) o) (range_with_len 0 (length c.nodes))
      → made ≡ map (by_needs.is_marked_on (length c.nodes) needs o dist (list_any (λ b. b) dist)) (range_with_len 0 (length c.nodes))
      → ((r n : ℕ) → after r n ≡ (marks_in (length c.nodes) cells r n || r == o.then_leaf && slice_index_or made n false))
      → after ≡ with_order c es targets (marks_in (length c.nodes) cells) o
  on_nodes d m is =
      order_marked c es targets needs are (marks_in (length c.nodes) cells) o ordered after (λ r n.
      is r n
      ∙ ap (λ fs. marks_in (length c.nodes) cells r n || r == o.then_leaf && slice_index_or fs n false)
      (m ∙ ap (λ ds. map (by_needs.is_marked_on (length c.nodes) needs o ds (list_any (λ b. b) ds)) (range_with_len 0 (length c.nodes))) d))

  pub marked_by_order : (nodes : ℕ) → nodes ≡ length c.nodes
      → dist ≡ map (by_needs.is_disturbed_by_needs nodes needs (marks_in nodes cells) o) (range_with_len 0 nodes)
      → made ≡ map (by_needs.is_marked_on nodes needs o dist (list_any (λ b. b) dist)) (range_with_len 0 nodes)
      → ((r n : ℕ) → after r n ≡ (marks_in nodes cells r n || r == o.then_leaf && slice_index_or made n false))
      → after ≡ with_order c es targets (marks_in nodes cells) o
  marked_by_order nodes e d m is = rw e (on_nodes (rw e at d) (rw e at m) (rw e at is))
