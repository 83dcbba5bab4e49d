-- The order whose edges the first loop's edge is among.
use Rattle.std.proofs.Common.{arith, ◌≡◌, ◌<◌, ◌≤◌, ◌+◌, not, nat_lt, ℕ, zero, suc, Bool, true, false, cond, List, [], ◌∷◌, ◌++◌, length, take, drop, slice_index_or, position, Option, Some, None, refl, sym, ◌∙◌, ap, inl, inr, Contains}
use Rattle.std.specs.List.{flat_map, position_or_len, range_with_len}
use Rattle.std.proofs.Math.Seq.{take-append_seam, take-length}
use Rattle.std.proofs.lemmas.Bool.{lt-ltb, ltb-true, ltb-false}
use Rattle.std.proofs.lemmas.Grind.{flat_map-append}
use Rattle.std.proofs.lemmas.List.{append_assoc, take-append-drop}
use Rattle.std.proofs.lemmas.List.Elements.{Contains-append_cases}
use Rattle.std.proofs.lemmas.List.FromFn.{get_or-map-range_with_len, length-map-range_with_len}
use Rattle.std.proofs.lemmas.List.Quantifiers.{position-Some}
use Rattle.edges.specs.declared.edge.Edge.{Edge}
use Rattle.edges.specs.Loops.{ClosesFirst, HasLoop, HasNoLoop as NoLoopOfEdges}
use Rattle.edges.proofs.Endings.{one_way}
use Rattle.edges.proofs.Fronts.{free_with_fewer, loop_with_more}
use Rattle.edges.proofs.Paths.{none_where_rising}
use Rattle.cluster_types.specs.declared.cluster.Cluster.{Cluster}
use Rattle.cluster_types.specs.declared.leaf.Op.TheVariants.{Start, Stop, Promote, Demote}
use Rattle.cluster_types.specs.declared.rules.Order.{Order}
use Rattle.cluster_types.specs.Numbers.{Link, leaf_links, link, links, order_links}
use Rattle.loops.specs.Inner.Edges.{counts_link, edges_of, link_edge, order_ends, step_edges, step_position}
use Rattle.loops.specs.FirstLoops.{AllOrder, ClosesSteps, IsFirstOrder, with_first_orders}
use Rattle.loops.proofs.LinkEdges.{edges_joined}
use Rattle.loops.proofs.LinkLoops.{steps_free, steps_loop}
use Rattle.lemmas.proofs.Members.{contains_first, contains_shorter, head_or_rest, in_none, of_filter, of_flat, of_map}

-- where a test passes somewhere, it passes somewhere first

passes_before_the_end : {X : Type 0} (p : X → Bool) (xs : List X) (k : ℕ) (d : X) → k < length xs → p (slice_index_or xs k d) ≡ true
    → position_or_len p xs < length xs
passes_before_the_end p [] k d lt h = absurd (let f : ⊥ = omega arith in f)
passes_before_the_end p (x ∷ xs) zero d lt h = on (p x) h where
  on : (b : Bool) → b ≡ true → cond (not b) (1 + position_or_len p xs) 0 < length (x ∷ xs)
  on true e = omega arith
  on false e = cc
passes_before_the_end p (x ∷ xs) (suc k) d lt h = on (p x) (passes_before_the_end p xs k d (omega arith) h) where
  on : (b : Bool) → position_or_len p xs < length xs → cond (not b) (1 + position_or_len p xs) 0 < length (x ∷ xs)
  on true e = omega arith
  on false e = omega arith

none_passes : {X : Type 0} (p : X → Bool) (xs : List X) (k : ℕ) (d : X) → position p xs ≡ None → k < length xs
    → p (slice_index_or xs k d) ≡ true → ⊥
none_passes p xs k d none lt h =
    let found = lt-ltb _ _ (passes_before_the_end p xs k d lt h) in
    on (nat_lt (position_or_len p xs) (length xs)) found none
  where
    on : (b : Bool) → b ≡ true → cond b (Some (position_or_len p xs)) None ≡ None → ⊥
    on true e n = cc
    on false e n = cc

-- the edges within a leaf rise
rises_in_leaf : (r : ℕ) (l : Link) → Contains (leaf_links r) l → step_position l.before < step_position l.after
rises_in_leaf r l h = elim (head_or_rest (link Demote r Stop r) (link Start r Promote r ∷ []) l h) [
  | inl e ↦ rw (← e) (omega arith)
  | inr t ↦ elim (head_or_rest (link Start r Promote r) [] l t) [
    | inl e ↦ rw (← e) (omega arith)
    | inr f ↦ absurd (in_none l f)
  ]
]

module _ (c : Cluster) where
  own_rise : (e : Edge) → Contains (step_edges (with_first_orders c 0)) e → e.before < e.after
  own_rise e h =
      let m = of_map link_edge (links (with_first_orders c 0)) e h in
      let k = of_filter (counts_link (with_first_orders c 0)) (flat_map leaf_links (range_with_len 0 (length c.leaves)) ++ []) m.source m.among in
      let up : step_position m.source.before < step_position m.source.after
      = elim (Contains-append_cases (flat_map leaf_links (range_with_len 0 (length c.leaves))) [] m.source k.among) [
        | inl own ↦ let f = of_flat leaf_links (range_with_len 0 (length c.leaves)) m.source own in rises_in_leaf f.source m.source f.gives
        | inr other ↦ absurd (in_none m.source other)
      ] in
      rw (← m.gives) up

  pub own_free : NoLoopOfEdges (step_edges (with_first_orders c 0))
  own_free = none_where_rising (step_edges (with_first_orders c 0)) (λ x. x) own_rise

  -- the edges of the first orders, and then those of the others
  and_others : (k : ℕ) → step_edges c ≡ step_edges (with_first_orders c k) ++ edges_of c (flat_map order_links (drop k c.orders))
  and_others k =
      let own : List Link = flat_map leaf_links (range_with_len 0 (length c.leaves)) in
      let some : List Link = flat_map order_links (take k c.orders) in
      let others : List Link = flat_map order_links (drop k c.orders) in
      let split
      = ap (flat_map order_links) (sym (take-append-drop k c.orders)) ∙ flat_map-append order_links (take k c.orders) (drop k c.orders) in
      ap (λ t. edges_of c (own ++ t)) split ∙ ap (edges_of c) (sym (append_assoc own some others)) ∙ edges_joined c (own ++ some) others

  front : (k : ℕ) → take (length (step_edges (with_first_orders c k))) (step_edges c) ≡ step_edges (with_first_orders c k)
  front k =
      ap (take (length (step_edges (with_first_orders c k)))) (and_others k)
      ∙ take-append_seam (step_edges (with_first_orders c k)) (edges_of c (flat_map order_links (drop k c.orders)))

  all_orders : step_edges (with_first_orders c (length c.orders)) ≡ step_edges c
  all_orders = ap (λ (os : List Order). step_edges record c { orders = os }) (take-length c.orders)

  free_before : (place k : ℕ) → length (step_edges (with_first_orders c k)) ≤ place
      → NoLoopOfEdges (take place (step_edges c))
      → NoLoopOfEdges (step_edges (with_first_orders c k))
  free_before place k le free =
      free_with_fewer (step_edges (with_first_orders c k)) (take place (step_edges c))
      (λ e h. contains_shorter _ place (step_edges c) e le (rw (← front k) at h)) free

  loop_behind : (place k : ℕ) → place < length (step_edges (with_first_orders c k))
      → HasLoop (take (place + 1) (step_edges c))
      → HasLoop (step_edges (with_first_orders c k))
  loop_behind place k lt l =
      rw (front k) at (loop_with_more (take (place + 1) (step_edges c)) (take (length (step_edges (with_first_orders c k))) (step_edges c))
      (λ e h. contains_shorter (place + 1) _ (step_edges c) e (omega arith) h) l)

  end_at : (k : ℕ) → k < length c.orders
      → slice_index_or (order_ends c) k 0
      ≡ length (step_edges (with_first_orders c (k + 1)))
  end_at k lt = get_or-map-range_with_len (λ k. length (step_edges (with_first_orders c (k + 1)))) 0 (length c.orders) k k 0 lt (omega arith)

module _ (c : Cluster) (ordered : AllOrder c) where
  pub first_ordered : (k : ℕ) → AllOrder (with_first_orders c k)
  first_ordered k o h =
      let s = ordered o (contains_first k c.orders o h) in
      record { first = s.first; later = s.later; first_word = s.first_word; later_word = s.later_word }

  ends_size : length (order_ends c) ≡ length c.orders
  ends_size = length-map-range_with_len (λ k. length (step_edges (with_first_orders c (k + 1)))) 0 (length c.orders)

  -- the orders before the first that passes have no loop
  free_until : (place k : ℕ) → NoLoopOfEdges (take place (step_edges c))
      → ((j : ℕ) → j < k → length (step_edges (with_first_orders c (j + 1))) ≤ place) → NoLoopOfEdges (step_edges (with_first_orders c k))
  free_until place zero free h = own_free c
  free_until place (suc k) free h =
      let e : k + 1 ≡ suc k = omega arith in
      free_before c place (suc k) (rw e at (h k (omega arith))) free

  pub closes_steps : (place k : ℕ) → ClosesFirst (step_edges c) place
      → position (λ end. nat_lt place end) (order_ends c) ≡ Some k
      → ClosesSteps c k
  closes_steps place k f is =
      let p = position-Some (λ end. nat_lt place end) (order_ends c) k 0 is in
      let size = ends_size in
      let lt : k < length c.orders = let l = p.0 in omega arith in
      let behind : place < length (step_edges (with_first_orders c (k + 1))) = rw (end_at c k lt) at (ltb-true _ _ p.1) in
      let until : (j : ℕ) → j < k → length (step_edges (with_first_orders c (j + 1))) ≤ place
      = λ j less. rw (end_at c j (omega arith)) at (ltb-false _ _ (p.2 j less)) in
      record {
        within = lt;
        before = steps_free (with_first_orders c k) (first_ordered k) (free_until place k f.before until);
        closed = steps_loop (with_first_orders c (k + 1)) (first_ordered (k + 1))
            (loop_behind c place (k + 1) behind f.closed);
      }

  -- an order that closes a loop is found
  pub never_missed : (place : ℕ) → ClosesFirst (step_edges c) place
      → position (λ end. nat_lt place end) (order_ends c) ≡ None
      → ⊥
  never_missed place f none = on (length c.orders) refl where
    on : (m : ℕ) → length c.orders ≡ m → ⊥
    on zero e =
        let own : step_edges (with_first_orders c 0) ≡ step_edges c = rw e at (all_orders c) in
        let free : NoLoopOfEdges (step_edges c) = rw own at (own_free c) in
        one_way (step_edges c)
        (loop_with_more (take (place + 1) (step_edges c)) (step_edges c) (contains_first (place + 1) (step_edges c))
        f.closed) free
    on (suc j) e =
        let last : j + 1 ≡ length c.orders = omega arith in
        let lt : j < length c.orders = omega arith in
        let size = ends_size in
        let all : length (step_edges (with_first_orders c (j + 1))) ≡ length (step_edges c) = rw last (ap length (all_orders c)) in
        let at = end_at c j lt in
        let w = f.within in
        none_passes (λ end. nat_lt place end) (order_ends c) j 0 none
        (omega arith) (lt-ltb _ _ (omega arith))

  pub first_order : (place : ℕ) → (found : Option ℕ) → ClosesFirst (step_edges c) place
      → found ≡ position (λ end. nat_lt place end) (order_ends c)
      → IsFirstOrder c found
  first_order place None f is = absurd (never_missed place f (sym is))
  first_order place (Some k) f is = closes_steps place k f (sym is)
