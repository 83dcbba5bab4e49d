-- Walks back through gates.
use Rattle.std.proofs.Common.{arith, ◌≡◌, ◌≢◌, ◌<◌, ◌≤◌, ◌+◌, ◌-◌, ◌==◌, ◌&&◌, ◌||◌, ◌⊎◌, inl, inr, ℕ, suc, zero, Bool, true, false, cond, List, [], ◌∷◌, ◌++◌, length, take, filter, get_or, replicate, refl, sym, ap, subst, ◌∙◌, map-id, append-nil}
use Rattle.std.specs.Prelude.{Any, Contains, slice_set}
use Rattle.std.specs.List.{list_any, range_with_len}
use Rattle.std.proofs.Math.Bool.{or-false, or-true, or_assoc}
use Rattle.std.proofs.lemmas.Bool.{cases_eq, ne_eqb, or_cases, or_left, or_right}
use Rattle.std.proofs.lemmas.List.{get_or_default, get_or-set_same, get_or-set_other}
use Rattle.std.proofs.lemmas.List.Folds.{list_any_more, Any-from_list_any}
use Rattle.std.proofs.lemmas.List.FromFn.{filter_of_map_range_with_len_more}
use Rattle.lemmas.proofs.Booleans.{sooner, later, same_test}
use Rattle.lemmas.proofs.Searches.{passes_by}
use Rattle.lemmas.proofs.Ranges.{filter-alike}
use Rattle.edges.specs.declared.edge.Edge.{Edge}
use Rattle.cluster_types.specs.declared.graph_edges.Edges.{Edges}
use Rattle.edges.specs.Chains.{link_then, linked, one_link}
use Rattle.cluster_types.specs.Graphs.{GraphOf, IsGraph, LeadUpward, LeadsByGates, is_before, is_action_number}
use Rattle.edges.specs.Loops.{EndsWithin}
use Rattle.listed.specs.Flags.{is_marked}
use Rattle.cluster_types.specs.Inner.Walks.{AreMarked, joins}
use Rattle.cluster_types.proofs.Paths.{before-from_computed, before-computed}

none_marked : (n x : ℕ) → is_marked (replicate n false) x ≡ false
none_marked zero x = refl
none_marked (suc n) zero = refl
none_marked (suc n) (suc x) = none_marked n x

pub nothing_marked : (n : ℕ) (marks : List Bool) → marks ≡ replicate n false → (x : ℕ) → is_marked marks x ≡ false
nothing_marked n marks e x = rw e (none_marked n x)

pub is_at : (marks : List Bool) (x : ℕ) (b : Bool) → x < length marks → b ≡ get_or marks x b → b ≡ true → is_marked marks x ≡ true
is_at marks x b lt e h = get_or_default marks x false b lt ∙ (sym e ∙ h)

pub ends_in : (edges others : List Edge) (n m : ℕ) → edges ≡ others → n ≡ m → EndsWithin m others → EndsWithin n edges
ends_in edges others n m e f h = rw (e, f) h

-- one edge more
other_end : (e : Edge) (x y : ℕ) → e.after ≢ y → joins x y e ≡ false
other_end e x y h = let f : (e.after == y) ≡ false = ne_eqb _ _ h in rw f refl

module _ (edges : List Edge) (i : ℕ) (e d : Edge) (lt : i < length edges) (at : e ≡ get_or edges i d) (y : ℕ) (old marks : List Bool)
    (so_far : (x : ℕ) → is_marked marks x ≡ (is_marked old x || list_any (joins x y) (take i edges))) where
  any_more : (x : ℕ) → list_any (joins x y) (take (i + 1) edges) ≡ (list_any (joins x y) (take i edges) || joins x y e)
  any_more x = list_any_more (joins x y) edges i d lt ∙ ap (λ f. list_any (joins x y) (take i edges) || joins x y f) (sym at)

  pub marked_no_more : e.after ≢ y → (x : ℕ) → is_marked marks x ≡ (is_marked old x || list_any (joins x y) (take (i + 1) edges))
  marked_no_more other x =
      so_far x ∙ ap (λ b. is_marked old x || b) (sym (any_more x ∙ (ap (λ b. list_any (joins x y) (take i edges) || b) (other_end e x y other) ∙ or-false _)))

  set_at : e.after ≡ y → e.before < length marks → (x : ℕ) → (x ≡ e.before) ⊎ (x ≢ e.before)
      → is_marked (slice_set marks e.before true) x ≡ (is_marked marks x || joins x y e)
  set_at here within x (inl same) =
      let f : (e.after == y) ≡ true = grind arith in
      let g : (e.before == x) ≡ true = grind arith in
      rw (f, g) (ap (λ k. is_marked (slice_set marks e.before true) k) same ∙ (get_or-set_same marks e.before true false within ∙ sym (or-true (is_marked marks x))))
  set_at here within x (inr differ) =
      let g : (e.before == x) ≡ false = ne_eqb _ _ (λ s. differ (sym s)) in
      rw g (get_or-set_other marks e.before x true false differ ∙ sym (joined_not (is_marked marks x) (e.after == y)))
    where
      joined_not : (a b : Bool) → (a || (b && false)) ≡ a
      joined_not true b = refl
      joined_not false true = refl
      joined_not false false = refl

  pub marked_more : e.after ≡ y → e.before < length marks → (x : ℕ)
      → is_marked (slice_set marks e.before true) x ≡ (is_marked old x || list_any (joins x y) (take (i + 1) edges))
  marked_more here within x =
      set_at here within x (cases_eq x e.before)
      ∙ (ap (λ b. b || joins x y e) (so_far x) ∙ (or_assoc (is_marked old x) _ _ ∙ ap (λ b. is_marked old x || b) (sym (any_more x))))

-- one position joins another by an edge of the list
of_any : (edges : List Edge) (x y : ℕ) → Any (λ e. joins x y e ≡ true) edges → (e : Edge) × Contains edges e × (e.after ≡ y) × (e.before ≡ x)
of_any edges x y (k, e, lt, at, f) =
    let a : (e.after == y) ≡ true = sooner (e.after == y) (e.before == x) f in
    let b : (e.before == x) ≡ true = later (e.after == y) (e.before == x) f in
    (e, (k, lt, at), grind arith, grind arith)

pub by_edge : (edges : List Edge) (x y : ℕ) → list_any (joins x y) edges ≡ true → (e : Edge) × Contains edges e × (e.after ≡ y) × (e.before ≡ x)
by_edge edges x y h = of_any edges x y (Any-from_list_any (joins x y) edges h)

pub joined : (edges : List Edge) (e : Edge) (y : ℕ) → Contains edges e → e.after ≡ y → list_any (joins e.before y) edges ≡ true
joined edges e y c h =
    let a : (e.after == y) ≡ true = grind arith in
    let b : (e.before == e.before) ≡ true = grind arith in
    passes_by (joins e.before y) edges e c (rw (a, b) refl)

module _ (actions positions : ℕ) (edges : List Edge) (y : ℕ) (ends : EndsWithin positions edges) (upward : LeadUpward actions edges) where
  straight : (x : ℕ) → (e : Edge) × Contains edges e × (e.after ≡ y) × (e.before ≡ x) → LeadsByGates actions edges x y
  straight x (e, c, a, b) = rw (← a, ← b) (one_link _ _ (linked e c))

  pub at_first : (old marks : List Bool) → ((x : ℕ) → is_marked old x ≡ false)
      → ((x : ℕ) → is_marked marks x ≡ (is_marked old x || list_any (joins x y) edges)) → AreMarked actions edges y positions marks
  at_first old marks none made = record {
    leading = λ x h. straight x (by_edge edges x y (sym (made x ∙ ap (λ b. b || list_any (joins x y) edges) (none x)) ∙ h));
    direct = λ e c h. made e.before ∙ or_right _ _ (joined edges e y c h);
    through = λ e c gate above h. absurd (let w = ends e c in let f : ⊥ = omega arith in f);
  }

  module _ (lowest : ℕ) (old : List Bool) (is_gate : actions ≤ lowest) (before : AreMarked actions edges y (lowest + 1) old) where
    pub not_marked : is_marked old lowest ≡ false → AreMarked actions edges y lowest old
    not_marked h = record {
      leading = before.leading;
      direct = before.direct;
      through = λ e c gate above f. at_gate e c gate above f (cases_eq e.after lowest);
    }
      where
        at_gate : (e : Edge) → Contains edges e → actions ≤ e.after → lowest ≤ e.after → is_marked old e.after ≡ true → (e.after ≡ lowest) ⊎ (e.after ≢ lowest)
            → is_marked old e.before ≡ true
        at_gate e c gate above f (inl same) = let g : is_marked old e.after ≡ false = rw same h in cc
        at_gate e c gate above f (inr other) = before.through e c gate (omega arith) f

    around : is_marked old lowest ≡ true → (x : ℕ) → (e : Edge) × Contains edges e × (e.after ≡ lowest) × (e.before ≡ x) → LeadsByGates actions edges x y
    around h x (e, c, a, b) = rw (← b) (link_then _ _ y (linked e c) (omega arith) (rw a (before.leading lowest h)))

    module _ (marks : List Bool) (h : is_marked old lowest ≡ true)
        (made : (x : ℕ) → is_marked marks x ≡ (is_marked old x || list_any (joins x lowest) edges)) where
      kept : (x : ℕ) → is_marked old x ≡ true → is_marked marks x ≡ true
      kept x f = made x ∙ or_left _ _ f

      was_marked : (e : Edge) → lowest ≤ e.after → is_marked marks e.after ≡ true → is_marked old e.after ≡ true
      was_marked e above f = of (or_cases (is_marked old e.after) _ (sym (made e.after) ∙ f))
        where
          too_high : (d : Edge) × Contains edges d × (d.after ≡ lowest) × (d.before ≡ e.after) → ⊥
          too_high (d, c, a, b) = let up = upward d c (omega arith) in omega arith

          of : (is_marked old e.after ≡ true) ⊎ (list_any (joins e.after lowest) edges ≡ true) → is_marked old e.after ≡ true
          of (inl g) = g
          of (inr g) = absurd (too_high (by_edge edges e.after lowest g))

      leads_on : (x : ℕ) → (is_marked old x ≡ true) ⊎ (list_any (joins x lowest) edges ≡ true) → LeadsByGates actions edges x y
      leads_on x (inl f) = before.leading x f
      leads_on x (inr f) = around h x (by_edge edges x lowest f)

      goes_through : (e : Edge) → Contains edges e → actions ≤ e.after → lowest ≤ e.after → is_marked marks e.after ≡ true → (e.after ≡ lowest) ⊎ (e.after ≢ lowest)
          → is_marked marks e.before ≡ true
      goes_through e c gate above f (inl same) = made e.before ∙ or_right _ _ (joined edges e lowest c same)
      goes_through e c gate above f (inr other) = kept e.before (before.through e c gate (omega arith) (was_marked e above f))

      pub one_gate_more : AreMarked actions edges y lowest marks
      one_gate_more = record {
        leading = λ x f. leads_on x (or_cases _ _ (sym (made x) ∙ f));
        direct = λ e c a. kept e.before (before.direct e c a);
        through = λ e c gate above f. goes_through e c gate above f (cases_eq e.after lowest);
      }

-- once all gates are done, all that lead to y are marked
pub all_marked : (actions : ℕ) (edges : List Edge) (x y : ℕ) (marks : List Bool) → AreMarked actions edges y actions marks → LeadsByGates actions edges x y
    → is_marked marks x ≡ true
all_marked actions edges _ _ marks made (one_link _ _ (linked e c)) = made.direct e c refl
all_marked actions edges _ _ marks made (link_then _ _ y (linked e c) gate rest) = made.through e c gate gate (all_marked actions edges e.after y marks made rest)

-- the numbers of the actions are those from 1 to their count
pub numbered : (g : GraphOf) (k : ℕ) → 0 < k → k ≤ length g.actions → is_action_number g k ≡ true
numbered g k low high = grind arith

module _ (g : GraphOf) (graph : IsGraph g) (y : ℕ) (from_one : 0 < y) (to_count : y ≤ length g.actions) (marks : List Bool)
    (made : AreMarked (length g.actions) g.edges.list (y - 1) (length g.actions) marks) where
  pub marked_is_before : (k : ℕ) → 0 < k → k ≤ length g.actions → is_marked marks (k - 1) ≡ is_before g k y
  marked_is_before k low high =
      same_test _ _
      (λ h. before-computed g k y graph (record { earlier = numbered g k low high; later = numbered g y from_one to_count; leads = made.leading (k - 1) h }))
      (λ h. all_marked (length g.actions) g.edges.list (k - 1) (y - 1) marks made (before-from_computed g k y h).leads)

befores_are : (g : GraphOf) (graph : IsGraph g) (y : ℕ) (from_one : 0 < y) (to_count : y ≤ length g.actions) (marks : List Bool)
    → AreMarked (length g.actions) g.edges.list (y - 1) (length g.actions) marks
    → filter (λ k. is_marked marks (k - 1)) (range_with_len 1 (length g.actions)) ≡ filter (λ k. is_before g k y) (range_with_len 1 (length g.actions))
befores_are g graph y from_one to_count marks made =
    filter-alike (λ k. is_marked marks (k - 1)) (λ k. is_before g k y) 1 (length g.actions)
    (λ k low high. marked_is_before g graph y from_one to_count marks made k (omega arith) (omega arith))

-- one action more, by its mark
module _ (marks : List Bool) (place : ℕ) (numbers : List ℕ) (so_far : numbers ≡ filter (λ k. is_marked marks (k - 1)) (range_with_len 1 place)) where
  abbrev test : ℕ → Bool
  test k = is_marked marks (k - 1)

  one_more : filter test (range_with_len 1 (place + 1)) ≡ filter test (range_with_len 1 place) ++ cond (test (place + 1)) ((place + 1) ∷ []) []
  one_more =
      ap (filter test) (sym (map-id (range_with_len 1 (place + 1))))
      ∙ (filter_of_map_range_with_len_more test (λ k. k) 1 place (place + 1) (omega arith)
      ∙ ap (λ xs. filter test xs ++ cond (test (place + 1)) ((place + 1) ∷ []) []) (map-id (range_with_len 1 place)))

  here : (b : Bool) → is_marked marks place ≡ b → test (place + 1) ≡ b
  here b h = let e : place + 1 - 1 ≡ place = omega arith in rw e h

  pub with_marked : is_marked marks place ≡ true → numbers ++ (place + 1) ∷ [] ≡ filter (λ k. is_marked marks (k - 1)) (range_with_len 1 (place + 1))
  with_marked h = ap (λ xs. xs ++ (place + 1) ∷ []) so_far ∙ sym (one_more ∙ ap (λ b. filter test (range_with_len 1 place) ++ cond b ((place + 1) ∷ []) []) (here true h))

  pub without : is_marked marks place ≡ false → numbers ≡ filter (λ k. is_marked marks (k - 1)) (range_with_len 1 (place + 1))
  without h = so_far ∙ sym (one_more ∙ (ap (λ b. filter test (range_with_len 1 place) ++ cond b ((place + 1) ∷ []) []) (here false h) ∙ append-nil _))

pub ends_of_graph : (g : GraphOf) (edges : Edges) → edges ≡ g.edges → IsGraph g → EndsWithin edges.positions edges.list
ends_of_graph g edges e graph = rw e graph.within

pub are_befores : (g : GraphOf) (edges : Edges) (actions y : ℕ) (marks read : List Bool) (numbers : List ℕ) → IsGraph g → edges ≡ g.edges
    → actions ≡ length g.actions → 0 < y → y ≤ length g.actions → AreMarked actions edges.list (y - 1) actions marks → read ≡ marks
    → numbers ≡ filter (λ k. is_marked read (k - 1)) (range_with_len 1 actions)
    → numbers ≡ filter (λ k. is_before g k y) (range_with_len 1 (length g.actions))
are_befores g edges actions y marks read numbers graph e n low high made same found =
    found ∙ (rw (same, n) (befores_are g graph y low high marks (subst (λ (es : Edges). AreMarked (length g.actions) es.list (y - 1) (length g.actions) marks) e
    (subst (λ k. AreMarked k edges.list (y - 1) k marks) n made))))
