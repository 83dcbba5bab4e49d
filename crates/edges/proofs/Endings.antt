-- What it means that all positions were taken, and that no more can be.
use Rattle.std.proofs.Common.{arith, ◌≡◌, ◌<◌, ◌≤◌, ◌==◌, ◌||◌, not, ℕ, Bool, true, false, List, [], ◌∷◌, length, take, slice_index_or, refl, sym, ◌∙◌, Any}
use Rattle.std.specs.List.{IsDistinct, list_any, range_with_len}
use Rattle.std.proofs.lemmas.Bool.{eqb-true, eqb-false, ne_eqb, both_ways, not-true}
use Rattle.std.proofs.lemmas.List.{take_all}
use Rattle.std.proofs.lemmas.List.Folds.{Any-from_list_any, list_any_at}
use Rattle.std.proofs.lemmas.List.FromFn.{length-range_with_len, get_or-range_with_len}
use Rattle.std.proofs.lemmas.Map.Keys.{IsDistinct-cons, IsDistinct-from_apart}
use Rattle.std.proofs.lemmas.Map.Made.{length-le_from_is_member}
use Rattle.std.proofs.lemmas.Map.Steps.{length-le_from_distinct_below}
use Rattle.lemmas.proofs.Booleans.{sooner, later}
use Rattle.lemmas.proofs.Counts.{count_some}
use Rattle.edges.specs.declared.edge.Edge.{Edge}
use Rattle.edges.specs.Chains.{linked, link_then, one_link}
use Rattle.edges.specs.Loops.{Leads, EndsWithin, HasLoop, HasNoLoop}
use Rattle.edges.specs.Inner.Clearing.{Clears, edges_beyond, AreCleared, IsBackward}
use Rattle.edges.specs.Sources.{is_in_list}
use Rattle.edges.proofs.Beginnings.{of_range}
use Rattle.edges.proofs.Counts.{beyond}
use Rattle.edges.proofs.Members.{equal_laws, none_all}
use Rattle.edges.proofs.Rising.{no_loop}
use Rattle.edges.proofs.Walks.{GoesOn, loop_of_set}

pub begins_within : (positions : ℕ) (edges : List Edge) → EndsWithin positions edges → (x y : ℕ) → Leads edges x y → x < positions
begins_within positions edges ends _ _ (one_link _ _ (linked e c)) = let w = ends e c in omega arith
begins_within positions edges ends _ _ (link_then _ _ y (linked e c) _ rest) = let w = ends e c in omega arith

distinct_range : (n : ℕ) → IsDistinct ◌==◌ (range_with_len 0 n)
distinct_range n = IsDistinct-from_apart ◌==◌ (range_with_len 0 n) (λ i j d before within.
    let l = length-range_with_len 0 n in
    let g = get_or-range_with_len 0 n i d (omega arith) in
    let h = get_or-range_with_len 0 n j d (omega arith) in
    ne_eqb _ _ (λ e. let f : ⊥ = omega arith in f))

pub one_way : (edges : List Edge) → HasLoop edges → HasNoLoop edges → ⊥
one_way edges l n = n l.at l.leads

module _ (positions : ℕ) (edges : List Edge) (ends : EndsWithin positions edges) (taken : ℕ) (waiting cleared : List ℕ)
    (c : Clears positions edges taken [] waiting cleared) where
  -- all were taken
  too_many : (x : ℕ) → x < positions → positions ≤ taken → is_in_list cleared x ≡ false → ⊥
  too_many x lt all h =
      let n = length-le_from_distinct_below (x ∷ cleared) positions (IsDistinct-cons ◌==◌ x cleared (none_all x cleared h) c.distinct)
      (λ y. below_on y (y == x) refl) in
      let e = c.enough in
      omega arith
    where
      below_on : (y : ℕ) (same : Bool) → (y == x) ≡ same → same || is_in_list cleared y ≡ true → y < positions
      below_on y true at g = let back : y ≡ x = eqb-true y x at in rw back lt
      below_on y false at g = c.below y g

  all_cleared : positions ≤ taken → (x : ℕ) → x < positions → is_in_list cleared x ≡ true
  all_cleared all x lt = on (is_in_list cleared x) refl where
    on : (b : Bool) → is_in_list cleared x ≡ b → is_in_list cleared x ≡ true
    on true h = h
    on false h = absurd (too_many x lt all h)

  no_more : length cleared ≤ positions
  no_more = length-le_from_distinct_below cleared positions c.distinct c.below

  pub few_cleared : taken < length cleared → taken < positions
  few_cleared lt = let n = no_more in omega arith

  pub backward_once_taken : positions ≤ taken → IsBackward positions edges cleared
  backward_once_taken all = record {
    size = let n = no_more in let e = c.enough in omega arith;
    distinct = c.distinct;
    below = c.below;
    all = all_cleared all;
    back = c.back;
  }

  pub free_once_taken : positions ≤ taken → HasNoLoop edges
  free_once_taken all x led = no_loop edges cleared c.back c.distinct x (all_cleared all x (begins_within positions edges ends x x led)) led

  -- none that is clear is left to take
  record Stays (x : ℕ) : Type 0 where
    pub within : x < positions
    pub waits : is_in_list cleared x ≡ false

  module _ (stuck : length cleared ≤ taken) where
    same_front : take taken cleared ≡ cleared
    same_front = take_all taken cleared stuck

    on_from : (x : ℕ) → Any (λ e. beyond x (is_in_list (take taken cleared)) e ≡ true) edges → GoesOn edges Stays x
    on_from x (k, e, lt, at, h) = record {
      edge = e;
      among = (k, lt, at);
      from = sym (eqb-true x e.before (sooner _ (not (is_in_list (take taken cleared) e.after)) h));
      to = record {
        within = (ends e (k, lt, at)).1;
        waits = rw same_front at (not-true _ (later (x == e.before) (not (is_in_list (take taken cleared) e.after)) h));
      };
    }

    some_beyond : (x : ℕ) → Stays x → 0 < edges_beyond edges (take taken cleared) x
    some_beyond x s =
        let r : (slice_index_or waiting x 0 == 0) ≡ false = sym (c.ready x s.within) ∙ s.waits in
        let d = eqb-false _ 0 r in
        let n = c.counted x s.within in
        omega arith

    goes_on : (x : ℕ) → Stays x → GoesOn edges Stays x
    goes_on x s =
        on_from x (Any-from_list_any (beyond x (is_in_list (take taken cleared))) edges
        (count_some (beyond x (is_in_list (take taken cleared))) edges (some_beyond x s)))

    one_stays : Any (λ x. not (is_in_list cleared x) ≡ true) (range_with_len 0 positions) → HasLoop edges
    one_stays (k, x, lt, at, h) =
        loop_of_set positions edges Stays (λ x s. s.within) goes_on x (record {
          within = let l = length-range_with_len 0 positions in let g = get_or-range_with_len 0 positions k x (omega arith) in omega arith;
          waits = not-true _ h;
        })

    -- were none left, the clear ones would be as many as the positions
    has_each : list_any (λ x. not (is_in_list cleared x)) (range_with_len 0 positions) ≡ false → (x : ℕ)
        → is_in_list (range_with_len 0 positions) x ≡ true → is_in_list cleared x ≡ true
    has_each none x h = on (is_in_list cleared x) refl where
      on : (b : Bool) → is_in_list cleared x ≡ b → is_in_list cleared x ≡ true
      on true g = g
      on false g =
          let r = of_range 0 positions x h in
          let l = length-range_with_len 0 positions in
          let at : slice_index_or (range_with_len 0 positions) x 0 ≡ x
          = get_or-range_with_len 0 positions x 0 (omega arith) ∙ omega arith in
          absurd (both_ways _ none
          (list_any_at (λ x. not (is_in_list cleared x)) (range_with_len 0 positions) x 0 (omega arith) (rw (at, g) refl)))

    pub loop_once_stuck : length cleared < positions → HasLoop edges
    loop_once_stuck few = on (list_any (λ x. not (is_in_list cleared x)) (range_with_len 0 positions)) refl where
      on : (b : Bool) → list_any (λ x. not (is_in_list cleared x)) (range_with_len 0 positions) ≡ b → HasLoop edges
      on true h = one_stays (Any-from_list_any (λ x. not (is_in_list cleared x)) (range_with_len 0 positions) h)
      on false h =
          let n = length-le_from_is_member equal_laws (range_with_len 0 positions) cleared (distinct_range positions) (has_each h) in
          let l = length-range_with_len 0 positions in
          absurd (let f : ⊥ = omega arith in f)

    pub cleared_once_stuck : AreCleared positions edges cleared
    cleared_once_stuck = record {
      some = loop_once_stuck;
      none = λ all. free_once_taken (omega arith);
      all = λ all. backward_once_taken (omega arith);
    }
