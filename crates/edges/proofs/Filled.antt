-- How the rows are filled: an edge more, and all of them.
use Rattle.std.proofs.Common.{arith, ◌≡◌, ◌<◌, ◌≤◌, ◌+◌, ◌-◌, ◌==◌, nat_lt, ℕ, suc, zero, Bool, true, false, List, [], ◌∷◌, ◌++◌, length, take, drop, map, filter, cond, slice_index_or, slice_set, refl, ap, sym, ◌∙◌, ◌≢◌, ◌⊎◌, inl, inr}
use Rattle.std.proofs.lemmas.Bool.{cases_eq, cases_lt, ne_eqb, eq-eqb}
use Rattle.std.proofs.lemmas.List.{get_or-set_same, get_or-set_other, length-set, length-take, length-drop, length-map, map-append, get_or-take, get_or-drop, get_or_append_left, get_or-append-add, ext_get_or, append-nil}
use Rattle.std.proofs.lemmas.List.Elements.{filter_more}
use Rattle.std.proofs.lemmas.List.FromFn.{fill_by_all, get_or-map-range_with_len, length-map-range_with_len}
use Rattle.std.proofs.lemmas.List.Sums.{count_by-le-length, length-filter, sum_by-take-drop}
use Rattle.lemmas.proofs.Counts.{count-cons, count-is, count_agree, count_more}
use Rattle.edges.specs.declared.edge.Edge.{Edge}
use Rattle.edges.specs.declared.side.Side.TheVariants.{Before}
use Rattle.edges.specs.Rows.{edges_at, edge_targets, edge_targets_of}
use Rattle.edges.specs.Inner.Rows.{AreRows, StandInList, all_rows, edges_below, row_of}
use Rattle.edges.proofs.Counted.{at_more, at_same}

-- the edges below a position, and those from it, are those below the next
next_on : (e : Edge) (x : ℕ) (lower here lower_next : Bool) → nat_lt e.before x ≡ lower → (x == e.before) ≡ here → nat_lt e.before (x + 1) ≡ lower_next
    → cond lower 1 zero + cond here 1 0 ≡ cond lower_next 1 0
next_on e x true true next f g h = grind arith
next_on e x true false true f g h = refl
next_on e x true false false f g h = grind arith
next_on e x false true true f g h = refl
next_on e x false true false f g h = grind arith
next_on e x false false true f g h = grind arith
next_on e x false false false f g h = refl

pub below_next : (edges : List Edge) (x : ℕ) → edges_below edges x + edges_at Before edges x ≡ edges_below edges (x + 1)
below_next [] x = refl
below_next (e ∷ es) x =
    let a = count-cons (λ e. nat_lt e.before x) e es in
    let b = count-cons (λ e. x == e.before) e es in
    let c = count-cons (λ e. nat_lt e.before (x + 1)) e es in
    let one = next_on e x (nat_lt e.before x) (x == e.before) (nat_lt e.before (x + 1)) refl refl refl in
    let rest = below_next es x in
    omega arith

pub below_none : (edges : List Edge) → edges_below edges 0 ≡ 0
below_none [] = refl
below_none (e ∷ es) =
    let a = count-is (λ e. nat_lt e.before 0) e es false (grind arith) in
    let rest = below_none es in
    omega arith

pub below_more : (edges : List Edge) (x y : ℕ) → x ≤ y → edges_below edges x ≤ edges_below edges y
below_more edges x y le = count_more (λ e. nat_lt e.before x) (λ e. nat_lt e.before y) (λ e h. grind arith) edges

pub below_few : (edges : List Edge) (x : ℕ) → edges_below edges x ≤ length edges
below_few edges x = count_by-le-length (λ e. nat_lt e.before x) edges

part_few : (edges : List Edge) (i x : ℕ) → edges_at Before (take i edges) x ≤ edges_at Before edges x
part_few edges i x = let s = sum_by-take-drop (λ (e : Edge). cond (x == e.before) 1 0) edges i in omega arith

-- as many as the edges from the position are the targets
pub targets_many : (edges : List Edge) (x : ℕ) → length (edge_targets_of edges x) ≡ edges_at Before edges x
targets_many edges x =
    length-map (filter (λ e. e.before == x) edges) (λ e. e.after) ∙ length-filter (λ e. e.before == x) edges
    ∙ count_agree (λ e. e.before == x) (λ e. x == e.before) (λ e. grind arith) edges

module _ (edges : List Edge) (i : ℕ) (d : Edge) (lt : i < length edges) where
  abbrev edge : Edge
  edge = slice_index_or edges i d

  targets_on : (x : ℕ) (b : Bool) → (edge.before == x) ≡ b
      → edge_targets_of (take (i + 1) edges) x ≡ edge_targets_of (take i edges) x ++ cond b (edge.after ∷ []) []
  targets_on x true e =
      ap (map (λ e. e.after)) (filter_more (λ e. e.before == x) edges i d lt ∙ ap (λ (b : Bool). filter (λ e. e.before == x) (take i edges) ++ cond b (edge ∷ []) []) e)
      ∙ map-append (λ e. e.after) (filter (λ e. e.before == x) (take i edges)) (edge ∷ [])
  targets_on x false e =
      ap (map (λ e. e.after)) (filter_more (λ e. e.before == x) edges i d lt ∙ ap (λ (b : Bool). filter (λ e. e.before == x) (take i edges) ++ cond b (edge ∷ []) []) e
      ∙ append-nil _) ∙ sym (append-nil _)

  module _ (positions : ℕ) (ends targets : List ℕ) (within : edge.before < positions) (rows : AreRows positions edges (take i edges) ends targets) where
    abbrev pub place : ℕ
    place = edges_below edges edge.before + edges_at Before (take i edges) edge.before

    pub is_place : slice_index_or ends edge.before 0 ≡ place
    is_place = rows.ends_at edge.before within

    -- the row of the edge's beginning has room for it
    has_room : place < edges_below edges (edge.before + 1)
    has_room =
        let f = part_few edges (i + 1) edge.before in
        let m = at_more Before edges i d edge.before lt refl in
        let b = below_next edges edge.before in
        omega arith

    pub place_within : place < length targets
    place_within = let r = has_room in let f = below_few edges (edge.before + 1) in let t = rows.room in omega arith

    -- places of other rows are others
    other_place : (x k : ℕ) → x ≢ edge.before → k < edges_at Before (take i edges) x → edges_below edges x + k ≢ place
    other_place x k differ few same =
        let p = part_few edges i x in
        let b = below_next edges x in
        let r = has_room in
        elim (cases_lt x edge.before) [
          | inl less ↦ (let m = below_more edges (x + 1) edge.before (omega arith) in let f : ⊥ = omega arith in f)
          | inr more ↦ (let m = below_more edges (edge.before + 1) x (omega arith) in let f : ⊥ = omega arith in f)
        ]

    module _ (n y : ℕ) (next : n ≡ place + 1) (is : y ≡ edge.after) where
      ends_now : (x : ℕ) → x < positions → (x ≡ edge.before) ⊎ (x ≢ edge.before)
          → slice_index_or (slice_set ends edge.before n) x 0 ≡ edges_below edges x + edges_at Before (take (i + 1) edges) x
      ends_now x low (inl e) =
          let s = get_or-set_same ends edge.before n 0 (let z = rows.size in omega arith) in
          let m = at_more Before edges i d edge.before lt refl in
          rw e (omega arith)
      ends_now x low (inr differ) =
          let s = get_or-set_other ends edge.before x n 0 differ in
          let m = at_same Before edges i d x lt differ in
          let o = rows.ends_at x low in
          omega arith

      elsewhere : (x k : ℕ) → x < positions → x ≢ edge.before → k < edges_at Before (take (i + 1) edges) x
          → slice_index_or (slice_set targets place y) (edges_below edges x + k) 0 ≡ slice_index_or (edge_targets_of (take (i + 1) edges) x) k 0
      elsewhere x k low differ few =
          let m = at_same Before edges i d x lt differ in
          let none : edge_targets_of (take (i + 1) edges) x ≡ edge_targets_of (take i edges) x
          = targets_on x false (ne_eqb edge.before x (λ e. differ (sym e))) ∙ append-nil _ in
          get_or-set_other targets place (edges_below edges x + k) y 0 (other_place x k differ (omega arith))
          ∙ rows.filled x k low (omega arith) ∙ ap (λ (xs : List ℕ). slice_index_or xs k 0) (sym none)

      in_row : (k : ℕ) → k < edges_at Before (take (i + 1) edges) edge.before → (k ≡ edges_at Before (take i edges) edge.before) ⊎ (k ≢ edges_at Before (take i edges) edge.before)
          → slice_index_or (slice_set targets place y) (edges_below edges edge.before + k) 0
          ≡ slice_index_or (edge_targets_of (take (i + 1) edges) edge.before) k 0
      in_row k few (inl last) =
          let more = targets_on edge.before true (eq-eqb edge.before edge.before refl) in
          let many = targets_many (take i edges) edge.before in
          let at : k ≡ length (edge_targets_of (take i edges) edge.before) + 0 = omega arith in
          let read = get_or-append-add (edge_targets_of (take i edges) edge.before) (edge.after ∷ []) 0 0 in
          let set : slice_index_or (slice_set targets place y) (edges_below edges edge.before + k) 0 ≡ edge.after
          = rw last (get_or-set_same targets place y 0 place_within ∙ is) in
          let got : slice_index_or (edge_targets_of (take (i + 1) edges) edge.before) k 0 ≡ edge.after = rw (more, at) read in
          set ∙ sym got
      in_row k few (inr before) =
          let more = targets_on edge.before true (eq-eqb edge.before edge.before refl) in
          let many = targets_many (take i edges) edge.before in
          let m = at_more Before edges i d edge.before lt refl in
          let low : k < edges_at Before (take i edges) edge.before = omega arith in
          get_or-set_other targets place (edges_below edges edge.before + k) y 0 (λ e. before (omega arith))
          ∙ rows.filled edge.before k within low
          ∙ sym (ap (λ (xs : List ℕ). slice_index_or xs k 0) more ∙ get_or_append_left (edge_targets_of (take i edges) edge.before) (edge.after ∷ []) 0 k (omega arith))

      filled_now : (x k : ℕ) → x < positions → (x ≡ edge.before) ⊎ (x ≢ edge.before) → k < edges_at Before (take (i + 1) edges) x
          → slice_index_or (slice_set targets place y) (edges_below edges x + k) 0 ≡ slice_index_or (edge_targets_of (take (i + 1) edges) x) k 0
      filled_now x k low (inl e) few =
          rw e (in_row k (rw e at few) (cases_eq k (edges_at Before (take i edges) edge.before)))
      filled_now x k low (inr differ) few = elsewhere x k low differ few

      pub one_filled : AreRows positions edges (take (i + 1) edges) (slice_set ends edge.before n) (slice_set targets place y)
      one_filled = record {
        size = length-set ends edge.before n ∙ rows.size;
        room = length-set targets place y ∙ rows.room;
        ends_at = λ x low. ends_now x low (cases_eq x edge.before);
        filled = λ x k low few. filled_now x k low (cases_eq x edge.before) few;
      }

-- of the first positions, where their rows begin, and of the others, how many edges come from them
pub record Begins (positions : ℕ) (edges : List Edge) (position below : ℕ) (begins : List ℕ) : Type 0 where
  pub size : length begins ≡ positions
  pub before : below ≡ edges_below edges position
  pub done : (x : ℕ) → x < position → slice_index_or begins x 0 ≡ edges_below edges x
  pub rest : (x : ℕ) → position ≤ x → x < positions → slice_index_or begins x 0 ≡ edges_at Before edges x

pub begins_first : (positions : ℕ) (edges : List Edge) (counts : List ℕ) → length counts ≡ positions
    → ((x : ℕ) → x < positions → slice_index_or counts x 0 ≡ edges_at Before edges x) → Begins positions edges 0 0 counts
begins_first positions edges counts size counted = record {
  size = size;
  before = sym (below_none edges);
  done = λ x low. absurd (let f : ⊥ = omega arith in f);
  rest = λ x from low. counted x low;
}

module _ (positions : ℕ) (edges : List Edge) (position below : ℕ) (begins : List ℕ) (b : Begins positions edges position below begins)
    (low : position < positions) (n : ℕ) (is : n ≡ slice_index_or begins position 0) where
  next_below : below + n ≡ edges_below edges (position + 1)
  next_below = let r = b.rest position (omega arith) low in let m = below_next edges position in let a = b.before in omega arith

  pub below_fits : below + n ≤ length edges
  below_fits = let m = next_below in let f = below_few edges (position + 1) in omega arith

  done_now : (x : ℕ) → x < position + 1 → (x ≡ position) ⊎ (x ≢ position) → slice_index_or (slice_set begins position below) x 0 ≡ edges_below edges x
  done_now x less (inl e) = rw e (get_or-set_same begins position below 0 (let s = b.size in omega arith) ∙ b.before)
  done_now x less (inr differ) = get_or-set_other begins position x below 0 differ ∙ b.done x (omega arith)

  pub begins_next : Begins positions edges (position + 1) (below + n) (slice_set begins position below)
  begins_next = record {
    size = length-set begins position below ∙ b.size;
    before = next_below;
    done = λ x less. done_now x less (cases_eq x position);
    rest = λ x from within. get_or-set_other begins position x below 0 (λ e. omega arith) ∙ b.rest x (omega arith) within;
  }

module _ (positions : ℕ) (edges : List Edge) (ends targets : List ℕ) (rows : AreRows positions edges edges ends targets) (x : ℕ) (within : x < positions) where
  pub row_end : slice_index_or ends x 0 ≡ edges_below edges (x + 1)
  row_end = rows.ends_at x within ∙ below_next edges x

  pub row_begin : slice_index_or (0 ∷ ends) x 0 ≡ edges_below edges x
  row_begin = on x within where
    on : (x : ℕ) → x < positions → slice_index_or (0 ∷ ends) x 0 ≡ edges_below edges x
    on zero low = sym (below_none edges)
    on (suc x) low = rows.ends_at x (omega arith) ∙ below_next edges x ∙ ap (edges_below edges) (let e : x + 1 ≡ suc x = omega arith in e)

  pub row_order : slice_index_or (0 ∷ ends) x 0 ≤ slice_index_or ends x 0
  row_order = let b = row_begin in let e = row_end in let m = below_more edges x (x + 1) (omega arith) in omega arith

  pub row_room : slice_index_or ends x 0 ≤ length targets
  row_room = let e = row_end in let f = below_few edges (x + 1) in let r = rows.room in omega arith

  row_long : length (row_of ends targets x) ≡ length (edge_targets_of edges x)
  row_long =
      let n = below_next edges x in
      let b = row_begin in
      let e = row_end in
      let many = targets_many edges x in
      let room = row_room in
      let cut = length-drop (slice_index_or (0 ∷ ends) x 0) targets in
      let front = length-take (slice_index_or ends x 0 - slice_index_or (0 ∷ ends) x 0) (drop (slice_index_or (0 ∷ ends) x 0) targets) in
      omega arith

  row_at : (k : ℕ) → k < length (row_of ends targets x) → slice_index_or (row_of ends targets x) k 0 ≡ slice_index_or (edge_targets_of edges x) k 0
  row_at k lt =
      let n = below_next edges x in
      let b = row_begin in
      let e = row_end in
      let long = row_long in
      let many = targets_many edges x in
      get_or-take (slice_index_or ends x 0 - slice_index_or (0 ∷ ends) x 0) (drop (slice_index_or (0 ∷ ends) x 0) targets) k 0 (omega arith)
      ∙ get_or-drop (slice_index_or (0 ∷ ends) x 0) targets k 0
      ∙ ap (λ j. slice_index_or targets (j + k) 0) b
      ∙ rows.filled x k within (omega arith)

  -- the row of a position is where its edges lead
  pub row_is : row_of ends targets x ≡ edge_targets_of edges x
  row_is = ext_get_or 0 (row_of ends targets x) (edge_targets_of edges x) row_long row_at

-- there is a row for each end, and each is where it stands
pub rows_many : (ends targets : List ℕ) → length (all_rows ends targets) ≡ length ends
rows_many ends targets = length-map-range_with_len (row_of ends targets) 0 (length ends)

pub row_there : (ends targets : List ℕ) (x : ℕ) → x < length ends → slice_index_or (all_rows ends targets) x [] ≡ row_of ends targets x
row_there ends targets x low = get_or-map-range_with_len (row_of ends targets) 0 (length ends) x x [] low (omega arith)

module _ (positions : ℕ) (edges : List Edge) (ends targets : List ℕ) (rows : AreRows positions edges edges ends targets) where
  pub rows_stand : StandInList ends targets
  rows_stand = record {
    order = λ x low. row_order positions edges ends targets rows x (let s = rows.size in omega arith);
    room = λ x low. row_room positions edges ends targets rows x (let s = rows.size in omega arith);
  }

  -- the rows are where the edges from each position lead
  pub rows_are : all_rows ends targets ≡ edge_targets positions edges
  rows_are =
      fill_by_all (edge_targets_of edges) (all_rows ends targets) positions []
      (rows_many ends targets ∙ rows.size)
      (λ x low. row_there ends targets x (let s = rows.size in omega arith) ∙ row_is positions edges ends targets rows x low)

-- there is a list for each position, and it is where the edges from it lead
pub target_lists : (positions : ℕ) (edges : List Edge) → length (edge_targets positions edges) ≡ positions
target_lists positions edges = length-map-range_with_len (edge_targets_of edges) 0 positions

pub targets_at : (positions : ℕ) (edges : List Edge) (x : ℕ) → x < positions → slice_index_or (edge_targets positions edges) x [] ≡ edge_targets_of edges x
targets_at positions edges x low = get_or-map-range_with_len (edge_targets_of edges) 0 positions x x [] low (omega arith)
