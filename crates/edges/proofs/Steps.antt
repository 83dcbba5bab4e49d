-- What each step keeps of the positions that are clear.
use Rattle.std.proofs.Common.{arith, ◌≡◌, ◌<◌, ◌≤◌, ◌+◌, ◌-◌, ◌==◌, ◌||◌, not, ℕ, Bool, true, false, if◌then◌else◌, List, [], ◌∷◌, ◌++◌, length, take, count_by, slice_index_or, refl, sym, ◌∙◌, ◌≢◌, ◌⊎◌, inl, inr, Contains, Any}
use Rattle.std.proofs.lemmas.Bool.{cases_eq, cases_lt, or_cases, eqb-true, eqb-false, eq-eqb, ne_eqb}
use Rattle.std.proofs.lemmas.List.{get_or-set_same, get_or-set_other, get_or_past, get_or_append_left, get_or_push, length-set, take-append-le, take_all, take_more, length_push}
use Rattle.std.proofs.lemmas.List.Folds.{Any-from_list_any}
use Rattle.std.proofs.lemmas.Map.Keys.{IsDistinct-push}
use Rattle.std.proofs.Math.Bool.{or-false}
use Rattle.lemmas.proofs.Booleans.{sooner, unless}
use Rattle.lemmas.proofs.Counts.{count-is, count_none, count_some}
use Rattle.edges.specs.declared.edge.Edge.{Edge}
use Rattle.edges.specs.Loops.{EndsWithin}
use Rattle.edges.specs.Inner.Clearing.{Clears, LeadsBack, cleared_then, edges_beyond}
use Rattle.edges.specs.Rows.{less_one}
use Rattle.edges.specs.Sources.{is_in_list, sources_of}
use Rattle.edges.proofs.Counts.{beyond, beyond_more}
use Rattle.edges.proofs.Members.{equal_laws, has_push, has_front, not_before}

-- A position is taken: the edges into it are to be counted off.

pub after_take : (cleared : List ℕ) (taken a : ℕ) → taken < length cleared
    → is_in_list (take (taken + 1) cleared) a ≡ (is_in_list (take taken cleared) a || (a == slice_index_or cleared taken 0))
after_take cleared taken a lt = rw (take_more cleared taken 0 lt) (has_push (take taken cleared) (slice_index_or cleared taken 0) a)

pub taken_next : (positions : ℕ) (edges : List Edge) (taken : ℕ) (waiting cleared : List ℕ) → taken < length cleared
    → Clears positions edges taken [] waiting cleared
    → Clears positions edges (taken + 1) (sources_of edges (slice_index_or cleared taken 0)) waiting cleared
taken_next positions edges taken waiting cleared lt c = record {
  enough = omega arith;
  size = c.size;
  distinct = c.distinct;
  below = c.below;
  counted = λ x within.
      let old = c.counted x within in
      let more = beyond_more x (slice_index_or cleared taken 0) (is_in_list (take taken cleared)) (is_in_list (take (taken + 1) cleared))
      (λ a. after_take cleared taken a lt) (not_before cleared taken c.distinct lt) edges in
      omega arith;
  ready = c.ready;
  back = c.back;
}

-- An edge is counted off.

-- the counts of the other positions stay
pub left_elsewhere : (waiting : List ℕ) (p x : ℕ) → x ≢ p → slice_index_or (less_one waiting p) x 0 ≡ slice_index_or waiting x 0
left_elsewhere waiting p x differ = get_or-set_other waiting p x (slice_index_or waiting p 0 - 1) 0 differ

module _ (positions : ℕ) (edges : List Edge) (taken p : ℕ) (pending waiting cleared : List ℕ)
    (c : Clears positions edges taken (p ∷ pending) waiting cleared)
    (some : 0 < slice_index_or waiting p 0) where
  p_within : p < positions
  p_within = on (cases_lt p positions) where
    on : (p < positions) ⊎ (positions ≤ p) → p < positions
    on (inl lt) = lt
    on (inr ge) =
        let s = c.size in
        let past : slice_index_or waiting p 0 ≡ 0 = get_or_past waiting p 0 (omega arith) in
        absurd (let f : ⊥ = omega arith in f)

  p_waits : is_in_list cleared p ≡ false
  p_waits = let r = c.ready p p_within in grind arith

  left_there : slice_index_or (less_one waiting p) p 0 ≡ slice_index_or waiting p 0 - 1
  left_there = let s = c.size in let w = p_within in get_or-set_same waiting p (slice_index_or waiting p 0 - 1) 0 (omega arith)

  counted_there : slice_index_or (less_one waiting p) p 0 ≡ edges_beyond edges (take taken cleared) p + count_by (◌==◌ p) pending
  counted_there =
      let l = left_there in
      let old = c.counted p p_within in
      let one : count_by (◌==◌ p) (p ∷ pending) ≡ 1 + count_by (◌==◌ p) pending = count-is (◌==◌ p) p pending true (grind arith) in
      omega arith

  counted_elsewhere : (x : ℕ) → x < positions → x ≢ p
      → slice_index_or (less_one waiting p) x 0 ≡ edges_beyond edges (take taken cleared) x + count_by (◌==◌ x) pending
  counted_elsewhere x within differ =
      let l = left_elsewhere waiting p x differ in
      let old = c.counted x within in
      let none : count_by (◌==◌ x) (p ∷ pending) ≡ 0 + count_by (◌==◌ x) pending = count-is (◌==◌ x) p pending false (ne_eqb x p differ) in
      omega arith

  counted_left : (x : ℕ) → x < positions
      → slice_index_or (less_one waiting p) x 0 ≡ edges_beyond edges (take taken cleared) x + count_by (◌==◌ x) pending
  counted_left x within = elim (cases_eq x p) [ inl e ↦ rw e counted_there | inr differ ↦ counted_elsewhere x within differ ]

  size_left : length (less_one waiting p) ≡ positions
  size_left = length-set waiting p (slice_index_or waiting p 0 - 1) ∙ c.size

  -- an edge is left
  ready_later : slice_index_or waiting p 0 ≢ 1 → (x : ℕ) → x < positions → is_in_list cleared x ≡ (slice_index_or (less_one waiting p) x 0 == 0)
  ready_later more x within = elim (cases_eq x p) [
    | inl e ↦ rw e (let l = left_there in let w = p_waits in grind arith)
    | inr differ ↦ rw (left_elsewhere waiting p x differ) (c.ready x within)
  ]

  pub still_waits : slice_index_or waiting p 0 ≢ 1 → Clears positions edges taken pending (less_one waiting p) cleared
  still_waits more = record {
    enough = c.enough;
    size = size_left;
    distinct = c.distinct;
    below = c.below;
    counted = counted_left;
    ready = ready_later more;
    back = c.back;
  }

  -- no edge is left
  front : take taken (cleared ++ p ∷ []) ≡ take taken cleared
  front = let e = c.enough in take-append-le taken cleared (p ∷ []) (omega arith)

  below_more : (x : ℕ) → is_in_list (cleared ++ p ∷ []) x ≡ true → x < positions
  below_more x h = elim (or_cases (is_in_list cleared x) (x == p) (rw (has_push cleared p x) at h)) [
    | inl old ↦ c.below x old
    | inr e ↦ rw (eqb-true x p e) p_within
  ]

  ready_now : slice_index_or waiting p 0 ≡ 1 → (x : ℕ) → x < positions
      → is_in_list (cleared ++ p ∷ []) x ≡ (slice_index_or (less_one waiting p) x 0 == 0)
  ready_now one x within = elim (cases_eq x p) [
    | inl e ↦ rw (e, has_push cleared p p) (let l = left_there in let w = p_waits in grind arith)
    | inr differ ↦ rw (left_elsewhere waiting p x differ, has_push cleared p x, ne_eqb x p differ) (or-false (is_in_list cleared x) ∙ c.ready x within)
  ]

  leads_to_taken : slice_index_or waiting p 0 ≡ 1 → (e : Edge) → Contains edges e → e.before ≡ p → is_in_list cleared e.after ≡ true
  leads_to_taken one e (k, lt, at) from =
      let l = left_there in
      let d = counted_there in
      let none = count_none (beyond p (is_in_list (take taken cleared))) edges (omega arith) k e lt at in
      has_front taken cleared e.after (unless (p == e.before) (is_in_list (take taken cleared) e.after) (eq-eqb p e.before (sym from)) none)

  back_more : slice_index_or waiting p 0 ≡ 1 → LeadsBack edges (cleared ++ p ∷ [])
  back_more one k e lt ce at = elim (cases_lt k (length cleared)) [
    | inl old ↦ rw (take-append-le k cleared (p ∷ []) (omega arith)) (c.back k e old ce (at ∙ get_or_append_left cleared (p ∷ []) 0 k old))
    | inr new ↦
        let last : k ≡ length cleared = let l = length_push cleared p in omega arith in
        rw (last, take-append-le (length cleared) cleared (p ∷ []) (omega arith), take_all (length cleared) cleared (omega arith))
        (leads_to_taken one e ce (at ∙ get_or_push cleared p 0 k (sym last)))
  ]

  pub is_clear : slice_index_or waiting p 0 ≡ 1 → Clears positions edges taken pending (less_one waiting p) (cleared ++ p ∷ [])
  is_clear one = record {
    enough = let l = length_push cleared p in let e = c.enough in omega arith;
    size = size_left;
    distinct = IsDistinct-push equal_laws cleared p c.distinct p_waits;
    below = below_more;
    counted = λ x within. rw front (counted_left x within);
    ready = ready_now one;
    back = back_more one;
  }

  pub counted_off : Clears positions edges taken pending (less_one waiting p)
      (cleared_then waiting cleared p)
  counted_off = on (slice_index_or waiting p 0 == 1) refl where
    on : (b : Bool) → (slice_index_or waiting p 0 == 1) ≡ b
        → Clears positions edges taken pending (less_one waiting p) (if b then cleared ++ p ∷ [] else cleared)
    on true h = is_clear (eqb-true (slice_index_or waiting p 0) 1 h)
    on false h = still_waits (eqb-false (slice_index_or waiting p 0) 1 h)

-- What is to be counted off stays within what is counted.
pub enough_off : (p : ℕ) (pending waiting : List ℕ) → ((x : ℕ) → count_by (◌==◌ x) (p ∷ pending) ≤ slice_index_or waiting x 0)
    → (0 < slice_index_or waiting p 0)
    × ((x : ℕ) → count_by (◌==◌ x) pending ≤ slice_index_or (less_one waiting p) x 0)
enough_off p pending waiting enough = (some, λ x. rest x (cases_eq x p)) where
  one : count_by (◌==◌ p) (p ∷ pending) ≡ 1 + count_by (◌==◌ p) pending
  one = count-is (◌==◌ p) p pending true (grind arith)

  some : 0 < slice_index_or waiting p 0
  some = let o = one in let e = enough p in omega arith

  stands : p < length waiting
  stands = on (cases_lt p (length waiting)) where
    on : (p < length waiting) ⊎ (length waiting ≤ p) → p < length waiting
    on (inl lt) = lt
    on (inr ge) = let past = get_or_past waiting p 0 ge in let s = some in absurd (let f : ⊥ = omega arith in f)

  rest : (x : ℕ) → (x ≡ p) ⊎ (x ≢ p) → count_by (◌==◌ x) pending ≤ slice_index_or (less_one waiting p) x 0
  rest x (inl e) =
      rw e (let o = one in let b = enough p in let s = get_or-set_same waiting p (slice_index_or waiting p 0 - 1) 0 stands in omega arith)
  rest x (inr differ) =
      let none : count_by (◌==◌ x) (p ∷ pending) ≡ 0 + count_by (◌==◌ x) pending = count-is (◌==◌ x) p pending false (ne_eqb x p differ) in
      let b = enough x in
      let s = get_or-set_other waiting p x (slice_index_or waiting p 0 - 1) 0 differ in
      omega arith

-- What is to be counted off of the position that is taken is counted.
pub enough_next : (positions : ℕ) (edges : List Edge) → EndsWithin positions edges → (taken : ℕ) (waiting cleared : List ℕ)
    → taken < length cleared
    → Clears positions edges taken [] waiting cleared → (x : ℕ)
    → count_by (◌==◌ x) (sources_of edges (slice_index_or cleared taken 0)) ≤ slice_index_or waiting x 0
enough_next positions edges ends taken waiting cleared lt c x = on (cases_lt x positions) where
  old : count_by (beyond x (is_in_list (take taken cleared))) edges ≡ count_by (beyond x (is_in_list (take (taken + 1) cleared))) edges + count_by
      (◌==◌ x) (sources_of edges (slice_index_or cleared taken 0))
  old = beyond_more x (slice_index_or cleared taken 0) (is_in_list (take taken cleared)) (is_in_list (take (taken + 1) cleared))
      (λ a. after_take cleared taken a lt) (not_before cleared taken c.distinct lt) edges

  stands : Any (λ e. beyond x (is_in_list (take taken cleared)) e ≡ true) edges → x < positions
  stands (k, e, at_k, at, h) = rw (eqb-true x e.before (sooner _ (not (is_in_list (take taken cleared) e.after)) h)) ((ends e (k, at_k, at)).0)

  counted : 0 < count_by (beyond x (is_in_list (take taken cleared))) edges → x < positions
  counted some =
      stands (Any-from_list_any (beyond x (is_in_list (take taken cleared))) edges (count_some (beyond x (is_in_list (take taken cleared))) edges some))

  on : (x < positions) ⊎ (positions ≤ x)
      → count_by (◌==◌ x) (sources_of edges (slice_index_or cleared taken 0)) ≤ slice_index_or waiting x 0
  on (inl within) = let w = c.counted x within in let o = old in omega arith
  on (inr past) = let o = old in neither (cases_lt 0 (count_by (beyond x (is_in_list (take taken cleared))) edges)) where
    neither : (0 < count_by (beyond x (is_in_list (take taken cleared))) edges) ⊎ (count_by (beyond x (is_in_list (take taken cleared))) edges ≤ 0)
        → count_by (◌==◌ x) (sources_of edges (slice_index_or cleared taken 0)) ≤ slice_index_or waiting x 0
    neither (inl some) = let w = counted some in absurd (let f : ⊥ = omega arith in f)
    neither (inr le) = let o = old in omega arith
