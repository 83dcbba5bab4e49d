-- The lengths of the longest ways are found position by position, those to which edges lead last.
use Rattle.std.proofs.Common.{arith, ◌≡◌, ◌≢◌, ◌<◌, ◌≤◌, ◌==◌, ℕ, suc, true, List, length, take, slice_index_or, slice_set, sym, ◌∙◌, ◌⊎◌, inl, inr, Contains}
use Rattle.std.proofs.lemmas.Bool.{both_ways, cases_eq, cases_lt, eqb-false}
use Rattle.std.proofs.lemmas.List.{get_or-set_other, get_or-set_same, length-set}
use Rattle.std.proofs.lemmas.Map.Keys.{apart_from_distinct}
use Rattle.edges.specs.declared.edge.Edge.{Edge}
use Rattle.edges.specs.Loops.{EndsWithin, HasNoLoop}
use Rattle.edges.specs.Sources.{is_in_list, sources_of}
use Rattle.edges.specs.Inner.Clearing.{AreCleared, IsBackward}
use Rattle.edges.specs.LongestChains.{above, longest}
use Rattle.edges.proofs.Endings.{one_way}
use Rattle.edges.proofs.Entering.{Enters, enters_of}
use Rattle.edges.proofs.Longest.{above_alike, longest_are_heights, longest_bounded}
use Rattle.edges.proofs.Members.{StandsAt, has_at, has_take, not_before, place_of}

-- from this place of the order on, each position has its length
pub record AreMeasured (positions : ℕ) (edges : List Edge) (order : List ℕ) (left : ℕ) (ways : List ℕ) : Type 0 where
  pub size : length ways ≡ positions
  pub bound : (x : ℕ) → slice_index_or ways x 0 ≤ positions
  pub left_within : left ≤ positions
  pub measured : (j : ℕ) → left ≤ j → j < positions
      → slice_index_or ways (slice_index_or order j 0) 0 ≡ longest positions edges (slice_index_or order j 0)

pub measured_from : (positions : ℕ) (edges : List Edge) (order ways : List ℕ) (left k : ℕ) → left ≡ suc k
    → AreMeasured positions edges order left ways → AreMeasured positions edges order (suc k) ways
measured_from positions edges order ways left k e m = rw e at m

-- without a loop all positions can be taken
pub backward_of_free : (positions : ℕ) (edges : List Edge) (order : List ℕ) → HasNoLoop edges
    → AreCleared positions edges order → IsBackward positions edges order
backward_of_free positions edges order free c = elim (cases_lt (length order) positions) [
  | inl lt ↦ absurd (one_way edges (c.some lt) free)
  | inr le ↦ c.all le
]

module _ (positions : ℕ) (edges : List Edge) (ends : EndsWithin positions edges) (free : HasNoLoop edges)
    (order : List ℕ) (b : IsBackward positions edges order) where
  pub position_within : (j : ℕ) → j < positions → slice_index_or order j 0 < positions
  position_within j lt = let s = b.size in b.below (slice_index_or order j 0) (has_at order j (omega arith))

  -- where an edge begins stands behind where it ends
  stands_behind : (e : Edge) → Contains edges e → (j k : ℕ) → j < positions → k < positions → e.before ≡ slice_index_or order j 0
      → e.after ≡ slice_index_or order k 0 → k < j
  stands_behind e c j k lj lk from to =
      let s = b.size in
      let h : is_in_list (take j order) (slice_index_or order k 0) ≡ true = rw to at (b.back j e (omega arith) c from) in
      on h (cases_lt k j)
    where
      on : is_in_list (take j order) (slice_index_or order k 0) ≡ true → (k < j) ⊎ (j ≤ k) → k < j
      on h (inl lt) = lt
      on h (inr le) =
          let s = b.size in
          absurd (both_ways _ (not_before order k b.distinct (omega arith)) (has_take j k order (slice_index_or order k 0) le h))

  module _ (k : ℕ) (ways : List ℕ) (lt : k < positions) (m : AreMeasured positions edges order (suc k) ways) where
    -- the sources of the next position have their lengths
    source_measured : (s : ℕ) → Enters edges (slice_index_or order k 0) s → slice_index_or ways s 0 ≡ longest positions edges s
    source_measured s n =
        let w = ends n.edge n.among in
        let f = n.from in
        let p : StandsAt order s = place_of order s (b.all s (omega arith)) in
        let size = b.size in
        let inside = p.within in
        let behind : k < p.place = stands_behind n.edge n.among p.place k (omega arith) lt (n.from ∙ p.here) n.to in
        rw p.here (m.measured p.place (omega arith) (omega arith))

    pub next_length : above (λ x. slice_index_or ways x 0) (sources_of edges (slice_index_or order k 0))
        ≡ longest positions edges (slice_index_or order k 0)
    next_length =
        above_alike (λ x. slice_index_or ways x 0) (longest positions edges) (sources_of edges (slice_index_or order k 0))
        (λ s h. source_measured s (enters_of edges (slice_index_or order k 0) s h))
        ∙ sym (longest_are_heights positions edges ends free (slice_index_or order k 0))

    pub sources_within : (x : ℕ) → Contains (sources_of edges (slice_index_or order k 0)) x → x < length ways
    sources_within x h =
        let n = enters_of edges (slice_index_or order k 0) x h in
        let w = ends n.edge n.among in
        let f = n.from in
        let s = m.size in
        omega arith

    module _ (most : ℕ) (is : most ≡ longest positions edges (slice_index_or order k 0)) where
      there : slice_index_or (slice_set ways (slice_index_or order k 0) most) (slice_index_or order k 0) 0 ≡ most
      there =
          let p = position_within k lt in
          let s = m.size in
          get_or-set_same ways (slice_index_or order k 0) most 0 (omega arith)

      elsewhere : (x : ℕ) → x ≢ slice_index_or order k 0
          → slice_index_or (slice_set ways (slice_index_or order k 0) most) x 0 ≡ slice_index_or ways x 0
      elsewhere x differ = get_or-set_other ways (slice_index_or order k 0) x most 0 differ

      bound_more : (x : ℕ) → slice_index_or (slice_set ways (slice_index_or order k 0) most) x 0 ≤ positions
      bound_more x = elim (cases_eq x (slice_index_or order k 0)) [
        | inl e ↦ let t = there in let l = longest_bounded positions edges (slice_index_or order k 0) in rw e (omega arith)
        | inr differ ↦ let o = elsewhere x differ in let old = m.bound x in omega arith
      ]

      later_apart : (j : ℕ) → k < j → j < positions → slice_index_or order j 0 ≢ slice_index_or order k 0
      later_apart j less within e =
          let s = b.size in
          eqb-false (slice_index_or order k 0) (slice_index_or order j 0)
          (apart_from_distinct ◌==◌ order k j 0 b.distinct less (omega arith)) (sym e)

      pub measured_more : AreMeasured positions edges order k (slice_set ways (slice_index_or order k 0) most)
      measured_more = record {
        size = length-set ways (slice_index_or order k 0) most ∙ m.size;
        bound = bound_more;
        left_within = omega arith;
        measured = λ j le within. elim (cases_lt k j) [
          | inl later ↦
              elsewhere (slice_index_or order j 0) (later_apart j later within) ∙ m.measured j (omega arith) within
          | inr here ↦ let e : j ≡ k = omega arith in rw e (there ∙ is)
        ];
      }

  pub all_measured : (ways : List ℕ) → AreMeasured positions edges order 0 ways → (x : ℕ) → x < positions
      → slice_index_or ways x 0 ≡ longest positions edges x
  all_measured ways m x lt =
      let p : StandsAt order x = place_of order x (b.all x lt) in
      let size = b.size in
      let inside = p.within in
      rw p.here (m.measured p.place (omega arith) (omega arith))
