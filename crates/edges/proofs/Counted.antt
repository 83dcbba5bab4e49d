-- How many edges have an end at a position, one edge more.
use Rattle.std.proofs.Common.{arith, ◌≡◌, ◌<◌, ◌≤◌, ◌+◌, ◌==◌, ℕ, List, length, take, slice_index_or, slice_set, ◌≢◌, ◌⊎◌, inl, inr}
use Rattle.std.proofs.lemmas.Bool.{cases_eq, ne_eqb, eq-eqb}
use Rattle.std.proofs.lemmas.List.{get_or-set_same, get_or-set_other, length-take}
use Rattle.std.proofs.lemmas.List.Elements.{Contains-get_or}
use Rattle.std.proofs.lemmas.List.Sums.{count_by-le-length, count_by_more_yes, count_by_more_no}
use Rattle.edges.specs.declared.edge.Edge.{Edge}
use Rattle.edges.specs.Loops.{EndsWithin}
use Rattle.edges.specs.declared.side.Side.{Side}
use Rattle.edges.specs.declared.side.Side.TheVariants.{Before, After}
use Rattle.edges.specs.Rows.{edges_at, end_of}

pub end_within : (side : Side) (positions : ℕ) (edges : List Edge) (i : ℕ) (d : Edge) → EndsWithin positions edges → i < length edges
    → end_of side (slice_index_or edges i d) < positions
end_within Before positions edges i d ends lt = (ends (slice_index_or edges i d) (Contains-get_or edges i d lt)).0
end_within After positions edges i d ends lt = (ends (slice_index_or edges i d) (Contains-get_or edges i d lt)).1

-- no more edges than there are
pub few_at : (side : Side) (edges : List Edge) (i x : ℕ) → edges_at side (take i edges) x ≤ i
few_at side edges i x = omega (arith, count_by-le-length (λ e. x == end_of side e) (take i edges), length-take i edges)

-- where the edge ends, there is one more
pub at_more : (side : Side) (edges : List Edge) (i : ℕ) (d : Edge) (x : ℕ) → i < length edges → x ≡ end_of side (slice_index_or edges i d)
    → edges_at side (take (i + 1) edges) x ≡ edges_at side (take i edges) x + 1
at_more side edges i d x lt here = count_by_more_yes (λ e. x == end_of side e) edges i d lt (eq-eqb x _ here)

pub at_same : (side : Side) (edges : List Edge) (i : ℕ) (d : Edge) (x : ℕ) → i < length edges → x ≢ end_of side (slice_index_or edges i d)
    → edges_at side (take (i + 1) edges) x ≡ edges_at side (take i edges) x
at_same side edges i d x lt elsewhere = count_by_more_no (λ e. x == end_of side e) edges i d lt (ne_eqb x _ elsewhere)

module _ (side : Side) (counts : List ℕ) (edges : List Edge) (i : ℕ) (d : Edge) (lt : i < length edges) (at : ℕ)
    (is : at ≡ end_of side (slice_index_or edges i d)) (within : at < length counts) (n : ℕ) (next : n ≡ slice_index_or counts at 0 + 1) where
  counted_on : (x : ℕ) → (x ≡ at) ⊎ (x ≢ at) → slice_index_or counts x 0 ≡ edges_at side (take i edges) x
      → slice_index_or (slice_set counts at n) x 0 ≡ edges_at side (take (i + 1) edges) x
  counted_on x (inl e) old =
      let s = get_or-set_same counts at n 0 within in
      let c = at_more side edges i d at lt is in
      rw e (let o : slice_index_or counts at 0 ≡ edges_at side (take i edges) at = rw e at old in omega arith)
  counted_on x (inr differ) old =
      let s = get_or-set_other counts at x n 0 differ in
      let c = at_same side edges i d x lt (λ e. let f : ⊥ = omega arith in f) in
      omega arith

  pub counted_more : (x : ℕ) → slice_index_or counts x 0 ≡ edges_at side (take i edges) x
      → slice_index_or (slice_set counts at n) x 0 ≡ edges_at side (take (i + 1) edges) x
  counted_more x old = counted_on x (cases_eq x at) old
