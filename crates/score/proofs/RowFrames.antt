-- What is known of the fields of a row while they are seen, and once what they store has changed.
use Rattle.std.proofs.Common.{◌≡◌, ℕ, ◌+◌, ◌^◌, ◌<◌, ◌≤◌, ◌+ℤ◌, ◌-ℤ◌, pos, List, length, get_or, sym, ◌∙◌, arith, vec_len}
use Rattle.std.specs.Vec.{with_items}
use Rattle.std.proofs.lemmas.Int.{ints}
use Rattle.std.proofs.lemmas.List.{with_items_is}
use Rattle.score.specs.declared.row.Row.TheInside.{Inside}
use Rattle.score.specs.Row.{Tally, IsSumInRange, finite_at}
use Rattle.score.specs.StoredRows.{tallies, bias}
use Rattle.score.proofs.RowLaws.{row_nodes, row_finite}

-- each field stores a number for each node
pub record FrameOf (fields : Inside) (row : List Tally) : Type 0 where
  pub minus : length fields.minus.items ≡ length fields.sums.items
  pub plus : length fields.plus.items ≡ length fields.sums.items
  pub nodes : length row ≡ length fields.sums.items
  pub finite : (node : ℕ) → node < length fields.sums.items → finite_at row node ≡ (pos (get_or fields.sums.items node 0) -ℤ pos bias)

-- each field stores as many as before
pub record ChangedTo (fields : Inside) (minuses pluses sums : List ℕ) : Type 0 where
  pub minus_put : (with_items fields.minus minuses).items ≡ minuses
  pub plus_put : (with_items fields.plus pluses).items ≡ pluses
  pub sums_put : (with_items fields.sums sums).items ≡ sums
  pub minus_nodes : length minuses ≡ length fields.sums.items
  pub plus_nodes : length pluses ≡ length fields.sums.items
  pub sums_nodes : length sums ≡ length fields.sums.items

module _ (fields : Inside) (same : (vec_len fields.minus ≡ vec_len fields.sums) × (vec_len fields.plus ≡ vec_len fields.sums)) where
  minus-nodes : length fields.minus.items ≡ length fields.sums.items
  minus-nodes = sym fields.minus.ok.0 ∙ (same.0 ∙ fields.sums.ok.0)

  plus-nodes : length fields.plus.items ≡ length fields.sums.items
  plus-nodes = sym fields.plus.ok.0 ∙ (same.1 ∙ fields.sums.ok.0)

  pub frame_of : (row : List Tally) → tallies fields.minus.items fields.plus.items fields.sums.items ≡ row → FrameOf fields row
  frame_of row seen = record {
    minus = minus-nodes;
    plus = plus-nodes;
    nodes = row_nodes _ _ _ row minus-nodes plus-nodes seen;
    finite = row_finite _ _ _ row minus-nodes plus-nodes seen;
  }

  pub changed_to : (minuses pluses sums : List ℕ) → length minuses ≡ length fields.minus.items → length pluses ≡ length fields.plus.items
      → length sums ≡ length fields.sums.items → ChangedTo fields minuses pluses sums
  changed_to minuses pluses sums m p s = record {
    minus_put = with_items_is fields.minus minuses (m ∙ sym fields.minus.ok.0);
    plus_put = with_items_is fields.plus pluses (p ∙ sym fields.plus.ok.0);
    sums_put = with_items_is fields.sums sums (s ∙ sym fields.sums.ok.0);
    minus_nodes = m ∙ minus-nodes;
    plus_nodes = p ∙ plus-nodes;
    sums_nodes = s;
  }

-- stored sums can be added where the finite sums stay in range
pub sums_fit : (ours theirs : Inside) (row other : List Tally) → FrameOf ours row → FrameOf theirs other → length row ≡ length other
    → ((n : ℕ) → n < length row → IsSumInRange (finite_at row n +ℤ finite_at other n)) → (k : ℕ) → k < length ours.sums.items
    → (bias ≤ get_or ours.sums.items k 0 + get_or theirs.sums.items k 0) × (get_or ours.sums.items k 0 + get_or theirs.sums.items k 0 < 2 ^ 64)
sums_fit ours theirs row other f f' nodes room k within =
    let before = f.finite k within in
    let more = f'.finite k (omega (arith, nodes, f.nodes, f'.nodes)) in
    let low = (room k (omega (arith, f.nodes))).0 in
    let high = (room k (omega (arith, f.nodes))).1 in
    (omega (arith, ints), omega (arith, ints))
