-- The position of the first place that is ready, in a queue.
use Rattle.std.proofs.Common.{arith, ◌≡◌, ℕ, ◌<◌, ◌≤◌, ◌==◌, [], false, List, length, count_by, slice_index_or, Contains, ap, ◌∙◌}
use Rattle.std.proofs.lemmas.List.Elements.{Contains-get_or}
use Rattle.edges.specs.declared.edge.Edge.{Edge}
use Rattle.edges.specs.Rows.{edge_targets_of}
use Rattle.edges.proofs.Filled.{target_lists, targets_at}
use Rattle.placement.specs.declared.order.queue.Queue.{Queue}
use Rattle.placement.specs.Inner.Queueing.{IsFirstPlace, IsQueue}
use Rattle.placement.proofs.HeldCounts.{row-few, target-within}
use Rattle.placement.proofs.QueueSteps.{was-open}

module _ (edges : List Edge) (positions : ℕ) (q : Queue) (is : IsQueue edges positions q) (place : ℕ) (first : IsFirstPlace q.ready place) where
  abbrev pub position : ℕ
  position = slice_index_or q.order.items place 0

  pub in-order : place < length q.order.items
  in-order = let w = first.within in let s = is.waits.ready_size in omega arith

  pub position-low : position < positions
  position-low = is.inside position (Contains-get_or q.order.items place 0 in-order)

  pub in-made : position < length q.made.items
  in-made = let l = position-low in let s = is.waits.made_size in omega arith

  pub in-rows : position < length q.rows
  in-rows = let l = position-low in let s : length q.rows ≡ positions = ap length is.rows ∙ target_lists positions edges in omega arith

  pub open-yet : slice_index_or q.made.items position false ≡ false
  open-yet = was-open q.order.items q.places.items is.places q.made.items q.counts.items q.ready is.waits.readied is.waits.ready_size place in-order first.is

  pub row-is : slice_index_or q.rows position [] ≡ edge_targets_of edges position
  row-is = ap (λ (rs : List (List ℕ)). slice_index_or rs position []) is.rows ∙ targets_at positions edges position position-low

  pub few : (x : ℕ) → count_by (◌==◌ x) (edge_targets_of edges position) ≤ slice_index_or q.counts.items x 0
  few = row-few edges q.made.items position in-made open-yet positions is.ends q.counts.items is.waits.counts_size is.waits.counted

  pub row-low : (x : ℕ) → Contains (edge_targets_of edges position) x → x < positions
  row-low = target-within positions edges is.ends position
