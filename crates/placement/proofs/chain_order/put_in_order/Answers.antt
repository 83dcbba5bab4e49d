use Rattle.std.proofs.Common.{◌≡◌, ◌<◌, ℕ, List, sym, subst, slice_index_or}
use Rattle.std.specs.List.Sorted.{IsNonDecreasingBy}
use Rattle.lemmas.proofs.Results.{on_both}
use Rattle.edges.specs.declared.edge.Edge.{Edge}
use Rattle.edges.specs.LongestChains.{longest}
use Rattle.edges.specs.Loops.{EndsWithin, HasNoLoop}
use Rattle.placement.proofs.ChainOrders.{put-in-order}
use Rattle.placement.proofs.chain_order.put_in_order.Goals as goal

pub longest_ways_if_free-requires-clause-within : goal.longest_ways_if_free-requires-clause-within
longest_ways_if_free-requires-clause-within c = subst (EndsWithin c.args.positions) (sym c.deref.ensures.value) c.requires.within

pub returns-clause-ordered : goal.returns-clause-ordered
returns-clause-ordered c =
    let positions = c.args.positions in
    let old = c.args.edges.now.items in
    let new = c.sort_by_height.new.edges.items in
    let heights = c.in_ok-heights.heights.items in
    let high : HasNoLoop old → (x : ℕ) → x < positions → slice_index_or heights x 0 ≡ longest positions old x
    = subst (λ (es : List Edge). HasNoLoop es → (x : ℕ) → x < positions → slice_index_or heights x 0 ≡ longest positions es x)
    c.deref.ensures.value c.in_ok-heights.ensures.longest in
    on_both c.sort_by_height.result
    (λ same sorted free. put-in-order positions old new heights c.requires.within free (high free) same
    (subst (λ (hs : List ℕ). IsNonDecreasingBy (λ (edge : Edge). slice_index_or hs edge.after 0) new) c.deref-2.ensures.value sorted))
    c.sort_by_height.ensures.same c.sort_by_height.ensures.sorted
