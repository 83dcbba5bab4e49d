use Rattle.std.proofs.Common.{◌≡◌, ◌<◌, ◌*◌, ℕ, length, slice_index_or, ◌∙◌}
use Rattle.edges.specs.LongestChains.{longest}
use Rattle.loops.specs.Inner.Edges.{step_edges}
use Rattle.loops.proofs.FromValid.{valid_order}
use Rattle.loops.proofs.LinkLoops.{edges_free, steps_within}
use Rattle.loops.proofs.RankLists.{are_ranks}
use Rattle.loops.proofs.ranking.ranks.Goals as goal

pub link_edges-requires-clause-ordered : goal.link_edges-requires-clause-ordered
link_edges-requires-clause-ordered c = valid_order c.args.cluster.now c.requires.orders

pub longest_ways-requires-clause-ends : goal.longest_ways-requires-clause-ends
longest_ways-requires-clause-ends c =
    let edges : c.as_slice.result.now ≡ step_edges c.args.cluster.now = c.as_slice.ensures.value ∙ c.in_ok-edges.ensures in
    rw edges (rw c.len.ensures (steps_within c.args.cluster.now (valid_order c.args.cluster.now c.requires.orders)))

pub longest_ways-requires-clause-free : goal.longest_ways-requires-clause-free
longest_ways-requires-clause-free c =
    let edges : c.as_slice.result.now ≡ step_edges c.args.cluster.now = c.as_slice.ensures.value ∙ c.in_ok-edges.ensures in
    rw edges (edges_free c.args.cluster.now (valid_order c.args.cluster.now c.requires.orders) c.requires.steps)

pub returns : goal.returns
returns c =
    let edges : c.as_slice.result.now ≡ step_edges c.args.cluster.now = c.as_slice.ensures.value ∙ c.in_ok-edges.ensures in
    let size : length c.in_ok-ranks.ranks.items ≡ 4 * length c.args.cluster.now.leaves = rw c.len.ensures at c.in_ok-ranks.ensures.size in
    let each : (x : ℕ) → x < 4 * length c.args.cluster.now.leaves
    → slice_index_or c.in_ok-ranks.ranks.items x 0 ≡ longest (4 * length c.args.cluster.now.leaves) (step_edges c.args.cluster.now) x
    = rw edges at (rw c.len.ensures at c.in_ok-ranks.ensures.longest) in
    are_ranks c.args.cluster.now (valid_order c.args.cluster.now c.requires.orders) c.requires.steps c.in_ok-ranks.ranks.items size each
