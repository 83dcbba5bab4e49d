use Rattle.std.proofs.Common.{◌≡◌, ◌∙◌}
use Rattle.edges.specs.Loops.{ClosesFirst, HasNoLoop}
use Rattle.loops.specs.Inner.Edges.{need_edges}
use Rattle.loops.proofs.NeedLoops.{behind_leaves, closes_needs, needs_free, needs_within}
use Rattle.loops.proofs.colocations.colocation_loop.Goals as goal

pub first_loop-requires : goal.first_loop-requires
first_loop-requires c =
    let edges : c.as_slice.result.now ≡ need_edges c.args.cluster.now = c.as_slice.ensures.value ∙ c.in_ok-edges.ensures in
    rw edges (rw c.len-leaves.ensures (needs_within c.args.cluster.now c.requires.joined))

pub returns-in-None : goal.returns-in-None
returns-in-None c =
    let edges : c.as_slice.result.now ≡ need_edges c.args.cluster.now = c.as_slice.ensures.value ∙ c.in_ok-edges.ensures in
    let free : HasNoLoop (need_edges c.args.cluster.now)
    = rw edges at (rw c.in-None.is at c.in_ok-first.ensures) in
    needs_free c.args.cluster.now c.requires.joined free

pub overflow_sub-result : goal.overflow_sub-result
overflow_sub-result c =
    let edges : c.as_slice.result.now ≡ need_edges c.args.cluster.now = c.as_slice.ensures.value ∙ c.in_ok-edges.ensures in
    let first : ClosesFirst (need_edges c.args.cluster.now) c.in-Some.place
    = rw edges at (rw c.in-Some.is at c.in_ok-first.ensures) in
    rw c.len-leaves.ensures (behind_leaves c.args.cluster.now c.requires.joined c.in-Some.place first)

pub returns : goal.returns
returns c =
    let edges : c.as_slice.result.now ≡ need_edges c.args.cluster.now = c.as_slice.ensures.value ∙ c.in_ok-edges.ensures in
    let first : ClosesFirst (need_edges c.args.cluster.now) c.in-Some.place
    = rw edges at (rw c.in-Some.is at c.in_ok-first.ensures) in
    rw c.len-leaves.ensures (closes_needs c.args.cluster.now c.requires.joined c.in-Some.place first)
