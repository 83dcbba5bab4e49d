use Rattle.std.proofs.Common.{◌≡◌, ◌∙◌}
use Rattle.edges.specs.Loops.{ClosesFirst, HasNoLoop}
use Rattle.loops.specs.Inner.Edges.{step_edges}
use Rattle.loops.proofs.FirstOrders.{first_order}
use Rattle.loops.proofs.LinkLoops.{steps_free, steps_within}
use Rattle.loops.proofs.orders.closing_order.Goals as goal

pub first_loop-requires : goal.first_loop-requires
first_loop-requires c =
    let edges : c.as_slice.result.now ≡ step_edges c.args.cluster.now = c.as_slice.ensures.value ∙ c.requires.edges in
    rw edges (rw c.len.ensures (steps_within c.args.cluster.now c.requires.ordered))

pub returns-in-None : goal.returns-in-None
returns-in-None c =
    let edges : c.as_slice.result.now ≡ step_edges c.args.cluster.now = c.as_slice.ensures.value ∙ c.requires.edges in
    let free : HasNoLoop (step_edges c.args.cluster.now)
    = rw edges at (rw c.in-None.is at c.in_ok-first.ensures) in
    steps_free c.args.cluster.now c.requires.ordered free

pub returns-in-Some : goal.returns-in-Some
returns-in-Some c =
    let edges : c.as_slice.result.now ≡ step_edges c.args.cluster.now = c.as_slice.ensures.value ∙ c.requires.edges in
    let first : ClosesFirst (step_edges c.args.cluster.now) c.in-Some.place
    = rw edges at (rw c.in-Some.is at c.in_ok-first.ensures) in
    first_order c.args.cluster.now c.requires.ordered c.in-Some.place c.rule_at.result first
    (rw (c.as_slice-in-Some.ensures.value ∙ c.requires.ends) at c.rule_at.ensures)
