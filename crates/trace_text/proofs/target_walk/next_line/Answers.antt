use Rattle.std.proofs.Common.{arith, ◌<◌, [], ◌∷◌, length, ◌∙◌}
use Rattle.cluster_types.specs.Tables.{targets_of}
use Rattle.trace_text.specs.RunLines.{lent_line}
use Rattle.trace_text.proofs.WalkOn.{fewer_places, walk_from}
use Rattle.trace_text.proofs.target_walk.next_line.Goals as goal

pub returns-in-Some-clause-line : goal.returns-in-Some-clause-line
returns-in-Some-clause-line c =
    let lt : c.loop-place.place.leaf < length c.args.cluster.now.leaves = omega (arith, c.loop-place-test.true, c.len.ensures) in
    rw c.behind.ensures (c.loop-place.invariant
    ∙ walk_from c.args.cluster.now c.args.pins.now (targets_of c.args.table.now) c.args.none.now c.loop-place.place (lent_line c.in-Some.line ∷ []) lt c.in-Some.ensures.line)

pub loop-place-smaller : goal.loop-place-smaller
loop-place-smaller c =
    let lt : c.loop-place.place.leaf < length c.args.cluster.now.leaves = omega (arith, c.loop-place-test.true, c.len.ensures) in
    rw c.behind.ensures (fewer_places c.args.cluster.now c.loop-place.place.leaf lt c.loop-place.place.column)

pub loop-place-preserved : goal.loop-place-preserved
loop-place-preserved c =
    let lt : c.loop-place.place.leaf < length c.args.cluster.now.leaves = omega (arith, c.loop-place-test.true, c.len.ensures) in
    rw c.behind.ensures (c.loop-place.invariant
    ∙ walk_from c.args.cluster.now c.args.pins.now (targets_of c.args.table.now) c.args.none.now c.loop-place.place [] lt c.in-None.ensures.line)
