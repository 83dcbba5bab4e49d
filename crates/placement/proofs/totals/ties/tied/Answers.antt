use Rattle.loops.proofs.FromValid.{valid_join}
use Rattle.placement.proofs.TieMarks.{all-tied}
use Rattle.placement.proofs.totals.ties.tied.Goals as goal

pub returns : goal.returns
returns c =
    let inv = c.loop-changed.invariant in
    all-tied c.args.cluster.now (valid_join c.args.cluster.now c.requires.valid.colocations) c.args.ties.now c.requires.ties c.args.leaf c.loop-changed.marks.items inv.known
    (inv.none c.loop-changed-test.false)
