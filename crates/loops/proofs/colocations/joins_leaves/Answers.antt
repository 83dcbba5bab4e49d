use Rattle.std.proofs.Common.{◌≤◌, IsTrue, length, refl}
use Rattle.std.proofs.lemmas.List.{take_all}
use Rattle.loops.specs.FirstLoops.{JoinsLeaves}
use Rattle.lemmas.proofs.Members.{all_more, read_there}
use Rattle.loops.proofs.colocations.joins_leaves.Goals as goal

pub returns-then-not-is_among : goal.returns-then-not-is_among
returns-then-not-is_among c = (
  λ h. cc,
  λ all.
      let one
      = all c.colocation-item.result (read_there c.as_slice-colocation-items.ensures c.loop-colocation-test.true c.colocation-item.is) in
      let passes = (c.is_among.ensures c.args.cluster.now c.len-leaves.ensures).1 one in
      let fails = c.if-not-is_among.true in
      cc,
)

pub loop-colocation-preserved : goal.loop-colocation-preserved
loop-colocation-preserved c =
    let passes : IsTrue c.is_among.result = let kept = c.if-not-is_among.false in cc in
    all_more (JoinsLeaves c.args.cluster.now) c.args.cluster.now.colocations c.loop-colocation.colocation-index c.colocation-item.result
    (rw c.as_slice-colocation-items.ensures at c.loop-colocation-test.true) (rw c.as_slice-colocation-items.ensures at c.colocation-item.is)
    c.loop-colocation.invariant
    ((c.is_among.ensures c.args.cluster.now c.len-leaves.ensures).0 passes)

pub returns : goal.returns
returns c = (
  λ h x among.
      let end : length c.args.cluster.now.colocations ≤ c.loop-colocation.colocation-index
      = rw c.as_slice-colocation-items.ensures at c.loop-colocation-test.false in
      c.loop-colocation.invariant x (rw (take_all c.loop-colocation.colocation-index c.args.cluster.now.colocations end) among),
  λ all. refl,
)
