use Rattle.std.proofs.Common.{refl}
use Rattle.cluster_model.proofs.Sound.{done-gives, is_sound, joined, ordered, refuses, resolves}
use Rattle.cluster_model.proofs.resolution.whole.resolve_by.Goals as goal

pub pass-passed-requires-clause-joined : goal.pass-passed-requires-clause-joined
pass-passed-requires-clause-joined c =
    joined c.args.leaves.now c.as_slice.result.now c.args.statements.now _ c.args.directory.now c.first_fault-checked.result.sound c.in_ok-cluster.cluster
    c.as_slice.ensures c.requires.directory c.first_fault-checked.ensures.sound refl c.in_ok-cluster.ensures.cluster

pub pass-passed-requires-clause-ordered : goal.pass-passed-requires-clause-ordered
pass-passed-requires-clause-ordered c =
    ordered c.args.leaves.now c.as_slice.result.now c.args.statements.now _ c.args.directory.now c.first_fault-checked.result.sound c.in_ok-cluster.cluster
    c.as_slice.ensures c.requires.directory c.first_fault-checked.ensures.sound refl c.in_ok-cluster.ensures.cluster

pub returns : goal.returns
returns c =
    let whole
    = is_sound c.args.leaves.now c.as_slice.result.now c.args.statements.now _ c.args.directory.now c.first_fault-checked.result.sound
    c.in_ok-cluster.cluster c.as_slice.ensures c.requires.directory c.first_fault-checked.ensures.sound refl c.in_ok-cluster.ensures.cluster in
    done-gives c.in_ok-cluster.cluster _ c.pass-passed.result c.done.result _ (c.pass-passed.ensures c.args.directory.now c.args.leaves.now.leaves whole)
    c.done.ensures
    (resolves c.args.leaves.now c.as_slice.result.now c.args.statements.now _ c.args.directory.now c.first_fault-checked.result.sound
    c.in_ok-cluster.cluster c.as_slice.ensures c.requires.directory c.first_fault-checked.ensures.sound refl c.in_ok-cluster.ensures.cluster
    _ c.first_fault-checked.result.fault refl c.first_fault-checked.ensures.fault)
    (refuses c.args.leaves.now c.as_slice.result.now c.args.statements.now _ c.args.directory.now c.first_fault-checked.result.sound
    c.in_ok-cluster.cluster c.as_slice.ensures c.requires.directory c.first_fault-checked.ensures.sound refl c.in_ok-cluster.ensures.cluster
    _ c.first_fault-checked.result.fault refl c.first_fault-checked.ensures.fault)
