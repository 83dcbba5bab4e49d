use Rattle.std.proofs.Common.{refl, length, ◌∙◌, ap}
use Rattle.std.proofs.lemmas.List.FromFn.{length-map-range_with_len}
use Rattle.cluster_types.specs.declared.states.Rights.{Rights}
use Rattle.cluster_types.specs.Tables.{targets_of}
use Rattle.placement.specs.Inner.Reasoning.{reason_in}
use Rattle.placement.proofs.ReasonsTold.{told_reason}
use Rattle.placement.proofs.unplaced_leaves.missing.reasons.Goals as goal

pub returns-clause-leaves : goal.returns-clause-leaves
returns-clause-leaves c =
    let a = c.args in
    let f = reason_in a.cluster.now a.states.now c.rights-may_start.result.may_start a.targets.now.nodes (targets_of a.chosen.now) (targets_of a.targets.now) a.pins.now in
    ap length (c.from.ensures ∙ c.in_ok-none.ensures) ∙ length-map-range_with_len f 0 (length a.cluster.now.leaves)

pub returns-clause-reasons : goal.returns-clause-reasons
returns-clause-reasons c = λ events promotions told pinned are.
    let a = c.args in
    told_reason a.cluster.now events promotions a.chosen.now a.targets.now c.requires.nodes c.requires.size c.requires.same_nodes c.requires.same_size are
    a.states.now told a.pins.now pinned c.rights-may_start.result.may_start
    (ap (λ (x : Rights). x.may_start) (c.rights-may_start.ensures events promotions told))
    c.from.result (length a.cluster.now.leaves) refl (c.from.ensures ∙ c.in_ok-none.ensures)
