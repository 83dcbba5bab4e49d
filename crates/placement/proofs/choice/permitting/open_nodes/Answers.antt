use Rattle.std.proofs.Common.{rules, ◌≡◌, ◌&&◌, ◌||◌, length, refl, ap, ◌∙◌, arith}
use Rattle.std.proofs.lemmas.Bool.{le-ltb}
use Rattle.cluster_types.specs.Choice.{is_placed_for}
use Rattle.cluster_types.specs.Tables.{targets_of}
use Rattle.score.specs.NodeSet.{has}
use Rattle.score.proofs.NodeSets.{as_test}
use Rattle.placement.specs.UsableNodes.{is_usable_by}
use Rattle.placement.specs.Reads.{is_kept_in, may_stay_in}
use Rattle.placement.specs.Inner.Reads.{is_open_in}
use Rattle.placement.proofs.choice.permitting.open_nodes.Goals as goal

pub of-requires-clause-passes : goal.of-requires-clause-passes
of-requires-clause-passes c = λ n low κs p e r d. omega (arith, low, c.len.ensures)

pub returns : goal.returns
returns c =
    let known = c.args.known.now in
    let cluster = known.cluster.now in
    let states = known.states.now in
    let table = targets_of c.args.table.now in
    let d = c.args.decision in
    let stays = c.may_stay-stays.ensures ∙ ap (may_stay_in cluster states known.rights) c.leaf.ensures in
    as_test (has c.of.result) (is_open_in cluster states known.rights table d) (length cluster.nodes)
    (λ n low. let passed = c.of.ensures.passed n (omega (arith, low, c.len.ensures)) in
    let is : has c.of.result n ≡ (is_usable_by cluster states n && (known.rights.may_start || c.may_stay-stays.result && is_kept_in cluster states d n) && is_placed_for table d n) = search rules in
    is ∙ ap (λ b. is_usable_by cluster states n && (known.rights.may_start || b && is_kept_in cluster states d n) && is_placed_for table d n) stays)
    (λ n h. let low = c.of.ensures.there n h in omega (arith, low, c.len.ensures))
    (λ n high. let out = le-ltb n (length cluster.nodes) high in rw out refl)
