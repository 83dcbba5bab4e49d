use Rattle.std.proofs.Common.{rules, length, refl, arith}
use Rattle.std.proofs.lemmas.Bool.{le-ltb}
use Rattle.score.specs.NodeSet.{has}
use Rattle.placement.specs.UsableNodes.{is_usable_by}
use Rattle.score.proofs.NodeSets.{as_test}
use Rattle.placement.proofs.totals.own_rows.usable_nodes.Goals as goal

pub of-requires-clause-passes : goal.of-requires-clause-passes
of-requires-clause-passes c = λ n low κs p e r d. omega (arith, low, c.len.ensures)

pub returns : goal.returns
returns c =
    let nodes = length c.args.cluster.now.nodes in
    as_test (has c.of.result) (is_usable_by c.args.cluster.now c.args.states.now) nodes
    (λ n low. let passed = c.of.ensures.passed n (omega (arith, low, c.len.ensures)) in search rules)
    (λ n h. let low = c.of.ensures.there n h in omega (arith, low, c.len.ensures))
    (λ n high. let out = le-ltb n nodes high in rw out refl)
