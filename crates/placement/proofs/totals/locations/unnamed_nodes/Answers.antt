use Rattle.std.proofs.Common.{rules, ◌≡◌, not, false, ap, ◌∙◌, arith}
use Rattle.score.specs.NodeSet.{has}
use Rattle.cluster_types.specs.Fields.{is_follower}
use Rattle.placement.proofs.totals.locations.unnamed_nodes.Goals as goal

pub of-requires-clause-passes : goal.of-requires-clause-passes
of-requires-clause-passes c = λ n low κs p e r d. omega (arith, low, c.len.ensures, c.requires.limits.nodes)

pub returns : goal.returns
returns c = λ n low.
    let passed = c.of.ensures.passed n (omega (arith, low, c.len.ensures)) in
    let is : has c.of.result n ≡ not (has c.named_nodes-named.result n) = search rules in
    let symmetric : c.args.cluster.now.properties.symmetric ≡ false = search rules in
    let follower : is_follower c.args.cluster.now c.args.leaf ≡ false = search rules in
    rw (symmetric, follower) (is ∙ ap not (c.named_nodes-named.ensures n low))
