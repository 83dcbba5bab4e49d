use Rattle.std.proofs.Common.{arith}
use Rattle.lemmas.proofs.Members.{read_there}
use Rattle.loops.proofs.colocations.edges_of_needs.Goals as goal

pub edge_of-requires-clause-dependent : goal.edge_of-requires-clause-dependent
edge_of-requires-clause-dependent c =
    let j
    = c.requires.joined c.colocation-item.result
    (read_there c.as_slice-colocation-items.ensures c.loop-colocation-test.true c.colocation-item.is) in
    let d = j.dependent in
    omega arith

pub edge_of-requires-clause-primary : goal.edge_of-requires-clause-primary
edge_of-requires-clause-primary c =
    let j
    = c.requires.joined c.colocation-item.result
    (read_there c.as_slice-colocation-items.ensures c.loop-colocation-test.true c.colocation-item.is) in
    let p = j.primary in
    omega arith
