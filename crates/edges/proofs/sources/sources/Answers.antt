use Rattle.std.proofs.Common.{arith}
use Rattle.edges.proofs.SourceRows.{ends_at}
use Rattle.edges.proofs.sources.sources.Goals as goal

pub index_mut-requires : goal.index_mut-requires
index_mut-requires c =
    let w = ends_at c.args.positions c.args.edges.now c.loop-edge.edge-index (record { before = 0; after = 0 }) c.requires
    c.loop-edge-test.true in
    omega arith
