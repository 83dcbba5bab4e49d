use Rattle.std.proofs.Common.{rules, ◌<◌, length, arith}
use Rattle.account_text.proofs.SourceRows.{source_at}
use Rattle.account_text.proofs.sources.Sources.of_leaf.Goals as goal

pub returns : goal.returns
returns c =
    let s = c.args.self.now in
    let size = s.are.size in
    let low : c.args.leaf < length s.leaves.items = omega (arith, size, c.requires) in
    source_at s.cluster.now s.states.now.moment s.leaves.items c.args.leaf c.index.result.now s.are low (search rules)
