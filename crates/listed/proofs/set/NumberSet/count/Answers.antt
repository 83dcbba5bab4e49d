use Rattle.std.proofs.Common.{arith}
use Rattle.std.proofs.lemmas.List.{get_or_read}
use Rattle.listed.proofs.Blocks.{counted_all, few_all, some_wide}
use Rattle.listed.proofs.set.NumberSet.count.Goals as goal

pub index-requires : goal.index-requires
index-requires c = omega (arith, some_wide c.self.inside.height)

pub overflow_cast-result : goal.overflow_cast-result
overflow_cast-result c =
    let w = some_wide c.self.inside.height in
    let r = get_or_read c.self.inside.counts.items 1 c.index.result.now (omega arith) c.index.ensures 0 in
    let a = counted_all c.self.inside.flags.items c.self.inside.counts.items c.self.inside.leaves c.self.inside.height c.self.invariant in
    let f = few_all c.self.inside.flags.items c.self.inside.counts.items c.self.inside.leaves c.self.inside.height c.self.invariant in
    omega arith

pub returns : goal.returns
returns c =
    let w = some_wide c.self.inside.height in
    let r = get_or_read c.self.inside.counts.items 1 c.index.result.now (omega arith) c.index.ensures 0 in
    let a = counted_all c.self.inside.flags.items c.self.inside.counts.items c.self.inside.leaves c.self.inside.height c.self.invariant in
    cc
