use Rattle.std.proofs.Common.{IsTrue}
use Rattle.base_cases.proofs.loops_of_rules.closing_colocation.Goals as goal

pub colocation_loop-requires-clause-joined : goal.colocation_loop-requires-clause-joined
colocation_loop-requires-clause-joined g c =
    let told : IsTrue c.joins_leaves.result = let kept = c.if-assert-2.false in cc in
    c.joins_leaves.ensures.0 told
