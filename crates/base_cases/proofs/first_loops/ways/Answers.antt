use Rattle.base_cases.proofs.first_loops.ways.Goals as goal

pub is_loop_free-requires : goal.is_loop_free-requires
is_loop_free-requires g c = c.end_within.ensures.0 c.if-assert-2.false

pub longest_ways-requires-clause-ends : goal.longest_ways-requires-clause-ends
longest_ways-requires-clause-ends g c = c.end_within.ensures.0 c.if-assert-2.false

pub longest_ways-requires-clause-free : goal.longest_ways-requires-clause-free
longest_ways-requires-clause-free g c = (rw c.expect-free.ensures at c.is_loop_free.ensures.free).0 c.if-assert-3.false
