use Rattle.base_cases.proofs.first_loops.first.Goals as goal

pub first_loop-requires : goal.first_loop-requires
first_loop-requires g c = c.end_within.ensures.0 c.if-assert.false

pub is_loop_free-requires : goal.is_loop_free-requires
is_loop_free-requires g c = c.end_within.ensures.0 c.if-assert.false
