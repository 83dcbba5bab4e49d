use Rattle.listed.proofs.Blocks.{few_counted}
use Rattle.listed.proofs.set.NumberSet.insert.Goals as goal

pub one_more-requires-clause-few : goal.one_more-requires-clause-few
one_more-requires-clause-few c =
    λ node some lt. rw c.as_mut_slice.ensures.value (few_counted c.self.inside.flags.items c.self.inside.counts.items c.self.inside.leaves c.self.inside.height c.self.invariant node some lt)
