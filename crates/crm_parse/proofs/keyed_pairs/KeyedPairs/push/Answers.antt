use Rattle.crm_parse.proofs.keyed_pairs.KeyedPairs.push.Goals as goal

pub invariant_of-self : goal.invariant_of-self
invariant_of-self c = rw c.reserve.ensures.items c.self.invariant
