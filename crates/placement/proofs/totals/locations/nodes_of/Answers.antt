use Rattle.std.proofs.Common.{rules, arith}
use Rattle.placement.proofs.totals.locations.nodes_of.Goals as goal

pub returns : goal.returns
returns c = λ n low. let passed = c.of.ensures.passed n (omega (arith, low, c.len.ensures)) in search rules
