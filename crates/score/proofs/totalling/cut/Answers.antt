use Rattle.std.proofs.Common.{arith}
use Rattle.std.proofs.lemmas.Int.{ints, clamps}
use Rattle.score.proofs.totalling.cut.Goals as goal

pub returns : goal.returns
returns c = omega (arith, ints, clamps, c.clamp.ensures.value)
