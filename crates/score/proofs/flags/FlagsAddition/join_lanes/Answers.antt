use Rattle.std.proofs.Common.{◌∙◌, arith}
use Rattle.std.specs.Int.Bits.{bit_or}
use Rattle.std.proofs.lemmas.Simd.{length-zip2, get_or-zip2}
use Rattle.score.proofs.flags.FlagsAddition.join_lanes.Goals as goal

pub returns-clause-lanes : goal.returns-clause-lanes
returns-clause-lanes c = length-zip2 bit_or c.args.ours c.args.theirs (omega (arith, c.requires.ours, c.requires.theirs)) ∙ c.requires.ours

pub returns-clause-each : goal.returns-clause-each
returns-clause-each c = λ k within.
    get_or-zip2 bit_or c.args.ours c.args.theirs k 0 0 0 (omega (arith, c.requires.ours)) (omega (arith, c.requires.theirs))
