use Rattle.std.proofs.Common.{◌≡◌, length}
use Rattle.listed.specs.Sets.{members}
use Rattle.trace_text.proofs.found_positions.clear.Given as goal

abbrev pub invariant-loop-number : goal.invariant-loop-number
invariant-loop-number l = length l.found ≡ length l.fn.found

abbrev pub decreases-loop-number : goal.decreases-loop-number
decreases-loop-number l = length (members l.found)
