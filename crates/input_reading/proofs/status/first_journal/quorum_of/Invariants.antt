use Rattle.std.proofs.Common.{◌≡◌, drop}
use Rattle.input_reading.specs.FirstJournal.{first_said, quorum_in}
use Rattle.input_reading.proofs.status.first_journal.quorum_of.Given as goal

abbrev pub invariant-loop-line : goal.invariant-loop-line
invariant-loop-line l = first_said quorum_in l.told ≡ first_said quorum_in (drop l.line-index l.told)
