use Rattle.std.proofs.Common.{◌≡◌, drop}
use Rattle.input_reading.specs.FirstJournal.{first_said, now_in}
use Rattle.input_reading.proofs.status.first_journal.now_of.Given as goal

abbrev pub invariant-loop-line : goal.invariant-loop-line
invariant-loop-line l = first_said now_in l.told ≡ first_said now_in (drop l.line-index l.told)
