use Rattle.std.proofs.Common.{◌≡◌, ◌++◌, drop}
use Rattle.input_reading.specs.FirstJournal.{history_of}
use Rattle.input_reading.proofs.status.first_journal.add_history.Given as goal

abbrev pub invariant-loop-line : goal.invariant-loop-line
invariant-loop-line l = l.fn.events ++ history_of l.told ≡ l.events ++ history_of (drop l.line-index l.told)
