use Rattle.std.proofs.Common.{◌≡◌, drop}
use Rattle.input_reading.specs.FirstJournal.{first_said, word_in}
use Rattle.input_reading.proofs.status.first_journal.word_of.Given as goal

abbrev pub invariant-loop-line : goal.invariant-loop-line
invariant-loop-line l = first_said (word_in l.node) l.told ≡ first_said (word_in l.node) (drop l.line-index l.told)
