use Rattle.input_reading.proofs.status.whole.status_journal.Goals as goal

pub returns-clause-read : goal.returns-clause-read
returns-clause-read c = rw c.in_ok-told.ensures.read (rw c.as_slice.ensures at c.told_journal.ensures.read)
