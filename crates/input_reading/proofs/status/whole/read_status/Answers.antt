use Rattle.input_reading.proofs.StatusSaid.{status-given}
use Rattle.input_reading.proofs.status.whole.read_status.Goals as goal

pub returns-clause-said : goal.returns-clause-said
returns-clause-said c = status-given c.args.names.now c.args.lines.now c.status_journal.result c.status_journal.ensures.read
