use Rattle.input_reading.proofs.RunSaid.{run-given}
use Rattle.input_reading.proofs.run.run_reading.read_run.Goals as goal

pub returns-clause-said : goal.returns-clause-said
returns-clause-said c = run-given c.args.names.now (λ text. text.lines) c.args.lines.now c.run_lines.result c.run_lines.ensures.lines
