use Rattle.cluster_types.specs.Journals.{moment_of}
use Rattle.input_reading.proofs.ResultsSaid.{results-given}
use Rattle.input_reading.proofs.results.result_lines.read_results.Goals as goal

pub returns-clause-said : goal.returns-clause-said
returns-clause-said c =
    results-given c.args.names.now (moment_of c.args.journal.now.events) (λ results. results.items) c.args.lines.now c.results_of.result c.results_of.ensures
