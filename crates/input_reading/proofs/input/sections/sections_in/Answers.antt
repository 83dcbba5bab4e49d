use Rattle.input_reading.specs.declared.input.sections.LastSection.TheVariants.{Results, Trace}
use Rattle.input_reading.proofs.Marks.{within}
use Rattle.input_reading.proofs.input.sections.sections_in.Goals as goal

pub returns-in-Results-clause-results : goal.returns-in-Results-clause-results
returns-in-Results-clause-results c = within Results c.args.lines.now c.sections_with_results.result c.sections_with_results.ensures

pub returns-in-Trace-clause-results : goal.returns-in-Trace-clause-results
returns-in-Trace-clause-results c = within Trace c.args.lines.now c.sections_with_trace.result c.sections_with_trace.ensures
