use Rattle.input_reading.proofs.TextsSaid.{trace-given}
use Rattle.input_reading.proofs.ValidTrace.{at_rest_given, valid_given}
use Rattle.input_reading.proofs.input.trace.read_trace.Goals as goal

pub returns-clause-valid : goal.returns-clause-valid
returns-clause-valid c = valid_given c.args.text.items c.trace_of.result c.trace_of.ensures.trace

pub returns-clause-at_rest : goal.returns-clause-at_rest
returns-clause-at_rest c = at_rest_given c.args.text.items c.trace_of.result c.trace_of.ensures.trace

pub returns-clause-said : goal.returns-clause-said
returns-clause-said c = trace-given c.args.text.items c.trace_of.result c.trace_of.ensures.trace
