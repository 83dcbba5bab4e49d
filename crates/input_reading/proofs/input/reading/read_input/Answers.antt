use Rattle.input_reading.proofs.TextsSaid.{input-given}
use Rattle.input_reading.proofs.ValidInput.{few_given, idle_given, ordered_given, valid_given}
use Rattle.input_reading.proofs.input.reading.read_input.Goals as goal

pub returns-clause-valid : goal.returns-clause-valid
returns-clause-valid c = valid_given c.args.text.items c.input_of.result c.input_of.ensures.input

pub returns-clause-orderly : goal.returns-clause-orderly
returns-clause-orderly c = ordered_given c.args.text.items c.input_of.result c.input_of.ensures.input

pub returns-clause-idle : goal.returns-clause-idle
returns-clause-idle c = idle_given c.args.text.items c.input_of.result c.input_of.ensures.input

pub returns-clause-few : goal.returns-clause-few
returns-clause-few c = few_given c.args.text.items c.input_of.result c.input_of.ensures.input

pub returns-clause-said : goal.returns-clause-said
returns-clause-said c = input-given c.args.text.items c.input_of.result c.input_of.ensures.input
