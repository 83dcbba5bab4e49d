use Rattle.input_reading.proofs.TextsSaid.{start-given}
use Rattle.input_reading.proofs.ValidHead.{at_rest_given, valid_given}
use Rattle.input_reading.proofs.input.reading.read_lone_head.Goals as goal

pub returns-clause-valid : goal.returns-clause-valid
returns-clause-valid c = valid_given c.args.text.items c.lone_head_of.result c.lone_head_of.ensures.head

pub returns-clause-at_rest : goal.returns-clause-at_rest
returns-clause-at_rest c = at_rest_given c.args.text.items c.lone_head_of.result c.lone_head_of.ensures.head

pub returns-clause-said : goal.returns-clause-said
returns-clause-said c = start-given c.args.text.items c.lone_head_of.result c.lone_head_of.ensures.head
