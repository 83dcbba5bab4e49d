use Rattle.std.proofs.Common.{◌∙◌}
use Rattle.input_reading.proofs.FirstWords.{kept_suffice}
use Rattle.input_reading.proofs.ResultsSaid.{answer-given}
use Rattle.input_reading.proofs.results.result_lines.read_result.Goals as goal

pub returns-clause-whole : goal.returns-clause-whole
returns-clause-whole c all e =
    c.result_of.ensures.value ∙ kept_suffice c.args.names.now c.args.moment c.args.before c.args.line c.args.words.now all e

pub returns-clause-said : goal.returns-clause-said
returns-clause-said c all e =
    answer-given c.args.names.now c.args.moment c.args.before c.args.line c.args.words.now all c.result_of.result c.result_of.ensures.value e
