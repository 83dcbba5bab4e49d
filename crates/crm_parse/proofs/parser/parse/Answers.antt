use Rattle.crm_parse.specs.Grammar.Configurations.{GivesWhatLinesSay, RefusesFirstSilentLine}
use Rattle.crm_parse.proofs.Grammar.ConfigurationRelated.{answer-is, text-refuses, text-says}
use Rattle.crm_parse.proofs.parser.parse.Goals as goal

pub returns-clause-says : goal.returns-clause-says
returns-clause-says c = answer-is (GivesWhatLinesSay c.args.lines.now) c.read_lines.result _ c.read_lines.ensures (text-says c.args.lines.now)

pub returns-clause-silent : goal.returns-clause-silent
returns-clause-silent c = answer-is (RefusesFirstSilentLine c.args.lines.now) c.read_lines.result _ c.read_lines.ensures (text-refuses c.args.lines.now)
