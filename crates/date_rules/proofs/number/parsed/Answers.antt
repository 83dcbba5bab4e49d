use Rattle.std.proofs.Common.{◌∙◌}
use Rattle.date_rules.proofs.WholeNumberLemmas.{whole_number-parsed}
use Rattle.date_rules.proofs.number.parsed.Goals as goal

pub returns : goal.returns
returns c = c.ok.ensures.value ∙ whole_number-parsed c.args.text.now _ c.parse.ensures.value.0
