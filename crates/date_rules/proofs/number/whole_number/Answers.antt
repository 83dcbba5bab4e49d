use Rattle.date_rules.proofs.WholeNumberLemmas.{whole_number-not_utf8}
use Rattle.date_rules.proofs.number.whole_number.Goals as goal

pub returns-in-Err : goal.returns-in-Err
returns-in-Err c = whole_number-not_utf8 c.args.text.now c.in-Err.ensures.cases.0
