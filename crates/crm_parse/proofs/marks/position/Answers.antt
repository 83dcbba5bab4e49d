use Rattle.std.proofs.Common.{◌∙◌, rules, tests}
use Rattle.std.proofs.lemmas.Iterator.{YieldsList-from_slice}
use Rattle.std.proofs.lemmas.Iterator.Search.{position_from_yields_List}
use Rattle.crm_parse.specs.Marks.{begins_with}
use Rattle.crm_parse.proofs.Places.{first_or_end}
use Rattle.crm_parse.proofs.marks.position.Goals as goal

pub returns : goal.returns
returns c =
    c.unwrap_or.ensures ∙ first_or_end (begins_with c.args.word.now) c.args.lines.now _ (position_from_yields_List (begins_with c.args.word.now) _ _ _ c.position-position.ensures.ran (YieldsList-from_slice c.args.lines.now cc) (λ x b q k. search (rules, tests)))
