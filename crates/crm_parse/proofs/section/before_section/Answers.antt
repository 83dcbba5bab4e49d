use Rattle.std.proofs.Common.{◌≡◌, ◌∙◌, rules, tests}
use Rattle.std.specs.List.{position_or_len}
use Rattle.std.proofs.lemmas.Iterator.{YieldsList-from_slice}
use Rattle.std.proofs.lemmas.Iterator.Search.{position_from_yields_List}
use Rattle.crm_parse.specs.Sections.{is_section}
use Rattle.crm_parse.proofs.Cuts.{own_before, rest_before}
use Rattle.crm_parse.proofs.Places.{first_or_end}
use Rattle.crm_parse.proofs.section.before_section.Goals as goal

pub returns-clause-own : goal.returns-clause-own
returns-clause-own c =
    let place : c.unwrap_or.result ≡ position_or_len (is_section c.args.owner) c.args.words.now =
    c.unwrap_or.ensures ∙ first_or_end (is_section c.args.owner) c.args.words.now _ (position_from_yields_List (is_section c.args.owner) _ _ _ c.position-next.ensures.ran (YieldsList-from_slice c.args.words.now cc) (λ x b q k. search (rules, tests))) in
    rw place (own_before c.args.owner c.args.words.now)

pub returns-clause-rest : goal.returns-clause-rest
returns-clause-rest c =
    let place : c.unwrap_or.result ≡ position_or_len (is_section c.args.owner) c.args.words.now =
    c.unwrap_or.ensures ∙ first_or_end (is_section c.args.owner) c.args.words.now _ (position_from_yields_List (is_section c.args.owner) _ _ _ c.position-next.ensures.ran (YieldsList-from_slice c.args.words.now cc) (λ x b q k. search (rules, tests))) in
    rw place (rest_before c.args.owner c.args.words.now)
