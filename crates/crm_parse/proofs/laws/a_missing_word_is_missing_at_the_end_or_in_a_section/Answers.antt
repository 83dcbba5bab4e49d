use Rattle.crm_parse.proofs.LinesLack.{begins-or-lacks}
use Rattle.crm_parse.proofs.laws.a_missing_word_is_missing_at_the_end_or_in_a_section.Goals as goal

pub returns : goal.returns
returns c = λ before words e. begins-or-lacks before words e
