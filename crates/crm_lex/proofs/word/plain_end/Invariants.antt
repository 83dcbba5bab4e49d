use Rattle.crm_lex.specs.Inner.Parts.{PlainBetween}
use Rattle.crm_lex.proofs.word.plain_end.Given as goal

abbrev pub invariant-loop-at : goal.invariant-loop-at
invariant-loop-at l = PlainBetween l.text l.from l.at
