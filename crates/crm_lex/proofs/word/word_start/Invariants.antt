use Rattle.std.proofs.Common.{◌≡◌, drop}
use Rattle.crm_lex.specs.Words.{words_of}
use Rattle.crm_lex.proofs.word.word_start.Given as goal

abbrev pub invariant-loop-at : goal.invariant-loop-at
invariant-loop-at l = words_of (drop l.from l.text) ≡ words_of (drop l.at l.text)
