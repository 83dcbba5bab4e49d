use Rattle.std.proofs.Common.{◌≡◌, drop}
use Rattle.crm_lex.specs.Words.{place_behind}
use Rattle.crm_lex.specs.declared.quoting.Place.TheVariants.{Outside}
use Rattle.crm_lex.proofs.word.is_open.Given as goal

abbrev pub invariant-loop-at : goal.invariant-loop-at
invariant-loop-at l = place_behind Outside l.text ≡ place_behind l.place (drop l.at l.text)
