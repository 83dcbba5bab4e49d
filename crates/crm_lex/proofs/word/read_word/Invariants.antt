use Rattle.std.proofs.Common.{◌≡◌, ◌+◌, ◌-◌, ◌≤◌, ◌++◌, length, drop, vec_len, vec_capacity}
use Rattle.crm_lex.specs.Inner.Parts.{word_on, words_behind}
use Rattle.crm_lex.specs.declared.quoting.Place.TheVariants.{Outside}
use Rattle.crm_lex.proofs.word.read_word.Given as goal

abbrev pub invariant-loop-at : goal.invariant-loop-at
invariant-loop-at l = record {
  low : l.from ≤ l.at;
  letters : l.fn.word.items ++ word_on Outside (drop l.from l.text) ≡ l.word.items ++ word_on l.place (drop l.at l.text);
  behind : words_behind Outside (drop l.from l.text) ≡ words_behind l.place (drop l.at l.text);
  room : vec_len l.word + (length l.text - l.at) ≤ vec_len l.fn.word + (length l.text - l.from);
  capacity : vec_capacity l.word ≡ vec_capacity l.fn.word;
}
