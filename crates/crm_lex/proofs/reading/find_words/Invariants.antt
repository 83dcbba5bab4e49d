use Rattle.std.proofs.Common.{◌≡◌, ◌-◌, ◌<◌, ◌≤◌, ◌++◌, false, length, drop, slice_index, vec_capacity}
use Rattle.crm_lex.specs.RawLines.{is_blank}
use Rattle.crm_lex.specs.Words.{words_of}
use Rattle.crm_lex.proofs.reading.find_words.Given as goal

abbrev pub invariant-loop-at : goal.invariant-loop-at
invariant-loop-at l = record {
  within : l.at ≤ length l.text;
  begins : l.at < length l.text → is_blank (slice_index l.text l.at) ≡ false;
  words : words_of l.text ≡ l.found.items ++ words_of (drop l.at l.text);
  capacity : vec_capacity l.word ≡ vec_capacity l.fn.word;
}

abbrev pub decreases-loop-at : goal.decreases-loop-at
decreases-loop-at l = length l.text - l.at
