use Rattle.std.proofs.Common.{◌≡◌, ◌+◌, ◌-◌, ◌<◌, ◌≤◌, ◌++◌, false, min, length, take, drop, slice_index, vec_len, vec_capacity}
use Rattle.crm_lex.specs.RawLines.{is_blank}
use Rattle.crm_lex.specs.Words.{words_of}
use Rattle.crm_lex.specs.WordRoom.{AllWithin, words_at}
use Rattle.crm_lex.proofs.word_buf.keep_words.Given as goal

abbrev pub invariant-loop-at : goal.invariant-loop-at
invariant-loop-at l = record {
  at_within : l.at ≤ length l.text;
  begins : l.at < length l.text → is_blank (slice_index l.text l.at) ≡ false;
  count : l.count + length (words_of (drop l.at l.text)) ≡ length (words_of l.text);
  few : l.count ≤ l.at;
  first : take 8 (words_of l.text) ≡ take 8 (words_at l.letters.items l.spans.items ++ words_of (drop l.at l.text));
  spans_within : AllWithin (length l.letters.items) l.spans.items;
  all : vec_len l.spans ≡ min 8 l.count;
  room : vec_len l.letters + (length l.text - l.at) ≤ length l.text;
  letters_room : vec_capacity l.letters ≡ vec_capacity l.fn.letters;
  spans_room : vec_capacity l.spans ≡ vec_capacity l.fn.spans;
}

abbrev pub decreases-loop-at : goal.decreases-loop-at
decreases-loop-at l = length l.text - l.at
