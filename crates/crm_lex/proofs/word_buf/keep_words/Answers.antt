use Rattle.std.proofs.Common.{◌≡◌, [], ◌∷◌, ◌++◌, length, take, drop, sym, ap, ◌∙◌, append-nil, arith}
use Rattle.std.proofs.lemmas.List.{drop_all, take_all}
use Rattle.crm_lex.specs.Words.{words_of}
use Rattle.crm_lex.specs.Inner.Parts.{word_on}
use Rattle.crm_lex.specs.WordRoom.{words_at}
use Rattle.crm_lex.specs.declared.quoting.Place.TheVariants.{Outside}
use Rattle.crm_lex.proofs.WordRoom.{keep_word, length-words_at}
use Rattle.crm_lex.proofs.word_buf.keep_words.Goals as goal

pub loop-at-preserved : goal.loop-at-preserved
loop-at-preserved c =
    let l = c.loop-at in
    let text = c.args.text.now in
    let read = c.read_word-behind in
    let next = c.word_start-at-in-loop-at in
    let word = word_on Outside (drop l.at text) in
    let words : words_of (drop l.at text) ≡ word ∷ words_of (drop next.result text) = read.ensures.words ∙ ap (λ ws. word ∷ ws) next.ensures.words in
    let kept = keep_word l.letters.items read.new.word.items l.spans.items c.keep_span.new.spans.items _ word l.invariant.spans_within read.ensures.letters (omega (arith, c.len-start.ensures)) (omega (arith, c.len.ensures)) c.keep_span.ensures.spans in
    let fewer = ap length words in
    record {
      at_within = next.ensures.high;
      begins = next.ensures.begins;
      count = omega (arith, l.invariant.count, fewer);
      few = omega (arith, l.invariant.few, read.ensures.low, next.ensures.low);
      first = l.invariant.first ∙ (ap (λ ws. take 8 (words_at l.letters.items l.spans.items ++ ws)) words ∙ sym (kept.first (words_of (drop next.result text))));
      spans_within = kept.places;
      all = omega (arith, l.invariant.all, c.keep_span.ensures.length);
      room = omega (arith, l.invariant.room, read.ensures.room, next.ensures.low, next.ensures.high);
      letters_room = read.ensures.capacity ∙ l.invariant.letters_room;
      spans_room = c.keep_span.ensures.capacity ∙ l.invariant.spans_room;
    }

pub returns-clause-first : goal.returns-clause-first
returns-clause-first c =
    let l = c.loop-at in
    let text = c.args.text.now in
    let kept = words_at l.letters.items l.spans.items in
    let none : words_of (drop l.at text) ≡ words_of [] = ap words_of (drop_all l.at text (omega arith)) in
    let all : take 8 (kept ++ words_of (drop l.at text)) ≡ take 8 kept = ap (λ ws. take 8 (kept ++ ws)) none ∙ ap (take 8) (append-nil kept) in
    sym (l.invariant.first ∙ (all ∙ take_all 8 kept (omega (arith, length-words_at l.letters.items l.spans.items, l.invariant.all))))
