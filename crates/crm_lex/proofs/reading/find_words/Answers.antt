use Rattle.std.proofs.Common.{◌≡◌, ◌++◌, [], drop, sym, ap, ◌∙◌, append-nil, arith}
use Rattle.std.proofs.lemmas.List.{drop_all}
use Rattle.crm_lex.specs.Words.{words_of}
use Rattle.crm_lex.proofs.reading.find_words.Goals as goal

pub loop-at-preserved : goal.loop-at-preserved
loop-at-preserved c =
    let l = c.loop-at in
    let next = c.word_start-at-in-loop-at in
    record {
      within = next.ensures.high;
      begins = next.ensures.begins;
      words = l.invariant.words ∙ (sym c.in_ok-behind.ensures.words ∙ ap (λ words. c.add_word.new.found.items ++ words) next.ensures.words);
      capacity = c.add_word.ensures.capacity ∙ l.invariant.capacity;
    }

pub returns : goal.returns
returns c =
    let l = c.loop-at in
    let text = c.args.text.now in
    let none : words_of (drop l.at text) ≡ [] = ap words_of (drop_all l.at text (omega arith)) in
    record {
      words = sym (l.invariant.words ∙ (ap (λ words. l.found.items ++ words) none ∙ append-nil l.found.items));
      capacity = l.invariant.capacity;
    }
