use Rattle.std.proofs.Common.{◌≡◌, ◌++◌, length, sym, ap, subst, ◌∙◌, append_assoc, append-nil, arith}
use Rattle.crm_lex.proofs.Words.{word_more, Over, over_at_gap, over_at_end}
use Rattle.crm_lex.proofs.word.read_word.Goals as goal

pub loop-at-preserved : goal.loop-at-preserved
loop-at-preserved c =
    let l = c.loop-at in
    let text = c.args.text.now in
    let goes = word_more l.place c.after-place.result c.piece-piece.result c.next_byte-next.result text l.at c.loop-at-test.true c.next_byte-next.ensures c.piece-piece.ensures c.after-place.ensures c.if-is_gap.ensures in
    record {
      low = omega (arith, l.invariant.low);
      letters = l.invariant.letters ∙ (ap (λ xs. l.word.items ++ xs) goes.letters_on ∙ rw c.add_letter.ensures.letters (sym (append_assoc l.word.items _ _)));
      behind = l.invariant.behind ∙ goes.behind;
      room = omega (arith, l.invariant.room, c.add_letter.ensures.length);
      capacity = c.add_letter.ensures.capacity ∙ l.invariant.capacity;
    }

pub returns-then-is_gap : goal.returns-then-is_gap
returns-then-is_gap c =
    let l = c.loop-at in
    let text = c.args.text.now in
    let over = over_at_gap l.place c.piece-piece.result c.next_byte-next.result text c.args.from l.at l.invariant.low c.loop-at-test.true c.requires.begins c.piece-piece.ensures c.if-is_gap.ensures l.invariant.behind in
    record {
      low = over.low;
      high = omega (arith, c.loop-at-test.true);
      letters = sym (l.invariant.letters ∙ (ap (λ xs. l.word.items ++ xs) over.letters ∙ append-nil l.word.items));
      words = over.words;
      room = l.invariant.room;
      capacity = l.invariant.capacity;
    }

pub returns : goal.returns
returns c =
    let l = c.loop-at in
    let text = c.args.text.now in
    let all : l.at ≡ length text = omega (arith, l.auto.at-end (omega (arith, c.requires.from_in)), c.loop-at-test.false) in
    let over = over_at_end l.place text c.args.from l.at c.requires.from_in all c.requires.begins l.invariant.behind in
    let ended : Over l.place text c.args.from (length text) = subst (λ n. Over l.place text c.args.from n) all over in
    record {
      low = c.requires.from_in;
      high = omega arith;
      letters = sym (l.invariant.letters ∙ (ap (λ xs. l.word.items ++ xs) over.letters ∙ append-nil l.word.items));
      words = ended.words;
      room = omega (arith, l.invariant.room, all);
      capacity = l.invariant.capacity;
    }
