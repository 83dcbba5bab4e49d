use Rattle.std.proofs.Common.{rules, ◌≡◌, ◌/◌, ◌&&◌, inl, inr, length, ap, sym, ◌∙◌, arith}
use Rattle.std.proofs.lemmas.Bool.{cases_eq, cases_lt}
use Rattle.score.specs.Choice.{has_enough}
use Rattle.score.specs.NodeSet.{has}
use Rattle.score.proofs.Words.{this_word, other_word, word_and_place, within_set}
use Rattle.score.proofs.candidate_set.kept.Goals as goal

pub loop-place-preserved : goal.loop-place-preserved
unfolding has
loop-place-preserved c =
    let l = c.loop-place in
    let kept = l.kept.words in
    let within = c.args.within.now.words in
    let totals = c.args.totals.now in
    let here = this_word kept within totals l.place c.word_of.result l.invariant.four c.loop-place-test.true c.word_of.ensures c.requires in
    let there = other_word kept within totals l.place c.word_of.result l.invariant.four c.loop-place-test.true c.word_of.ensures c.requires in
    record {
      four = search rules;
      below = λ n low. elim (cases_eq (n / 64) l.place) [
        | inl same ↦ here n same
        | inr other ↦ there n other ∙ l.invariant.below n (let f = word_and_place n in omega (arith, low, other, f))
      ];
      above = λ n high.
          let f = word_and_place n in
          let other : n / 64 ≡ l.place → ⊥ = λ e. omega (arith, high, f, e) in
          there n other ∙ l.invariant.above n (omega (arith, high));
    }

pub returns : goal.returns
unfolding has
returns c = λ n. elim (cases_lt n 256) [
  | inl low ↦ c.loop-place.invariant.below n (omega (arith, low, c.loop-place-test.false))
  | inr high ↦
      let long : length c.args.within.now.words ≡ 4 = search rules in
      within_set c.loop-place.kept.words c.loop-place.invariant.four n high ∙ sym (ap (λ b. b && has_enough c.args.totals.now n) (within_set c.args.within.now.words long n high))
]
