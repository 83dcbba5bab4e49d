use Rattle.std.proofs.Common.{◌+◌, not, ap, ◌∙◌, arith}
use Rattle.score.specs.Choice.{points_at}
use Rattle.score.proofs.Words.{below_zero, more}
use Rattle.score.proofs.candidate_set.word_by_lanes.Goals as goal

pub loop-at-preserved : goal.loop-at-preserved
loop-at-preserved c =
    let l = c.loop-at in
    let totals = c.args.totals.now in
    let i = l.invariant in
    record {
      from = omega (arith, i.from);
      within = omega (arith, i.within, c.loop-at-test.true);
      word = more totals c.args.first l.at l.word c.reaching.result 8 i.from (omega (arith, i.within, c.requires.few, c.loop-at-test.true)) c.reaching.ensures.eight
          (λ k low. c.reaching.ensures.each k low ∙ ap not (below_zero (points_at totals (l.at + k)))) i.word;
    }
