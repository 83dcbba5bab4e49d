use Rattle.std.proofs.Common.{◌∙◌, ap, arith}
use Rattle.std.proofs.lemmas.Grind.{common_steps}
use Rattle.cluster_io.proofs.Pieces.{Adds-piece, whole-piece}
use Rattle.cluster_io.proofs.sink.write_text.Goals as goal

pub loop-done-preserved : goal.loop-done-preserved
loop-done-preserved g c = record {
  within = grind (arith, common_steps);
  added = Adds-piece _ _ _ _ _ _ c.loop-done.invariant.added c.in-Took.ensures.bytes.2;
  count = omega (arith, c.in-Took.ensures.bears.count, c.loop-done.invariant.count);
  no_failure = λ alone. c.in-Took.ensures.bears.no_failure alone (λ failed. cc) ∙ c.loop-done.invariant.no_failure alone;
  whole = λ _. whole-piece _ _ _ _ c.loop-done.done
      (λ none. ap g.W.Sink.offered (c.loop-done.invariant.no_call none)) c.loop-done.invariant.whole c.in-Took.ensures.offered;
  no_call = grind (arith, common_steps);
}

pub returns-in-Failed-clause-whole : goal.returns-in-Failed-clause-whole
returns-in-Failed-clause-whole g c = λ _. whole-piece _ _ _ _ c.loop-done.done
    (λ none. ap g.W.Sink.offered (c.loop-done.invariant.no_call none)) c.loop-done.invariant.whole c.in-Failed.ensures.offered
