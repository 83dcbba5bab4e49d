use Rattle.std.proofs.Common.{◌∙◌, ap, arith}
use Rattle.std.proofs.lemmas.Bool.{both_ways}
use Rattle.std.proofs.lemmas.Grind.{common_steps}
use Rattle.cluster_io.specs.Readings.{Reading}
use Rattle.cluster_io.proofs.Turns.{Sofar-more, Sofar-settled, held_so_far, told}
use Rattle.cluster_io.proofs.line_reader.LineReader.line.Goals as goal

pub loop-step-preserved : goal.loop-step-preserved
loop-step-preserved g c =
    let so = c.loop-step.invariant.sofar in
    let went = c.in_default-turn.ensures.turned in
    record {
      sofar = Sofar-more _ _ _ _ _ _ so went;
      going = c.loop-step.invariant.going;
      empty = grind (arith, common_steps);
      unread = λ h. c.in_default-turn.ensures.untouched (held_so_far _ _ _ _ so h) ∙ c.loop-step.invariant.unread h;
      quiet = λ h.
          c.in_default-turn.ensures.quiet (ap (λ (r : Reading). r.ended) so.leaves ∙ h) ∙ c.loop-step.invariant.quiet h;
      at_end = λ h. absurd (both_ways c.turn.new.self.ended (ap (λ (r : Reading). r.ended) went.leaves ∙ went.going) h);
      same_end = c.in_default-turn.ensures.same_end;
      count = omega (arith, c.in_default-turn.ensures.bears.count, c.loop-step.invariant.count);
      no_failure = λ alone. c.in_default-turn.ensures.bears.no_failure alone (λ failed. cc) ∙ c.loop-step.invariant.no_failure alone;
      same_source = grind (arith, common_steps);
    }

pub returns-in-Some-turn-clause-told : goal.returns-in-Some-turn-clause-told
returns-in-Some-turn-clause-told g c = λ none.
    told _ _ _ _ _ (Sofar-settled _ _ _ _ _ _ _ c.loop-step.invariant.sofar c.in-Some-turn.ensures.turned)
