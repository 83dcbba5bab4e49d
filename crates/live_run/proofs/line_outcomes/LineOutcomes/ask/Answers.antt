use Rattle.std.proofs.Common.{rules, inr, [], ◌∷◌, refl}
use Rattle.live_run.specs.SourceFollowed.{answers}
use Rattle.live_run.proofs.line_outcomes.LineOutcomes.ask.Goals as goal

-- src/line_outcomes.rt:162:5
pub returns-in-Answer-clause-said : goal.returns-in-Answer-clause-said
returns-in-Answer-clause-said g c =
    let until = c.in-Answer.ensures.until in
    record {
      follows = answers (rw c.in-Reading.is refl) (record {
        cluster_stays = refl;
        failed_stays = refl;
        lines = until.lines;
        given = c.in-Answer.result ∷ [];
        bytes = until.bytes;
        read = until.read;
        told = search rules;
        line = refl;
        rests = rw c.in-Reading.is (inr until.ends, until.near);
      });
      counts = search rules;
    }
