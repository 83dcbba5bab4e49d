use Rattle.std.proofs.Common.{◌≡◌, ◌∙◌}
use Rattle.cluster_types.specs.declared.run.RunLine.TheVariants as line
use Rattle.cluster_types.specs.Texts.{run_line}
use Rattle.live_run.specs.LineWriters.{writer_cluster}
use Rattle.live_run.proofs.Written.{goes_all, offers_all}
use Rattle.live_run.proofs.line_writer.LineWriter.unexpected.Goals as goal

pub returns-clause-text : goal.returns-clause-text
returns-clause-text g c =
    let text : c.as_slice.result.now ≡ run_line (writer_cluster c.args.self.now) (line.Unexpected c.args.line) = c.as_slice.ensures.text ∙ c.write_line.ensures.text in
    goes_all c.finish.result _ _ _ _ _ _ (rw text at c.in_ok-push.ensures.text) c.finish.ensures.text c.finish.ensures.few

pub returns-clause-whole : goal.returns-clause-whole
returns-clause-whole g c =
    let text : c.as_slice.result.now ≡ run_line (writer_cluster c.args.self.now) (line.Unexpected c.args.line) = c.as_slice.ensures.text ∙ c.write_line.ensures.text in
    offers_all c.finish.result _ _ _ _ _ _ (rw text at c.in_ok-push.ensures.whole) c.finish.ensures.whole
