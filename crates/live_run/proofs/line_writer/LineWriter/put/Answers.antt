use Rattle.std.proofs.Common.{rules, ◌≡◌, ◌∙◌, refl}
use Rattle.cluster_types.specs.Texts.{run_line}
use Rattle.trace_text.specs.RunLines.{lent_line}
use Rattle.live_run.specs.LineWriters.{writer_cluster}
use Rattle.live_run.proofs.Written.{puts_one}
use Rattle.live_run.proofs.line_writer.LineWriter.put.Goals as goal

pub returns-clause-line : goal.returns-clause-line
returns-clause-line g c =
    let text : c.as_slice.result.now ≡ run_line (writer_cluster c.args.self.now) (lent_line c.args.line.now) = c.as_slice.ensures.text ∙ c.write_line.ensures.text in
    puts_one _ _ _ refl (search rules) (lent_line c.args.line.now) c.push.result (rw text at c.push.ensures.text) c.push.ensures.bears

pub returns-clause-whole : goal.returns-clause-whole
returns-clause-whole g c =
    let text : c.as_slice.result.now ≡ run_line (writer_cluster c.args.self.now) (lent_line c.args.line.now) = c.as_slice.ensures.text ∙ c.write_line.ensures.text in
    rw text at c.push.ensures.whole
