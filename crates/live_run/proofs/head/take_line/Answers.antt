use Rattle.std.proofs.Common.{List, ℕ, ap, sym, ◌∙◌}
use Rattle.cluster_io.specs.LineReaders.{reading_of}
use Rattle.crm_lex.specs.Reading.{reads_line}
use Rattle.live_run.specs.Heads.{line_by_words, taken, found_by}
use Rattle.live_run.proofs.HeadBringing.{words_said}
use Rattle.live_run.proofs.head.take_line.Goals as goal

pub returns-in-Ok-clause-says : goal.returns-in-Ok-clause-says
returns-in-Ok-clause-says g c memory text reading others =
    let handed = reading_of c.args.reader.now in
    let ends = taken text reading.next reading.room in
    words_said (reads_line c.number.result c.raw-raw.result.now) c.lex_one.new.into c.begins_results.result c.then_some.result _ (sym c.in-Ok.ensures.answer)
    c.in-Ok.ensures.words c.begins_results.ensures c.then_some.ensures text reading others
    ∙ ap (λ (n : ℕ). found_by (line_by_words (reads_line n c.raw-raw.result.now)) ends others) c.number.ensures
    ∙ ap (λ (raw : List ℕ). found_by (line_by_words (reads_line handed.number raw)) ends others) c.raw-raw.ensures
