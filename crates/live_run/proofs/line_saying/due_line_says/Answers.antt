use Rattle.std.proofs.Common.{ap, sym, ◌∙◌}
use Rattle.crm_lex.specs.Reading.{reads_line}
use Rattle.live_run.specs.LineSays.{read_says}
use Rattle.live_run.specs.declared.line_saying.Said.TheVariants as said
use Rattle.live_run.proofs.WordsSaid.{words_read, words_refused}
use Rattle.live_run.proofs.line_saying.due_line_says.Goals as goal

pub returns-in-Ok-clause-says : goal.returns-in-Ok-clause-says
returns-in-Ok-clause-says c =
    let cluster = c.args.names.now in
    words_read cluster c.args.place (reads_line c.args.line c.args.raw.now) c.lex_one.new.into c.words_say.result (sym c.in-Ok.ensures.answer) c.in-Ok.ensures.words
    c.words_say.ensures.says
    ∙ ap (λ n. read_says cluster c.args.place (reads_line n c.args.raw.now)) (sym c.requires.line)

pub returns-in-Err-clause-says : goal.returns-in-Err-clause-says
returns-in-Err-clause-says c =
    let cluster = c.args.names.now in
    ap said.Stop c.refused_words.ensures
    ∙ words_refused cluster c.args.place (reads_line c.args.line c.args.raw.now) c.in-Err.fault (sym c.in-Err.ensures.answer)
    ∙ ap (λ n. read_says cluster c.args.place (reads_line n c.args.raw.now)) (sym c.requires.line)
