use Rattle.std.proofs.Common.{sym, subst}
use Rattle.live_run.specs.Inner.LineFits.{SaidFits}
use Rattle.live_run.proofs.Fitting.{read_fits}
use Rattle.live_run.proofs.line_saying.words_say.Goals as goal

pub returns-clause-fits : goal.returns-clause-fits
returns-clause-fits c =
    subst (SaidFits c.args.place) (sym c.answer_says.ensures) (read_fits c.args.place c.read_result.result c.read_result.ensures.few c.read_result.ensures.within)
