use Rattle.run_safety.proofs.Silent.{not_over}
use Rattle.run_safety.proofs.counts.no_run_is_whole_where_answers_lack.Goals as goal

pub returns : goal.returns
returns c = λ cl ps es left rest lines told run. not_over cl ps es left rest lines told run
