use Rattle.written_runs.proofs.Fronts.{on_the_way}
use Rattle.written_runs.proofs.SafeLines.{told_run}
use Rattle.written_runs.proofs.Telling.{tell_one}
use Rattle.written_runs.proofs.over_lines.journals_that_lines_tell_are_unique.Goals as goal

pub returns-clause-one : goal.returns-clause-one
returns-clause-one c = λ cl es later other lines one two. tell_one cl es later other lines one two

pub returns-clause-of_run : goal.returns-clause-of_run
returns-clause-of_run c = λ cl promotions whole es rest left lines at rests runs. told_run cl promotions whole es rest rests.1 at left lines runs

pub returns-clause-of_front : goal.returns-clause-of_front
returns-clause-of_front c = λ cl promotions whole es rest left lines before after at rests runs is. on_the_way cl promotions whole es rest rests.1 at left lines before after runs is
