use Rattle.std.proofs.Common.{Some, [], ◌∷◌, ◌++◌}
use Rattle.lemmas.proofs.Members.{all_append}
use Rattle.cluster_types.specs.declared.run.RunLine.TheVariants as line
use Rattle.run_safety.proofs.SoFar.{stopped_runs}
use Rattle.input_reading.specs.PrintedLines.{IsLineOf}
use Rattle.input_reading.proofs.TextAgain.{text_again}
use Rattle.written_runs.proofs.WrittenLines.{run_written, told_written}
use Rattle.written_runs.proofs.read_again.texts_of_runs_read_again.Goals as goal

pub returns-clause-text : goal.returns-clause-text
returns-clause-text c = λ cl ps whole es rest left lines at valid intervals fit runs few.
    text_again cl valid lines (run_written cl valid intervals ps whole es at rest left lines runs fit few)

pub returns-clause-whole_run : goal.returns-clause-whole_run
returns-clause-whole_run c = λ cl ps whole es left answers lines valid intervals fit few run.
    text_again cl valid lines (told_written cl valid intervals ps whole es run.last answers run.behind lines run.steps fit few)

pub returns-clause-so_far : goal.returns-clause-so_far
returns-clause-so_far c = λ cl ps whole es left answers behind lines valid intervals fit few run.
    text_again cl valid lines (told_written cl valid intervals ps whole es run.last answers behind lines run.steps fit few)

pub returns-clause-cut : goal.returns-clause-cut
returns-clause-cut c = λ cl ps whole es left answers behind given lines l valid intervals fit few run number.
    text_again cl valid (lines ++ line.Unexpected l ∷ [])
    (all_append (IsLineOf cl) lines (line.Unexpected l ∷ []) (told_written cl valid intervals ps whole es run.last answers run.unread lines run.steps fit few) (number, tt))

pub returns-clause-stopped : goal.returns-clause-stopped
returns-clause-stopped c = λ cl ps whole es left answers behind told call closing valid intervals fit few run.
    text_again cl valid ((told ++ call) ++ closing)
    (told_written cl valid intervals ps whole es run.last answers behind ((told ++ call) ++ closing) (stopped_runs cl ps whole es left (Some answers) behind told call closing run) fit few)
