use Rattle.written_runs.proofs.WrittenLines.{run_written}
use Rattle.written_runs.proofs.read_again.runs_print_lines_of_their_cluster.Goals as goal

pub returns : goal.returns
returns c = λ cl ps whole es rest left lines at valid intervals fit runs few. run_written cl valid intervals ps whole es at rest left lines runs fit few
