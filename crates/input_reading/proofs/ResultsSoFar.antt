-- What holds while result lines are read.
use Rattle.std.proofs.Common.{◌≡◌, ℕ, ◌<◌, ◌^◌, List}
use Rattle.crm_lex.specs.declared.line.Line.{Line}
use Rattle.cluster_types.specs.declared.cluster.Cluster.{Cluster}
use Rattle.input_reading.specs.declared.results.result_lines.ResultLine.{ResultLine}
use Rattle.input_reading.specs.Results.{moment_after, results_of, with_result_lines}

-- the results so far are read, and the rest is still to be read
pub record AreRead (c : Cluster) (start moment : ℕ) (results : List ResultLine) (lines rest : List Line) : Type 0 where
  pub now : moment ≡ moment_after start results
  pub below : moment < 2 ^ 40
  pub read : results_of c start lines ≡ with_result_lines c start results rest
