-- The last steps of reading an input (follow from the steps of reading).
use Rattle.std.specs.Prelude.{◌≡◌, List, Result, Ok}
use Rattle.faults.specs.declared.fault.Fault.{Fault}
use Rattle.faults.specs.Reading.{◌>>=◌, faulting}
use Rattle.crm_lex.specs.declared.line.Line.{Line}
use Rattle.crm_parse.specs.declared.statement.Crm.{Crm}
use Rattle.crm_parse.specs.Statements.{statements_of}
use Rattle.cluster_types.specs.declared.cluster.Cluster.{Cluster}
use Rattle.cluster_types.specs.declared.journal.Journal.{Journal}
use Rattle.cluster_types.specs.Journals.{moment_of}
use Rattle.input_reading.specs.FirstJournal.{status_journal}
use Rattle.input_reading.specs.Results.{results_of}
use Rattle.input_reading.specs.declared.input.cause.InputCause.{InputCause}
use Rattle.input_reading.specs.declared.input.cause.InputCause.TheVariants as cause
use Rattle.input_reading.specs.declared.input.reading.Input.{Input}
use Rattle.input_reading.specs.declared.results.result_lines.ResultLine.{ResultLine}
use Rattle.input_reading.specs.Reading.{head_of, with_results}

-- the statements are those of some lines
pub record AreStated (crm : Crm) : Type 0 where
  pub lines : List Line
  pub are : statements_of lines ≡ Ok crm

-- the input whose configuration says this cluster, of these lines of the status and these result lines
abbrev pub input_with : Crm → Cluster → List Line → List Line → Result Input (Fault InputCause)
input_with crm cluster status results = head_of crm cluster status >>= (λ head. with_results head results)

-- the journal that these lines of the status tell of a cluster, and behind it the answers of these result lines
unfoldable pub status_and_results : Cluster → List Line → List Line → Result (Journal × List ResultLine) (Fault InputCause)
status_and_results cluster status results = do
  journal ← faulting cause.Status (status_journal cluster status)
  answers ← faulting cause.Results (results_of cluster (moment_of journal.events) results)
  Ok (journal, answers)
