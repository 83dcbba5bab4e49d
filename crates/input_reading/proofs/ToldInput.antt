-- What the status and the results tell of a cluster, read at once, makes the input that is read step by step.
use Rattle.std.proofs.Common.{◌≡◌, List, Result, Ok, refl}
use Rattle.crm_lex.specs.declared.line.Line.{Line}
use Rattle.crm_parse.specs.declared.statement.Crm.{Crm}
use Rattle.cluster_types.specs.declared.cluster.Cluster.{Cluster}
use Rattle.cluster_types.specs.declared.journal.Journal.{Journal}
use Rattle.cluster_types.specs.Journals.{moment_of}
use Rattle.faults.specs.declared.fault.Fault.{Fault}
use Rattle.faults.specs.Reading.{faulting, ◌>>=◌}
use Rattle.lemmas.proofs.Results.{by_result}
use Rattle.input_reading.specs.FirstJournal.{status_journal}
use Rattle.input_reading.specs.Results.{results_of}
use Rattle.input_reading.specs.declared.input.cause.InputCause.{InputCause}
use Rattle.input_reading.specs.declared.input.cause.InputCause.TheVariants as cause
use Rattle.input_reading.specs.declared.input.reading.Head.{Head}
use Rattle.input_reading.specs.declared.input.reading.Input.{Input}
use Rattle.input_reading.specs.declared.results.result_lines.ResultLine.{ResultLine}
use Rattle.input_reading.specs.Reading.{head_of, with_results}
use Rattle.input_reading.specs.Inner.Reading.{input_with, status_and_results}

module _ (crm : Crm) (cluster : Cluster) (status results : List Line) where
  abbrev headed : Journal → Result Head (Fault InputCause)
  headed journal = Ok (record { crm = crm; cluster = cluster; journal = journal })

  abbrev made : Journal × List ResultLine → Result Input (Fault InputCause)
  made told = Ok (record { head = record { crm = crm; cluster = cluster; journal = told.0 }; results = told.1 })

  abbrev answered : Journal → Result (Journal × List ResultLine) (Fault InputCause)
  answered journal = faulting cause.Results (results_of cluster (moment_of journal.events) results) >>= (λ answers. Ok (journal, answers))

  pub input_told : input_with crm cluster status results ≡ status_and_results cluster status results >>= made
  unfolding head_of status_and_results with_results
  input_told =
      by_result
      (λ read. (faulting cause.Status read >>= headed) >>= (λ head. with_results head results) ≡ (faulting cause.Status read >>= answered) >>= made)
      (λ journal. by_result
      (λ read. faulting cause.Results read >>= (λ answers. made (journal, answers)) ≡ (faulting cause.Results read >>= (λ answers. Ok (journal, answers))) >>= made)
      (λ answers. refl)
      (λ why. refl)
      (results_of cluster (moment_of journal.events) results))
      (λ why. refl)
      (status_journal cluster status)
