-- What is read of a head that stands alone is valid: its cluster, and its first journal.
use Rattle.std.proofs.Common.{◌≡◌, ℕ, List, Result, Ok, IfOk, sym, subst}
use Rattle.crm_parse.specs.Marks.{sections_of}
use Rattle.cluster_model.specs.Resolution.{resolution_of}
use Rattle.cluster_model.proofs.ValidCluster.{resolved_valid}
use Rattle.cluster_types.specs.declared.cluster.Cluster.{Cluster}
use Rattle.cluster_types.specs.Safety.{IsAtRest}
use Rattle.cluster_types.specs.Valid.{IsValid}
use Rattle.input_reading.proofs.StatusJournals.{journal_idle, journal_orderly}
use Rattle.faults.specs.declared.fault.Fault.{Fault}
use Rattle.faults.specs.Reading.{Gives}
use Rattle.lemmas.proofs.Results.{by_result}
use Rattle.input_reading.specs.declared.input.cause.InputCause.{InputCause}
use Rattle.input_reading.specs.declared.input.cause.InputCause.TheVariants as cause
use Rattle.input_reading.specs.declared.input.reading.Configuration.{Configuration}
use Rattle.input_reading.specs.declared.input.reading.Head.{Head}
use Rattle.input_reading.specs.Reading.{configuration_of, head_of, lone_head_of, status_lines}
use Rattle.input_reading.proofs.ValidInput.{head_made, passed, passed_on, read_from}

-- the steps of a head that is read
record IsBegun (text : List ℕ) (head : Head) : Type 0 where
  found : Configuration
  cluster : Cluster
  configuration : configuration_of sections_of text ≡ Ok found
  resolves : resolution_of found.leaves found.crm.statements ≡ Ok cluster
  made : head_of found.crm cluster (status_lines found.marks found.lines) ≡ Ok head

begun : (text : List ℕ) (head : Head) → lone_head_of text ≡ Ok head → IsBegun text head
unfolding lone_head_of
begun text head r =
    let found = passed_on (configuration_of sections_of text) _ head r in
    let cluster = passed cause.Cluster (resolution_of found.gave.leaves found.gave.crm.statements) _ head found.goes_on in
    let lines = status_lines found.gave.marks found.gave.lines in
    let read = passed_on (head_of found.gave.crm cluster.gave lines) (λ (read : Head). Ok read) head cluster.goes_on in
    let same : read.gave ≡ head = cc in
    record { found = found.gave; cluster = cluster.gave; configuration = found.is; resolves = cluster.is; made = rw same at read.is }

module _ (text : List ℕ) (head : Head) (r : lone_head_of text ≡ Ok head) where
  steps : IsBegun text head
  steps = begun text head r

  pub cluster_valid : IsValid head.cluster
  cluster_valid =
      let from = read_from sections_of text steps.found steps.configuration in
      let made = head_made steps.found.crm steps.cluster (status_lines steps.found.marks steps.found.lines) head steps.made in
      subst (λ (c : Cluster). IsValid c) (sym made.same)
      (resolved_valid from.lines steps.found.crm steps.found.leaves steps.cluster from.statements from.leaves steps.resolves)

  pub journal_at_rest : IsAtRest head.journal.events
  journal_at_rest =
      let lines = status_lines steps.found.marks steps.found.lines in
      let made = head_made steps.found.crm steps.cluster lines head steps.made in
      (journal_orderly steps.cluster lines head.journal made.journal, journal_idle steps.cluster lines head.journal made.journal)

-- what a call that read a head returned
module _ (text : List ℕ) (given : Result Head (Fault InputCause)) where
  pub valid_given : Gives (λ (head : Head). head) given (lone_head_of text) → IfOk given (λ head. IsValid head.cluster)
  valid_given h = by_result (λ (r : Result Head (Fault InputCause)). Gives (λ (head : Head). head) r (lone_head_of text) → IfOk r (λ head. IsValid head.cluster))
      (λ head read. cluster_valid text head read) (λ fault read. tt) given h

  pub at_rest_given : Gives (λ (head : Head). head) given (lone_head_of text) → IfOk given (λ head. IsAtRest head.journal.events)
  at_rest_given h = by_result (λ (r : Result Head (Fault InputCause)). Gives (λ (head : Head). head) r (lone_head_of text) → IfOk r (λ head. IsAtRest head.journal.events))
      (λ head read. journal_at_rest text head read) (λ fault read. tt) given h
