-- What is read of a text with a trace is valid: its cluster, its first journal, and the lines of its run.
use Rattle.std.proofs.Common.{◌≡◌, ℕ, List, Result, Ok, IfOk, refl, sym, subst}
use Rattle.crm_lex.specs.declared.line.Line.{Line}
use Rattle.cluster_model.specs.Resolution.{resolution_of}
use Rattle.cluster_model.proofs.ValidCluster.{resolved_valid}
use Rattle.cluster_types.specs.declared.cluster.Cluster.{Cluster}
use Rattle.cluster_types.specs.Safety.{IsAtRest}
use Rattle.cluster_types.specs.Valid.{IsValid}
use Rattle.input_reading.proofs.StatusJournals.{journal_idle, journal_orderly}
use Rattle.faults.specs.declared.fault.Fault.{Fault}
use Rattle.faults.specs.Reading.{Gives}
use Rattle.lemmas.proofs.Results.{by_result}
use Rattle.input_reading.specs.RunReading.{read_run_lines}
use Rattle.input_reading.specs.declared.input.cause.InputCause.{InputCause}
use Rattle.input_reading.specs.declared.input.cause.InputCause.TheVariants as cause
use Rattle.input_reading.specs.declared.input.reading.Configuration.{Configuration}
use Rattle.input_reading.specs.declared.input.reading.Head.{Head}
use Rattle.input_reading.specs.declared.input.trace.Trace.{Trace}
use Rattle.input_reading.specs.Reading.{configuration_of, following_lines, head_of, line_behind, status_lines}
use Rattle.input_reading.specs.Sections.{sections_with_trace}
use Rattle.input_reading.specs.Traces.{ReadsTrace, trace_of, with_run}
use Rattle.input_reading.proofs.ValidInput.{head_made, passed, passed_on, read_from}

-- the steps of a text that is read
record IsStepped (text : List ℕ) (trace : Trace) : Type 0 where
  found : Configuration
  cluster : Cluster
  configuration : configuration_of sections_with_trace text ≡ Ok found
  resolves : resolution_of found.leaves found.crm.statements ≡ Ok cluster
  head : head_of found.crm cluster (status_lines found.marks found.lines) ≡ Ok trace.head
  lines : List Line
  run : read_run_lines trace.head.cluster lines ≡ Ok trace.run.lines

-- the lines of a run behind a head
record IsRunBehind (head : Head) (lines : List Line) (trace : Trace) : Type 0 where
  same : head ≡ trace.head
  run : read_run_lines head.cluster lines ≡ Ok trace.run.lines

run_behind : (after : ℕ) (head : Head) (lines : List Line) (trace : Trace) → with_run after head lines ≡ Ok trace → IsRunBehind head lines trace
unfolding with_run
run_behind after head lines trace e =
    let run = passed cause.Run (read_run_lines head.cluster lines) _ trace e in
    let made : record { head = head; run = record { lines = run.gave }; after = after } ≡ trace = cc in
    subst (λ (t : Trace). IsRunBehind head lines t) made (record { same = refl; run = run.is })

stepped : (text : List ℕ) (trace : Trace) → ReadsTrace text trace → IsStepped text trace
unfolding trace_of
stepped text trace r =
    let found = passed_on (configuration_of sections_with_trace text) _ trace r in
    let cluster = passed cause.Cluster (resolution_of found.gave.leaves found.gave.crm.statements) _ trace found.goes_on in
    let status = status_lines found.gave.marks found.gave.lines in
    let behind = following_lines found.gave.marks found.gave.lines in
    let after = line_behind found.gave.lines in
    let head = passed_on (head_of found.gave.crm cluster.gave status) (λ head. with_run after head behind) trace cluster.goes_on in
    let run = run_behind after head.gave behind trace head.goes_on in
    record {
      found = found.gave;
      cluster = cluster.gave;
      configuration = found.is;
      resolves = cluster.is;
      head = subst (λ (h : Head). head_of found.gave.crm cluster.gave status ≡ Ok h) run.same head.is;
      lines = behind;
      run = subst (λ (h : Head). read_run_lines h.cluster behind ≡ Ok trace.run.lines) run.same run.run;
    }

module _ (text : List ℕ) (trace : Trace) (r : ReadsTrace text trace) where
  steps : IsStepped text trace
  steps = stepped text trace r

  pub cluster_valid : IsValid trace.head.cluster
  cluster_valid =
      let from = read_from sections_with_trace text steps.found steps.configuration in
      let made = head_made steps.found.crm steps.cluster (status_lines steps.found.marks steps.found.lines) trace.head steps.head in
      subst (λ (c : Cluster). IsValid c) (sym made.same)
      (resolved_valid from.lines steps.found.crm steps.found.leaves steps.cluster from.statements from.leaves steps.resolves)

  pub journal_at_rest : IsAtRest trace.head.journal.events
  journal_at_rest =
      let lines = status_lines steps.found.marks steps.found.lines in
      let made = head_made steps.found.crm steps.cluster lines trace.head steps.head in
      (journal_orderly steps.cluster lines trace.head.journal made.journal, journal_idle steps.cluster lines trace.head.journal made.journal)

-- what a call that read a text returned
module _ (text : List ℕ) (given : Result Trace (Fault InputCause)) where
  pub valid_given : Gives (λ (trace : Trace). trace) given (trace_of text) → IfOk given (λ trace. IsValid trace.head.cluster)
  valid_given h = by_result (λ (r : Result Trace (Fault InputCause)). Gives (λ (trace : Trace). trace) r (trace_of text) → IfOk r (λ trace. IsValid trace.head.cluster))
      (λ trace read. cluster_valid text trace read) (λ fault read. tt) given h

  pub at_rest_given : Gives (λ (trace : Trace). trace) given (trace_of text) → IfOk given (λ trace. IsAtRest trace.head.journal.events)
  at_rest_given h = by_result (λ (r : Result Trace (Fault InputCause)). Gives (λ (trace : Trace). trace) r (trace_of text) → IfOk r (λ trace. IsAtRest trace.head.journal.events))
      (λ trace read. journal_at_rest text trace read) (λ fault read. tt) given h
