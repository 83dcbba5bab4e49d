-- What is read of a text is valid: its cluster, and its first journal.
use Rattle.std.proofs.Common.{◌≡◌, ℕ, ◌≤◌, List, [], length, Result, Ok, Err, IfOk, refl, sym, subst}
use Rattle.crm_lex.specs.declared.line.Line.{Line}
use Rattle.crm_lex.specs.Reading.{reads}
use Rattle.crm_parse.specs.declared.fault.ParseCause.{ParseCause}
use Rattle.crm_parse.specs.declared.marks.SectionMarks.{SectionMarks}
use Rattle.crm_parse.specs.declared.statement.Crm.{Crm}
use Rattle.crm_parse.specs.declared.statement.Statement.{Statement}
use Rattle.cluster_model.specs.declared.expansion.leaves.Leaves.{Leaves}
use Rattle.crm_parse.specs.Marks.{sections_of}
use Rattle.crm_parse.specs.Statements.{statements_of}
use Rattle.cluster_model.specs.Expansion.{expansion_of}
use Rattle.cluster_model.specs.Resolution.{resolution_of}
use Rattle.cluster_model.proofs.ValidCluster.{resolved_valid}
use Rattle.cluster_types.specs.declared.cluster.Cluster.{Cluster}
use Rattle.cluster_types.specs.Journals.{Orderly, in_flight_by_begin, moment_of}
use Rattle.cluster_types.specs.Valid.{IsValid}
use Rattle.input_reading.specs.FirstJournal.{status_journal}
use Rattle.input_reading.specs.Results.{most_results, results_of}
use Rattle.input_reading.proofs.StatusJournals.{journal_idle, journal_orderly}
use Rattle.faults.specs.declared.fault.Fault.{Fault}
use Rattle.faults.specs.Reading.{Gives, faulting, ◌>>=◌}
use Rattle.faults.proofs.Steps.{faulting-ok}
use Rattle.lemmas.proofs.Results.{by_result}
use Rattle.input_reading.proofs.FewResults.{few_results}
use Rattle.input_reading.specs.declared.input.cause.InputCause.{InputCause}
use Rattle.input_reading.specs.declared.input.cause.InputCause.TheVariants as cause
use Rattle.input_reading.specs.declared.input.reading.Configuration.{Configuration}
use Rattle.input_reading.specs.declared.input.reading.Head.{Head}
use Rattle.input_reading.specs.declared.input.reading.Input.{Input}
use Rattle.input_reading.specs.Reading.{ReadsInput, configuration_lines, configuration_of, following_lines, head_of, input_of, status_lines, behind_cluster, with_results}
use Rattle.input_reading.specs.Inner.Reading.{AreStated}

-- a step that was passed: what it gave, and what the steps behind it give
pub record IsPassed {A B F : Type 0} (step : Result A F) (next : A → Result B (Fault InputCause)) (end : B) : Type 0 where
  pub gave : A
  pub is : step ≡ Ok gave
  pub goes_on : next gave ≡ Ok end

pub passed : {A B C : Type 0} (cause_of : C → InputCause) (step : Result A (Fault C)) (next : A → Result B (Fault InputCause)) (end : B)
    → faulting cause_of step >>= next ≡ Ok end → IsPassed step next end
passed cause_of (Ok x) next end e = record { gave = x; is = refl; goes_on = e }
passed cause_of (Err fault) next end e = absurd cc

-- a step that was passed, with faults of the input
pub record IsPassedOn {A B : Type 0} (step : Result A (Fault InputCause)) (next : A → Result B (Fault InputCause)) (end : B) : Type 0 where
  pub gave : A
  pub is : step ≡ Ok gave
  pub goes_on : next gave ≡ Ok end

pub passed_on : {A B : Type 0} (step : Result A (Fault InputCause)) (next : A → Result B (Fault InputCause)) (end : B) → step >>= next ≡ Ok end → IsPassedOn step next end
passed_on (Ok x) next end e = record { gave = x; is = refl; goes_on = e }
passed_on (Err fault) next end e = absurd cc

-- the lines that a configuration was read of
pub record IsReadFrom (found : Configuration) : Type 0 where
  pub lines : List Line
  pub statements : statements_of lines ≡ Ok found.crm
  pub leaves : expansion_of found.crm.statements ≡ Ok found.leaves

pub read_from : (sections : List Line → Result SectionMarks (Fault ParseCause)) (text : List ℕ) (found : Configuration) → configuration_of sections text ≡ Ok found
    → IsReadFrom found
unfolding configuration_of
read_from sections text found e =
    let lines = passed cause.Words (reads text) _ found e in
    let marks = passed cause.Statements (sections lines.gave) _ found lines.goes_on in
    let crm = passed cause.Statements (statements_of (configuration_lines marks.gave lines.gave)) _ found marks.goes_on in
    let leaves = passed cause.Leaves (expansion_of crm.gave.statements) _ found crm.goes_on in
    let made : found ≡ record { lines = lines.gave; marks = marks.gave; crm = crm.gave; leaves = leaves.gave } = cc in
    rw made (record { lines = configuration_lines marks.gave lines.gave; statements = crm.is; leaves = leaves.is })

-- what an input has of the cluster that its configuration says: the cluster, and the first journal of some lines
record IsMade (cluster : Cluster) (input : Input) : Type 0 where
  same : input.head.cluster ≡ cluster
  lines : List Line
  journal : status_journal cluster lines ≡ Ok input.head.journal
  few : length input.results ≤ 10000

-- the head of some lines
pub record IsHead (cluster : Cluster) (lines : List Line) (head : Head) : Type 0 where
  pub same : head.cluster ≡ cluster
  pub journal : status_journal cluster lines ≡ Ok head.journal

pub head_made : (crm : Crm) (cluster : Cluster) (lines : List Line) (head : Head) → head_of crm cluster lines ≡ Ok head → IsHead cluster lines head
unfolding head_of
head_made crm cluster lines head e =
    let journal = passed cause.Status (status_journal cluster lines) _ head e in
    let made : head ≡ record { crm = crm; cluster = cluster; journal = journal.gave } = cc in
    rw made (record { same = refl; journal = journal.is })

pub results_keep_head : (head : Head) (lines : List Line) (input : Input) → with_results head lines ≡ Ok input → input.head ≡ head
unfolding with_results
results_keep_head head lines input e =
    let answers = passed cause.Results (results_of head.cluster (moment_of head.journal.events) lines) _ input e in
    let made : input ≡ record { head = head; results = answers.gave } = cc in
    rw made refl

pub few_read : (head : Head) (lines : List Line) (input : Input) → with_results head lines ≡ Ok input → length input.results ≤ 10000
unfolding with_results
few_read head lines input e =
    let answers = passed cause.Results (results_of head.cluster (moment_of head.journal.events) lines) _ input e in
    let made : input ≡ record { head = head; results = answers.gave } = cc in
    rw made (few_results head.cluster (moment_of head.journal.events) lines answers.gave answers.is)

made_of : (found : Configuration) (cluster : Cluster) (input : Input) → behind_cluster with_results found cluster ≡ Ok input → IsMade cluster input
made_of found cluster input e =
    let lines = status_lines found.marks found.lines in
    let head = passed_on (head_of found.crm cluster lines) (λ head. with_results head (following_lines found.marks found.lines)) input e in
    let kept = results_keep_head head.gave (following_lines found.marks found.lines) input head.goes_on in
    let made = head_made found.crm cluster lines head.gave head.is in
    record {
      same = rw kept made.same;
      lines = lines;
      journal = rw kept made.journal;
      few = few_read head.gave (following_lines found.marks found.lines) input head.goes_on;
    }

-- the steps of a text that is read
pub record IsStepped (text : List ℕ) (input : Input) : Type 0 where
  pub found : Configuration
  pub cluster : Cluster
  pub configuration : configuration_of sections_of text ≡ Ok found
  pub resolves : resolution_of found.leaves found.crm.statements ≡ Ok cluster
  pub made : behind_cluster with_results found cluster ≡ Ok input

pub stepped : (text : List ℕ) (input : Input) → ReadsInput text input → IsStepped text input
unfolding input_of
stepped text input r =
    let found = passed_on (configuration_of sections_of text) _ input r in
    let cluster = passed cause.Cluster (resolution_of found.gave.leaves found.gave.crm.statements) _ input found.goes_on in
    record { found = found.gave; cluster = cluster.gave; configuration = found.is; resolves = cluster.is; made = cluster.goes_on }

-- what is read is valid
module _ (text : List ℕ) (input : Input) (r : ReadsInput text input) where
  steps : IsStepped text input
  steps = stepped text input r

  made : IsMade steps.cluster input
  made = made_of steps.found steps.cluster input steps.made

  pub cluster_valid : IsValid input.head.cluster
  cluster_valid =
      let from = read_from sections_of text steps.found steps.configuration in
      subst (λ (c : Cluster). IsValid c) (sym made.same)
      (resolved_valid from.lines steps.found.crm steps.found.leaves steps.cluster from.statements from.leaves steps.resolves)

  pub journal_ordered : Orderly input.head.journal.events
  journal_ordered = journal_orderly steps.cluster made.lines input.head.journal made.journal

  pub results_few : length input.results ≤ 10000
  results_few = made.few

  pub journal_rests : in_flight_by_begin input.head.journal.events ≡ []
  journal_rests = journal_idle steps.cluster made.lines input.head.journal made.journal

-- what a call that read a text returned
module _ (text : List ℕ) (given : Result Input (Fault InputCause)) where
  pub valid_given : Gives (λ (input : Input). input) given (input_of text) → IfOk given (λ input. IsValid input.head.cluster)
  valid_given h = by_result (λ (r : Result Input (Fault InputCause)). Gives (λ (input : Input). input) r (input_of text) → IfOk r (λ input. IsValid input.head.cluster))
      (λ input read. cluster_valid text input read) (λ fault read. tt) given h

  pub ordered_given : Gives (λ (input : Input). input) given (input_of text) → IfOk given (λ input. Orderly input.head.journal.events)
  ordered_given h = by_result (λ (r : Result Input (Fault InputCause)). Gives (λ (input : Input). input) r (input_of text) → IfOk r (λ input. Orderly input.head.journal.events))
      (λ input read. journal_ordered text input read) (λ fault read. tt) given h

  pub idle_given : Gives (λ (input : Input). input) given (input_of text) → IfOk given (λ input. in_flight_by_begin input.head.journal.events ≡ [])
  idle_given h = by_result (λ (r : Result Input (Fault InputCause)). Gives (λ (input : Input). input) r (input_of text) → IfOk r (λ input. in_flight_by_begin input.head.journal.events ≡ []))
      (λ input read. journal_rests text input read) (λ fault read. tt) given h

  pub few_given : Gives (λ (input : Input). input) given (input_of text) → IfOk given (λ input. length input.results ≤ most_results)
  few_given h = by_result (λ (r : Result Input (Fault InputCause)). Gives (λ (input : Input). input) r (input_of text) → IfOk r (λ input. length input.results ≤ most_results))
      (λ input read. results_few text input read) (λ fault read. tt) given h

-- the statements that a step gave
pub stated : (lines : List Line) (crm : Crm) → faulting cause.Statements (statements_of lines) ≡ Ok crm → AreStated crm
stated lines crm e = record { lines = lines; are = faulting-ok cause.Statements (statements_of lines) crm e }

-- the cluster of statements that were read is valid
pub stated_valid : (crm : Crm) (leaves : Leaves) (cluster : Cluster) → AreStated crm → expansion_of crm.statements ≡ Ok leaves
    → resolution_of leaves crm.statements ≡ Ok cluster → IsValid cluster
stated_valid crm leaves cluster stated e r = resolved_valid stated.lines crm leaves cluster stated.are e r

-- the cluster that a step gave, where it gave one
pub cluster_given : (crm : Crm) (leaves : Leaves) (given : Result Cluster (Fault InputCause)) → AreStated crm → expansion_of crm.statements ≡ Ok leaves
    → Gives (λ (cluster : Cluster). cluster) given (faulting cause.Cluster (resolution_of leaves crm.statements)) → IfOk given (λ cluster. IsValid cluster)
cluster_given crm leaves given stated e h =
    by_result (λ (r : Result Cluster (Fault InputCause)). Gives (λ (cluster : Cluster). cluster) r (faulting cause.Cluster (resolution_of leaves crm.statements))
    → IfOk r (λ cluster. IsValid cluster))
    (λ cluster read. stated_valid crm leaves cluster stated e (faulting-ok cause.Cluster (resolution_of leaves crm.statements) cluster read)) (λ fault read. tt) given h

-- the leaves that a step gave
pub leaves_given : (statements : List Statement) (leaves : Leaves) → faulting cause.Leaves (expansion_of statements) ≡ Ok leaves → expansion_of statements ≡ Ok leaves
leaves_given statements leaves e = faulting-ok cause.Leaves (expansion_of statements) leaves e
