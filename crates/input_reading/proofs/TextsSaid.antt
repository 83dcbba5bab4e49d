-- A whole text is read as its lines say, and refused where one of them says nothing.
use Rattle.std.proofs.Common.{◌≡◌, ℕ, List, Result, Ok, Err, refl, sym, ap, ◌∙◌, subst}
use Rattle.crm_lex.specs.declared.line.Line.{Line}
use Rattle.crm_lex.specs.Reading.{reads}
use Rattle.crm_parse.specs.declared.fault.ParseCause.{ParseCause}
use Rattle.crm_parse.specs.declared.marks.SectionMarks.{SectionMarks}
use Rattle.crm_parse.specs.declared.statement.Crm.{Crm}
use Rattle.crm_parse.specs.Grammar.Configurations.{SaysStatements}
use Rattle.crm_parse.specs.Marks.{sections_of}
use Rattle.crm_parse.specs.Statements.{statements_of}
use Rattle.crm_parse.proofs.Grammar.ConfigurationRelated.{text-refuses, text-says}
use Rattle.cluster_model.specs.Expansion.{expansion_of}
use Rattle.cluster_model.specs.Resolution.{resolution_of}
use Rattle.cluster_types.specs.declared.cluster.Cluster.{Cluster}
use Rattle.cluster_types.specs.Journals.{moment_of}
use Rattle.faults.specs.declared.fault.Fault.{Fault}
use Rattle.faults.specs.declared.fault.Fault.TheVariants.{At, NoMemory}
use Rattle.faults.specs.Reading.{Gives, faulting, ◌>>=◌}
use Rattle.input_reading.specs.declared.history_fault.StatusCause.{StatusCause}
use Rattle.input_reading.specs.declared.input.cause.InputCause.{InputCause}
use Rattle.input_reading.specs.declared.input.cause.InputCause.TheVariants as cause
use Rattle.input_reading.specs.declared.input.reading.Configuration.{Configuration}
use Rattle.input_reading.specs.declared.input.reading.Head.{Head}
use Rattle.input_reading.specs.declared.input.reading.Input.{Input}
use Rattle.input_reading.specs.declared.input.trace.Trace.{Trace}
use Rattle.input_reading.specs.FirstJournal.{status_journal}
use Rattle.input_reading.specs.Grammar.LinesSaid.{AreResultsRefused, AsLinesSay, IsRunRefused, ResultsAreSaid, RunIsSaid}
use Rattle.input_reading.specs.Grammar.TextsSaid.{ConfigurationIsSaid, InputIsSaid, IsHeadRefused, IsHeadSaid, IsInputRefused, IsLoneHeadRefused, IsTraceLineRefused, LoneHeadIsSaid, TraceIsSaid, cluster_refused, input_head_refused, leaves_refused, result_refused, run_line_refused, section_refused, statement_refused, status_refused, trace_head_refused, words_refused}
use Rattle.input_reading.specs.Reading.{configuration_lines, configuration_of, following_lines, head_of, input_of, line_behind, nothing_yet, reading_steps, lone_head_of, status_lines, with_results}
use Rattle.input_reading.specs.Results.{results_of}
use Rattle.input_reading.specs.RunReading.{read_run_lines}
use Rattle.input_reading.specs.Sections.{sections_with_trace}
use Rattle.input_reading.specs.Traces.{trace_of, with_run}
use Rattle.input_reading.proofs.LinesInTurn.{as-said}
use Rattle.input_reading.proofs.ResultsSaid.{results-refused, results-said}
use Rattle.input_reading.proofs.RunSaid.{lines-of-run-refused, lines-of-run-said}
use Rattle.input_reading.proofs.StatusSaid.{journal-refused, journal-said}
use Rattle.input_reading.proofs.ValidInput.{passed, passed_on}

-- a step that failed, or one behind it
failed : {A B C P : Type 0} (cause_of : C → InputCause) (step : Result A (Fault C)) (next : A → Result B (Fault InputCause)) (number : ℕ) (why : InputCause)
    → (faulting cause_of step >>= next) ≡ Err (At number why) → ((found : C) → step ≡ Err (At number found) → cause_of found ≡ why → P)
    → ((x : A) → step ≡ Ok x → next x ≡ Err (At number why) → P) → P
failed cause_of (Ok x) next number why e here later = later x refl e
failed cause_of (Err (At line found)) next number why e here later =
    let place : line ≡ number = cc in
    let same : cause_of found ≡ why = cc in
    here found (ap (λ n. Err (At n found)) place) same
failed cause_of (Err NoMemory) next number why e here later = cc

failed_on : {A B P : Type 0} (step : Result A (Fault InputCause)) (next : A → Result B (Fault InputCause)) (fault : Fault InputCause) → (step >>= next) ≡ Err fault
    → (step ≡ Err fault → P) → ((x : A) → step ≡ Ok x → next x ≡ Err fault → P) → P
failed_on (Ok x) next fault e here later = later x refl e
failed_on (Err found) next fault e here later = let same : found ≡ fault = cc in here (ap Err same)

-- the head of a text
record IsHeadOf (crm : Crm) (cluster : Cluster) (lines : List Line) (head : Head) : Type 0 where
  statements : head.crm ≡ crm
  resolved : head.cluster ≡ cluster
  journal : status_journal cluster lines ≡ Ok head.journal

head-passed : (crm : Crm) (cluster : Cluster) (lines : List Line) (head : Head) → head_of crm cluster lines ≡ Ok head → IsHeadOf crm cluster lines head
unfolding head_of
head-passed crm cluster lines head e =
    let journal = passed cause.Status (status_journal cluster lines) _ head e in
    let made : head ≡ record { crm = crm; cluster = cluster; journal = journal.gave } = cc in
    rw made (record { statements = refl; resolved = refl; journal = journal.is })

head-failed : {P : Type 0} (crm : Crm) (cluster : Cluster) (lines : List Line) (number : ℕ) (why : InputCause) → head_of crm cluster lines ≡ Err (At number why)
    → ((found : StatusCause) → status_journal cluster lines ≡ Err (At number found) → cause.Status found ≡ why → P) → P
unfolding head_of
head-failed crm cluster lines number why e here = failed cause.Status (status_journal cluster lines) _ number why e here (λ journal is e. absurd (cc))

module _ (sections : List Line → Result SectionMarks (Fault ParseCause)) (text : List ℕ) where
  -- what is read as the configuration is said
  configuration-said : (found : Configuration) → configuration_of sections text ≡ Ok found → ConfigurationIsSaid sections text found
  unfolding configuration_of
  configuration-said found e =
      let lines = passed cause.Words (reads text) _ found e in
      let marks = passed cause.Statements (sections lines.gave) _ found lines.goes_on in
      let crm = passed cause.Statements (statements_of (configuration_lines marks.gave lines.gave)) _ found marks.goes_on in
      let leaves = passed cause.Leaves (expansion_of crm.gave.statements) _ found crm.goes_on in
      let made : found ≡ record { lines = lines.gave; marks = marks.gave; crm = crm.gave; leaves = leaves.gave } = cc in
      let said : SaysStatements (configuration_lines marks.gave lines.gave) crm.gave = (text-says (configuration_lines marks.gave lines.gave) crm.gave).0 crm.is in
      rw made (record { lines = lines.is; marks = marks.is; statements = said; leaves = leaves.is })

  -- and what it is refused for
  configuration-refused : (number : ℕ) (why : InputCause) → configuration_of sections text ≡ Err (At number why) → IsHeadRefused sections text number why
  unfolding configuration_of
  configuration-refused number why e =
      failed cause.Words (reads text) _ number why e (λ found is same. subst (IsHeadRefused sections text number) same (words_refused found is)) (λ lines read e.
      failed cause.Statements (sections lines) _ number why e (λ found is same. subst (IsHeadRefused sections text number) same (section_refused lines found read is)) (λ marks marked e.
      let own = configuration_lines marks lines in
      failed cause.Statements (statements_of own) _ number why e
      (λ found is same. subst (IsHeadRefused sections text number) same (statement_refused lines marks found read marked ((text-refuses own number).0 (found, is)))) (λ crm is e.
      failed cause.Leaves (expansion_of crm.statements) _ number why e
      (λ found refused same. subst (IsHeadRefused sections text number) same (leaves_refused lines marks crm found read marked ((text-says own crm).0 is) refused))
      (λ found is e. absurd (cc)))))

  module _ {X : Type 0} (read_on : List Line → Head → List Line → Result X (Fault InputCause)) where
    -- the head of what is read, and what is read behind it
    record IsReadOn (x : X) : Type 1 where
      head : Head
      all : List Line
      behind : List Line
      said : (Holds : Head → List Line → Type 0) → Holds head behind → IsHeadSaid sections Holds text head
      goes_on : read_on all head behind ≡ Ok x

    read-on : (x : X) → reading_steps sections read_on text ≡ Ok x → IsReadOn x
    read-on x e =
        let found = passed_on (configuration_of sections text) _ x e in
        let cluster = passed cause.Cluster (resolution_of found.gave.leaves found.gave.crm.statements) _ x found.goes_on in
        let lines = status_lines found.gave.marks found.gave.lines in
        let head = passed_on (head_of found.gave.crm cluster.gave lines) _ x cluster.goes_on in
        let made = head-passed found.gave.crm cluster.gave lines head.gave head.is in
        record {
          head = head.gave;
          all = found.gave.lines;
          behind = following_lines found.gave.marks found.gave.lines;
          said = λ Holds holds. record {
            found = found.gave;
            configured = configuration-said found.gave found.is;
            resolves = cluster.is ∙ ap Ok (sym made.resolved);
            same = made.statements;
            status = journal-said head.gave.cluster lines head.gave.journal (subst (λ c. status_journal c lines ≡ Ok head.gave.journal) (sym made.resolved) made.journal);
            behind = holds;
          };
          goes_on = head.goes_on;
        }

    -- what holds of a fault: that of the head, or behind it
    fault-on : (P : InputCause → Type 0) (number : ℕ) (why : InputCause) → ((why : InputCause) → IsHeadRefused sections text number why → P why)
        → ((head : Head) (all behind : List Line) → ((Holds : Head → List Line → Type 0) → Holds head behind → IsHeadSaid sections Holds text head)
        → read_on all head behind ≡ Err (At number why) → P why)
        → reading_steps sections read_on text ≡ Err (At number why) → P why
    fault-on P number why refused behind e =
        failed_on (configuration_of sections text) _ (At number why) e (λ e. refused why (configuration-refused number why e)) (λ found configured e.
        let said = configuration-said found configured in
        failed cause.Cluster (resolution_of found.leaves found.crm.statements) _ number why e
        (λ fault is same. refused why (subst (IsHeadRefused sections text number) same (cluster_refused found fault said is))) (λ c resolves e.
        let lines = status_lines found.marks found.lines in
        failed_on (head_of found.crm c lines) _ (At number why) e
        (λ e. head-failed found.crm c lines number why e (λ fault is same.
        refused why (subst (IsHeadRefused sections text number) same (status_refused found c fault said resolves (journal-refused c lines number fault is)))))
        (λ head is e.
        let made = head-passed found.crm c lines head is in
        behind head found.lines (following_lines found.marks found.lines) (λ Holds holds. record {
          found = found;
          configured = said;
          resolves = resolves ∙ ap Ok (sym made.resolved);
          same = made.statements;
          status = journal-said head.cluster lines head.journal (subst (λ d. status_journal d lines ≡ Ok head.journal) (sym made.resolved) made.journal);
          behind = holds;
        }) e)))

-- an input
module _ (text : List ℕ) where
  abbrev Answers : Input → Head → List Line → Type 0
  Answers input head lines = ResultsAreSaid head.cluster (moment_of head.journal.events) lines input.results

  results-passed : (head : Head) (lines : List Line) (input : Input) → with_results head lines ≡ Ok input → (head ≡ input.head) × Answers input head lines
  unfolding with_results
  results-passed head lines input e =
      let answers = passed cause.Results (results_of head.cluster (moment_of head.journal.events) lines) _ input e in
      let made : input ≡ record { head = head; results = answers.gave } = cc in
      rw made (refl, results-said head.cluster (moment_of head.journal.events) lines answers.gave answers.is)

  pub input-said : (input : Input) → input_of text ≡ Ok input → InputIsSaid text input
  unfolding input_of
  input-said input e =
      let r = read-on sections_of text (λ all. with_results) input e in
      let (same, answers) = results-passed r.head r.behind input r.goes_on in
      subst (IsHeadSaid sections_of (Answers input) text) same (r.said (Answers input) answers)

  pub input-refused : (number : ℕ) (why : InputCause) → input_of text ≡ Err (At number why) → IsInputRefused text number why
  unfolding input_of with_results
  input-refused number why e =
      fault-on sections_of text (λ all. with_results) (IsInputRefused text number) number why (λ w refused. input_head_refused w refused)
      (λ head all behind said e.
      failed cause.Results (results_of head.cluster (moment_of head.journal.events) behind) _ number why e
      (λ found is same. subst (IsInputRefused text number) same (result_refused head found
      (said (λ h lines. AreResultsRefused h.cluster (moment_of h.journal.events) lines number found)
      (results-refused head.cluster (moment_of head.journal.events) behind number found is))))
      (λ answers is e. absurd (cc))) e

  pub input-given : (given : Result Input (Fault InputCause)) → Gives (λ (input : Input). input) given (input_of text)
      → AsLinesSay (InputIsSaid text) (IsInputRefused text) given
  input-given given h = as-said (λ (input : Input). input) (InputIsSaid text) (IsInputRefused text) (input_of text) given input-said input-refused h

  -- a head that stands alone
  pub start-said : (head : Head) → lone_head_of text ≡ Ok head → LoneHeadIsSaid text head
  unfolding lone_head_of
  start-said head e =
      let r = read-on sections_of text (λ all. nothing_yet) head e in
      let same : r.head ≡ head = (let f = r.goes_on in cc) in
      subst (IsHeadSaid sections_of (λ head lines. Unit {0}) text) same (r.said (λ head lines. Unit {0}) tt)

  pub start-refused : (number : ℕ) (why : InputCause) → lone_head_of text ≡ Err (At number why) → IsLoneHeadRefused text number why
  unfolding lone_head_of
  start-refused number why e =
      fault-on sections_of text (λ all. nothing_yet) (IsLoneHeadRefused text number) number why (λ w refused. refused)
      (λ head all behind said e. absurd (cc)) e

  pub start-given : (given : Result Head (Fault InputCause)) → Gives (λ (head : Head). head) given (lone_head_of text)
      → AsLinesSay (LoneHeadIsSaid text) (IsLoneHeadRefused text) given
  start-given given h = as-said (λ (head : Head). head) (LoneHeadIsSaid text) (IsLoneHeadRefused text) (lone_head_of text) given start-said start-refused h

  -- a text with a trace
  abbrev Tells : Trace → Head → List Line → Type 0
  Tells trace head lines = RunIsSaid head.cluster lines trace.run.lines

  run-passed : (after : ℕ) (head : Head) (lines : List Line) (trace : Trace) → with_run after head lines ≡ Ok trace → (head ≡ trace.head) × Tells trace head lines
  unfolding with_run
  run-passed after head lines trace e =
      let run = passed cause.Run (read_run_lines head.cluster lines) _ trace e in
      let made : trace ≡ record { head = head; run = record { lines = run.gave }; after = after } = cc in
      rw made (refl, lines-of-run-said head.cluster lines run.gave run.is)

  pub trace-said : (trace : Trace) → trace_of text ≡ Ok trace → TraceIsSaid text trace
  unfolding trace_of
  trace-said trace e =
      let r = read-on sections_with_trace text (λ all. with_run (line_behind all)) trace e in
      let (same, tells) = run-passed (line_behind r.all) r.head r.behind trace r.goes_on in
      subst (IsHeadSaid sections_with_trace (Tells trace) text) same (r.said (Tells trace) tells)

  pub trace-refused : (number : ℕ) (why : InputCause) → trace_of text ≡ Err (At number why) → IsTraceLineRefused text number why
  unfolding trace_of with_run
  trace-refused number why e =
      fault-on sections_with_trace text (λ all. with_run (line_behind all)) (IsTraceLineRefused text number) number why (λ w refused. trace_head_refused w refused)
      (λ head all behind said e.
      failed cause.Run (read_run_lines head.cluster behind) _ number why e
      (λ found is same. subst (IsTraceLineRefused text number) same (run_line_refused head found
      (said (λ h lines. IsRunRefused h.cluster lines number found) (lines-of-run-refused head.cluster behind number found is))))
      (λ run is e. absurd (cc))) e

  pub trace-given : (given : Result Trace (Fault InputCause)) → Gives (λ (trace : Trace). trace) given (trace_of text)
      → AsLinesSay (TraceIsSaid text) (IsTraceLineRefused text) given
  trace-given given h = as-said (λ (trace : Trace). trace) (TraceIsSaid text) (IsTraceLineRefused text) (trace_of text) given trace-said trace-refused h
