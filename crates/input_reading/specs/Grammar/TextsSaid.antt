-- What a whole text says: its configuration, its status, and what stands behind it; and which of its lines is refused, for which kind of cause (rule of this
-- project).
use Rattle.std.specs.Prelude.{◌≡◌, ℕ, List, Result, Ok, Err}
use Rattle.faults.specs.declared.fault.Fault.{Fault}
use Rattle.faults.specs.declared.fault.Fault.TheVariants.{At}
use Rattle.crm_lex.specs.declared.fault.LexCause.{LexCause}
use Rattle.crm_lex.specs.declared.line.Line.{Line}
use Rattle.crm_lex.specs.Reading.{reads}
use Rattle.crm_parse.specs.declared.fault.ParseCause.{ParseCause}
use Rattle.crm_parse.specs.declared.marks.SectionMarks.{SectionMarks}
use Rattle.crm_parse.specs.declared.statement.Crm.{Crm}
use Rattle.crm_parse.specs.Grammar.Configurations.{FirstSilentLine, SaysStatements}
use Rattle.crm_parse.specs.Marks.{sections_of}
use Rattle.cluster_model.specs.declared.expansion.expand_fault.ExpandCause.{ExpandCause}
use Rattle.cluster_model.specs.declared.resolution.fault.ModelCause.{ModelCause}
use Rattle.cluster_model.specs.Expansion.{expansion_of}
use Rattle.cluster_model.specs.Resolution.{resolution_of}
use Rattle.cluster_types.specs.declared.cluster.Cluster.{Cluster}
use Rattle.cluster_types.specs.Journals.{moment_of}
use Rattle.input_reading.specs.declared.history_fault.ResultCause.{ResultCause}
use Rattle.input_reading.specs.declared.history_fault.StatusCause.{StatusCause}
use Rattle.input_reading.specs.declared.input.cause.InputCause.{InputCause}
use Rattle.input_reading.specs.declared.input.cause.InputCause.TheVariants as cause
use Rattle.input_reading.specs.declared.input.reading.Configuration.{Configuration}
use Rattle.input_reading.specs.declared.input.reading.Head.{Head}
use Rattle.input_reading.specs.declared.input.reading.Input.{Input}
use Rattle.input_reading.specs.declared.input.trace.Trace.{Trace}
use Rattle.input_reading.specs.declared.words.word_cause.WordCause.{WordCause}
use Rattle.input_reading.specs.Grammar.LinesSaid.{AreResultsRefused, IsRunRefused, IsStatusRefused, ResultsAreSaid, RunIsSaid, StatusIsSaid}
use Rattle.input_reading.specs.Reading.{configuration_lines, following_lines, status_lines}
use Rattle.input_reading.specs.Sections.{sections_with_trace}

-- the configuration of a text with these sections: the lines of the text, where its sections are, the statements that the lines before the first section say,
-- and the leaves that they stand for
pub record ConfigurationIsSaid (sections : List Line → Result SectionMarks (Fault ParseCause)) (text : List ℕ) (found : Configuration) : Type 0 where
  pub lines : reads text ≡ Ok found.lines
  pub marks : sections found.lines ≡ Ok found.marks
  pub statements : SaysStatements (configuration_lines found.marks found.lines) found.crm
  pub leaves : expansion_of found.crm.statements ≡ Ok found.leaves

-- the configuration of a text says the cluster of a head, the lines of its status the journal, and this holds of the lines behind it
pub record IsHeadSaid (sections : List Line → Result SectionMarks (Fault ParseCause)) (Holds : Head → List Line → Type 0) (text : List ℕ) (head : Head)
    : Type 0 where
  pub found : Configuration
  pub configured : ConfigurationIsSaid sections text found
  pub resolves : resolution_of found.leaves found.crm.statements ≡ Ok head.cluster
  pub same : head.crm ≡ found.crm
  pub status : StatusIsSaid head.cluster (status_lines found.marks found.lines) head.journal
  pub behind : Holds head (following_lines found.marks found.lines)

-- the line of this number is refused in the head of a text: its words can't be read; its section is out of place; it is the first of the configuration that
-- says nothing; its statement stands for no leaves, or for no part of a cluster; or it is the first of the status that is refused
pub data IsHeadRefused (sections : List Line → Result SectionMarks (Fault ParseCause)) (text : List ℕ) (number : ℕ) : InputCause → Type 0 where
  words_refused : (why : LexCause) → reads text ≡ Err (At number why) → IsHeadRefused sections text number (cause.Words why)
  section_refused : (lines : List Line) (why : ParseCause) → reads text ≡ Ok lines → sections lines ≡ Err (At number why)
      → IsHeadRefused sections text number (cause.Statements why)
  statement_refused : (lines : List Line) (marks : SectionMarks) (why : ParseCause) → reads text ≡ Ok lines → sections lines ≡ Ok marks
      → FirstSilentLine (configuration_lines marks lines) number → IsHeadRefused sections text number (cause.Statements why)
  leaves_refused : (lines : List Line) (marks : SectionMarks) (crm : Crm) (why : ExpandCause) → reads text ≡ Ok lines → sections lines ≡ Ok marks
      → SaysStatements (configuration_lines marks lines) crm → expansion_of crm.statements ≡ Err (At number why)
      → IsHeadRefused sections text number (cause.Leaves why)
  cluster_refused : (found : Configuration) (why : ModelCause) → ConfigurationIsSaid sections text found
      → resolution_of found.leaves found.crm.statements ≡ Err (At number why) → IsHeadRefused sections text number (cause.Cluster why)
  status_refused : (found : Configuration) (cluster : Cluster) (why : StatusCause) → ConfigurationIsSaid sections text found
      → resolution_of found.leaves found.crm.statements ≡ Ok cluster → IsStatusRefused cluster (status_lines found.marks found.lines) number why
      → IsHeadRefused sections text number (cause.Status why)

-- the lines of a text say this input. Behind the status stand result lines
abbrev pub InputIsSaid : List ℕ → Input → Type 0
InputIsSaid text input =
    IsHeadSaid sections_of (λ head lines. ResultsAreSaid head.cluster (moment_of head.journal.events) lines input.results) text input.head

-- a line of the head is refused, or the head is said and a result line is refused
pub data IsInputRefused (text : List ℕ) (number : ℕ) : InputCause → Type 0 where
  input_head_refused : (why : InputCause) → IsHeadRefused sections_of text number why → IsInputRefused text number why
  result_refused : (head : Head) (why : ResultCause)
      → IsHeadSaid sections_of (λ head lines. AreResultsRefused head.cluster (moment_of head.journal.events) lines number why) text head
      → IsInputRefused text number (cause.Results why)

-- the same of a head that stands alone
abbrev pub LoneHeadIsSaid : List ℕ → Head → Type 0
LoneHeadIsSaid text head = IsHeadSaid sections_of (λ head lines. Unit {0}) text head

abbrev pub IsLoneHeadRefused : List ℕ → ℕ → InputCause → Type 0
IsLoneHeadRefused text = IsHeadRefused sections_of text

-- and of a text with a trace: behind the status stand the lines of a run (their place is kept as that of results). Of the number behind the last line, which a
-- trace has too, nothing is said here; trace_of says it
abbrev pub TraceIsSaid : List ℕ → Trace → Type 0
TraceIsSaid text trace = IsHeadSaid sections_with_trace (λ head lines. RunIsSaid head.cluster lines trace.run.lines) text trace.head

-- a line of the head is refused, or the head is said and a line of the run is refused
pub data IsTraceLineRefused (text : List ℕ) (number : ℕ) : InputCause → Type 0 where
  trace_head_refused : (why : InputCause) → IsHeadRefused sections_with_trace text number why → IsTraceLineRefused text number why
  run_line_refused : (head : Head) (why : WordCause) → IsHeadSaid sections_with_trace (λ head lines. IsRunRefused head.cluster lines number why) text head
      → IsTraceLineRefused text number (cause.Run why)
