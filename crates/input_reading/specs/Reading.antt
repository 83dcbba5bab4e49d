-- What is read of a whole input: its configuration, its status and its results. The first step that fails decides (crmsh manual, configure; the
-- sections, the lines of the status and of the results, and the order of the steps are rules of this project).
use Rattle.std.specs.Prelude.{◌≡◌, ℕ, ◌+◌, ◌-◌, List, length, slice_get, slice_range, take, Result, Ok, Err}
use Rattle.std.specs.Option.{option_map_or}
use Rattle.faults.specs.declared.fault.Fault.{Fault}
use Rattle.faults.specs.declared.fault.Fault.TheVariants.{At}
use Rattle.faults.specs.Reading.{◌>>=◌, faulting}
use Rattle.crm_lex.specs.declared.line.Line.{Line}
use Rattle.crm_lex.specs.Reading.{reads}
use Rattle.crm_parse.specs.declared.fault.ParseCause.{ParseCause}
use Rattle.crm_parse.specs.declared.marks.SectionMarks.{SectionMarks}
use Rattle.crm_parse.specs.declared.statement.Crm.{Crm}
use Rattle.crm_parse.specs.Marks.{sections_of}
use Rattle.crm_parse.specs.Statements.{statements_of}
use Rattle.cluster_model.specs.Expansion.{expansion_of}
use Rattle.cluster_model.specs.Resolution.{resolution_of}
use Rattle.cluster_types.specs.declared.cluster.Cluster.{Cluster}
use Rattle.cluster_types.specs.Journals.{moment_of}
use Rattle.input_reading.specs.FirstJournal.{status_journal}
use Rattle.input_reading.specs.Results.{results_of}
use Rattle.input_reading.specs.declared.input.cause.InputCause.{InputCause}
use Rattle.input_reading.specs.declared.input.cause.InputCause.TheVariants as cause
use Rattle.input_reading.specs.declared.input.reading.Configuration.{Configuration}
use Rattle.input_reading.specs.declared.input.reading.Head.{Head}
use Rattle.input_reading.specs.declared.input.reading.Input.{Input}

-- the most bytes that an input may have: 16 MiB. And the most of a logical line of it, without line ends (rules of this project)
abbrev pub most_bytes : ℕ
most_bytes = 16777216

abbrev pub longest_line : ℕ
longest_line = 1048576

-- the lines of the configuration: those before the first section
abbrev pub configuration_lines : SectionMarks → List Line → List Line
configuration_lines marks lines = take marks.status_at lines

-- the lines of the status: those between its section line and the next
abbrev pub status_lines : SectionMarks → List Line → List Line
status_lines marks lines = slice_range lines (marks.status_at + 1) marks.results_at

-- the lines of the last section, of results or of a trace: those after its section line
abbrev pub following_lines : SectionMarks → List Line → List Line
following_lines marks lines = slice_range lines (marks.results_at + 1) marks.end

-- one more than the number of the last of some lines, and 1 where there is none. Only lines with words are among them; one that goes on has the number of its
-- first physical line
abbrev pub line_behind : List Line → ℕ
line_behind lines = option_map_or (λ (line : Line). line.line + 1) (slice_get lines (length lines - 1)) 1

-- what is read of a text before its names are resolved: its lines, the places of its sections, its statements and their leaves, or the fault of the
-- first of these steps that fails
unfoldable pub configuration_of : (List Line → Result SectionMarks (Fault ParseCause)) → List ℕ → Result Configuration (Fault InputCause)
configuration_of sections text = do
  lines ← faulting cause.Words (reads text)
  marks ← faulting cause.Statements (sections lines)
  crm ← faulting cause.Statements (statements_of (configuration_lines marks lines))
  leaves ← faulting cause.Leaves (expansion_of crm.statements)
  Ok (record { lines = lines; marks = marks; crm = crm; leaves = leaves })

-- the head of an input: its configuration, which says this cluster, and the journal that these lines of the status tell
unfoldable pub head_of : Crm → Cluster → List Line → Result Head (Fault InputCause)
head_of crm cluster lines = do
  journal ← faulting cause.Status (status_journal cluster lines)
  Ok (record { crm = crm; cluster = cluster; journal = journal })

-- the last steps, where this says how what follows the status is read, by the head before it
module _ {X : Type 0} (read_on : Head → List Line → Result X (Fault InputCause)) where
  -- behind the cluster come the status and what follows it
  abbrev pub behind_cluster : Configuration → Cluster → Result X (Fault InputCause)
  behind_cluster found cluster =
      head_of found.crm cluster (status_lines found.marks found.lines) >>= (λ head. read_on head (following_lines found.marks found.lines))

-- the steps of reading a text that has these sections, where what follows the status is read so, from all lines and the head. They are the words of all
-- lines, the sections, the statements, the leaves, the cluster, the status and what follows it
abbrev pub reading_steps : {X : Type 0} (sections : List Line → Result SectionMarks (Fault ParseCause))
    (read_on : List Line → Head → List Line → Result X (Fault InputCause)) → List ℕ → Result X (Fault InputCause)
reading_steps sections read_on text = do
  found ← configuration_of sections text
  cluster ← faulting cause.Cluster (resolution_of found.leaves found.crm.statements)
  behind_cluster (read_on found.lines) found cluster

-- what follows isn't read
abbrev pub nothing_yet : Head → List Line → Result Head (Fault InputCause)
nothing_yet head lines = Ok head

-- result lines follow
unfoldable pub with_results : Head → List Line → Result Input (Fault InputCause)
with_results head lines = do
  answers ← faulting cause.Results (results_of head.cluster (moment_of head.journal.events) lines)
  Ok (record { head = head; results = answers })

-- what is read of a whole text, or its fault: that of the first step that fails
unfoldable pub input_of : List ℕ → Result Input (Fault InputCause)
input_of text = reading_steps sections_of (λ all. with_results) text

-- what is read of a head that stands alone, or its fault: the same steps without the last
unfoldable pub lone_head_of : List ℕ → Result Head (Fault InputCause)
lone_head_of text = reading_steps sections_of (λ all. nothing_yet) text

-- the text is read, and says this
abbrev pub ReadsInput : List ℕ → Input → Type 0
ReadsInput text input = input_of text ≡ Ok input

-- the text isn't read: it has a fault at this line, for this cause
abbrev pub IsTextRefused : List ℕ → ℕ → InputCause → Type 0
IsTextRefused text line why = input_of text ≡ Err (At line why)

-- the text is read
pub record IsReadable (text : List ℕ) : Type 0 where
  pub whole : Input
  pub reads : ReadsInput text whole

-- the text isn't read: one of its lines is at fault
pub record IsFaultyText (text : List ℕ) : Type 0 where
  pub line : ℕ
  pub why : InputCause
  pub fault : IsTextRefused text line why
