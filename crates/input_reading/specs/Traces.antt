-- What is read of a text with a trace: its configuration, its status and the lines of a written run. The first step that fails decides (crmsh manual,
-- configure; the sections, the lines of the status and of a run, and the order of the steps are rules of this project).
use Rattle.std.specs.Prelude.{◌≡◌, ℕ, List, Result, Ok, Err}
use Rattle.faults.specs.declared.fault.Fault.{Fault}
use Rattle.faults.specs.declared.fault.Fault.TheVariants.{At}
use Rattle.faults.specs.Reading.{◌>>=◌, faulting}
use Rattle.crm_lex.specs.declared.line.Line.{Line}
use Rattle.input_reading.specs.RunReading.{read_run_lines}
use Rattle.input_reading.specs.declared.input.cause.InputCause.{InputCause}
use Rattle.input_reading.specs.declared.input.cause.InputCause.TheVariants as cause
use Rattle.input_reading.specs.declared.input.reading.Head.{Head}
use Rattle.input_reading.specs.declared.input.trace.Trace.{Trace}
use Rattle.input_reading.specs.Reading.{line_behind, reading_steps}
use Rattle.input_reading.specs.Sections.{sections_with_trace}

-- the lines of a run follow. The number is that behind the last line of the text that has words
unfoldable pub with_run : ℕ → Head → List Line → Result Trace (Fault InputCause)
with_run after head lines = do
  run ← faulting cause.Run (read_run_lines head.cluster lines)
  Ok (record { head = head; run = record { lines = run }; after = after })

-- what is read of a whole text, or its fault: that of the first step that fails
unfoldable pub trace_of : List ℕ → Result Trace (Fault InputCause)
trace_of text = reading_steps sections_with_trace (λ all. with_run (line_behind all)) text

-- the text is read, and says this
abbrev pub ReadsTrace : List ℕ → Trace → Type 0
ReadsTrace text trace = trace_of text ≡ Ok trace

-- the text isn't read: it has a fault at this line, for this cause
abbrev pub IsTraceRefused : List ℕ → ℕ → InputCause → Type 0
IsTraceRefused text line why = trace_of text ≡ Err (At line why)

-- the text is read
pub record IsReadableTrace (text : List ℕ) : Type 0 where
  pub whole : Trace
  pub reads : ReadsTrace text whole

-- the text isn't read: one of its lines is at fault
pub record IsFaultyTrace (text : List ℕ) : Type 0 where
  pub line : ℕ
  pub why : InputCause
  pub fault : IsTraceRefused text line why
