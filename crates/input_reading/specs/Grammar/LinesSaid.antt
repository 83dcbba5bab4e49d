-- What all lines of a section say, and which line is refused first. The cause of a line without a form is told by the definitions that read (rule of this
-- project).
use Rattle.std.specs.Prelude.{◌≡◌, ℕ, ◌≤◌, ◌<◌, true, false, List, ◌∷◌, ◌++◌, length, slice_get, take, Some, Result, Ok, Err}
use Rattle.crm_lex.specs.declared.line.Line.{Line}
use Rattle.cluster_types.specs.declared.cluster.Cluster.{Cluster}
use Rattle.cluster_types.specs.declared.journal.Answer.{Answer}
use Rattle.cluster_types.specs.declared.journal.Journal.{Journal}
use Rattle.cluster_types.specs.declared.run.RunLine.{RunLine}
use Rattle.faults.specs.declared.fault.Fault.{Fault}
use Rattle.faults.specs.declared.fault.Fault.TheVariants.{At, NoMemory}
use Rattle.input_reading.specs.declared.history_fault.ResultCause.{ResultCause}
use Rattle.input_reading.specs.declared.history_fault.ResultCause.TheVariants as of_result
use Rattle.input_reading.specs.declared.history_fault.StatusCause.{StatusCause}
use Rattle.input_reading.specs.declared.history_fault.StatusCause.TheVariants as of_status
use Rattle.input_reading.specs.declared.results.result_lines.ResultLine.{ResultLine}
use Rattle.input_reading.specs.declared.run.text.RunTextLine.{RunTextLine}
use Rattle.input_reading.specs.declared.status.line_meaning.Fact.{Fact}
use Rattle.input_reading.specs.declared.words.word_cause.WordCause.{WordCause}
use Rattle.input_reading.specs.FirstJournal.{is_repeated, journal_of}
use Rattle.input_reading.specs.Grammar.ResultForms.{ResultSays}
use Rattle.input_reading.specs.Grammar.RunForms.{RunSays}
use Rattle.input_reading.specs.Grammar.StatusForms.{StatusSays}
use Rattle.input_reading.specs.Results.{moment_after, most_results}

-- each line says the value at its place, where the values before that one are said before it
pub record EachLineSays {A : Type 0} (Says : List A → Line → A → Type 0) (lines : List Line) (values : List A) : Type 0 where
  pub many : length values ≡ length lines
  pub each : (k : ℕ) (line : Line) (value : A) → slice_get lines k ≡ Some line → slice_get values k ≡ Some value → Says (take k values) line value

-- each line before one of this number says its value, and that one is refused, by `Refused`, with this cause
pub record IsFirstRefused {A C : Type 0} (Says : List A → Line → A → Type 0) (Refused : List A → Line → C → Type 0) (lines : List Line) (number : ℕ) (cause : C)
    : Type 0 where
  pub front : List Line
  pub line : Line
  pub behind : List Line
  pub values : List A
  pub whole : lines ≡ front ++ line ∷ behind
  pub said : EachLineSays Says front values
  pub place : line.line ≡ number
  pub refused : Refused values line cause

-- what was returned is what the lines say, or a line is refused for the cause that was returned, or memory ran out
abbrev pub AsLinesSay : {A C : Type 0} → (A → Type 0) → (ℕ → C → Type 0) → Result A (Fault C) → Type 0
AsLinesSay Says Refused (Ok x) = Says x
AsLinesSay Says Refused (Err (At number cause)) = Refused number cause
AsLinesSay Says Refused (Err NoMemory) = Unit {0}

-- a line of a status says a fact, and not again what may be said once
pub record StatusLineSays (c : Cluster) (before : List Fact) (line : Line) (told : Fact) : Type 0 where
  pub says : StatusSays c line.words told
  pub once : is_repeated before told ≡ false

-- no form has the words of a line of a status (which cause of words that is, isn't told here); or the line says again what
-- may be said once
pub data StatusLineRefused (c : Cluster) (before : List Fact) (line : Line) : StatusCause → Type 0 where
  no_status_form : (cause : WordCause) → ((told : Fact) → StatusSays c line.words told → ⊥) → StatusLineRefused c before line (of_status.Form cause)
  said_before : (told : Fact) → StatusSays c line.words told → is_repeated before told ≡ true → StatusLineRefused c before line of_status.Repeated

-- the journal is that of the facts which the lines of a status say
pub record StatusIsSaid (c : Cluster) (lines : List Line) (journal : Journal) : Type 0 where
  pub facts : List Fact
  pub said : EachLineSays (StatusLineSays c) lines facts
  pub is : journal ≡ journal_of c facts

-- the line of this number is the first of a status that is refused
abbrev pub IsStatusRefused : Cluster → List Line → ℕ → StatusCause → Type 0
IsStatusRefused c = IsFirstRefused (StatusLineSays c) (StatusLineRefused c)

-- the words of a result line say an answer, at a moment, and the line is not behind too many others
pub record IsResultAnswer (c : Cluster) (moment before : ℕ) (words : List (List ℕ)) (given : Answer) : Type 0 where
  pub few : before < most_results
  pub says : ResultSays c moment words given

-- no form has the words of a result line (which cause of words that is, isn't told here); or the line is behind too many others
pub data IsNoAnswer (c : Cluster) (moment before : ℕ) (words : List (List ℕ)) : ResultCause → Type 0 where
  no_result_form : (cause : WordCause) → before < most_results → ((given : Answer) → ResultSays c moment words given → ⊥)
      → IsNoAnswer c moment before words (of_result.Form cause)
  too_many_before : most_results ≤ before → IsNoAnswer c moment before words of_result.TooManyResults

-- the same of a line with its number, as one call is asked about one line
abbrev pub IsNoAnswerOn : Cluster → ℕ → ℕ → ℕ → List (List ℕ) → ℕ → ResultCause → Type 0
IsNoAnswerOn c moment before line words number cause = (line ≡ number) × IsNoAnswer c moment before words cause

-- a result line says its answer, at the moment `start` and the waits before it
pub record ResultLineSays (c : Cluster) (start : ℕ) (before : List ResultLine) (line : Line) (result : ResultLine) : Type 0 where
  pub place : result.line ≡ line.line
  pub says : IsResultAnswer c (moment_after start before) (length before) line.words result.answer

abbrev pub ResultLineRefused : Cluster → ℕ → List ResultLine → Line → ResultCause → Type 0
ResultLineRefused c start before line = IsNoAnswer c (moment_after start before) (length before) line.words

-- the result lines say these results, one after another, from a moment on
abbrev pub ResultsAreSaid : Cluster → ℕ → List Line → List ResultLine → Type 0
ResultsAreSaid c start = EachLineSays (ResultLineSays c start)

-- the line of this number is the first result line that is refused
abbrev pub AreResultsRefused : Cluster → ℕ → List Line → ℕ → ResultCause → Type 0
AreResultsRefused c start = IsFirstRefused (ResultLineSays c start) (ResultLineRefused c start)

-- a line of a run says this
pub record RunLineSays (c : Cluster) (before : List RunTextLine) (line : Line) (read : RunTextLine) : Type 0 where
  pub place : read.line ≡ line.line
  pub says : RunSays c line.words read.what

-- no form has the words of a line of a run (which cause of words that is, isn't told here)
abbrev pub RunLineRefused : Cluster → List RunTextLine → Line → WordCause → Type 0
RunLineRefused c before line cause = (what : RunLine) → RunSays c line.words what → ⊥

-- each line of a run says what is read of it
abbrev pub RunIsSaid : Cluster → List Line → List RunTextLine → Type 0
RunIsSaid c = EachLineSays (RunLineSays c)

-- the line of this number is the first of a run that is refused
abbrev pub IsRunRefused : Cluster → List Line → ℕ → WordCause → Type 0
IsRunRefused c = IsFirstRefused (RunLineSays c) (RunLineRefused c)
