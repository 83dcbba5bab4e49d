-- What contracts see of a source of answers that are read from lines.
use Rattle.std.specs.Prelude.{ℕ, Option, List}
use Rattle.live_run.specs.Courses.{SourceState}
use Rattle.live_run.specs.SourceFollowed.{SourceView}
use Rattle.live_run.specs.ResultReaders as readers
use Rattle.live_run.specs.declared.line_outcomes.LineOutcomes.{LineOutcomes}

abbrev pub state_of : {S : Type 0} {g : _} → LineOutcomes S g → SourceState
state_of o = record {
  cluster = o.names.now;
  lines = readers.reader_lines o.reader;
  course = o.course;
  line = o.line;
  failed = o.failed;
}

-- its source of bytes, and the name of the loan by which it has it
abbrev pub outcomes_source : {S : Type 0} {g : _} → LineOutcomes S g → S
outcomes_source o = readers.source_in o.reader

abbrev pub outcomes_loan : {S : Type 0} {g : _} → LineOutcomes S g → ℕ
outcomes_loan o = readers.loan_in o.reader

-- the source at a moment, by what its source of bytes tells of what it has left and of its failures
abbrev pub outcomes_view : {S : Type 0} {g : _} → (S → Option (List ℕ)) → (S → ℕ) → LineOutcomes S g → SourceView
outcomes_view left faults o = record { state = state_of o; left = left (outcomes_source o); faults = faults (outcomes_source o); loan = outcomes_loan o }
