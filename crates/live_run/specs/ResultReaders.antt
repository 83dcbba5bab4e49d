-- What contracts see of a reader of result lines. Public clauses see it through `state_of` of LineSources.
use Rattle.std.specs.Prelude.{ℕ}
use Rattle.cluster_io.specs.LineReaders.{loan_of, reading_of, source_of}
use Rattle.live_run.specs.AnswersToCome.{LineReaderAt}
use Rattle.live_run.specs.declared.result_reader.ResultReader.{ResultReader}

abbrev pub reader_lines : {S : Type 0} {g : _} → ResultReader S g → LineReaderAt
reader_lines reader = record { at = reader.at; reading = reading_of reader.lines }

-- its source, and the name of the loan by which it has it
abbrev pub source_in : {S : Type 0} {g : _} → ResultReader S g → S
source_in reader = source_of reader.lines

abbrev pub loan_in : {S : Type 0} {g : _} → ResultReader S g → ℕ
loan_in reader = loan_of reader.lines
