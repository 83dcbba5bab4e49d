-- What contracts see of a reader of lines.
use Rattle.std.specs.Prelude.{ℕ}
use Rattle.cluster_io.specs.Readings.{Reading}
use Rattle.cluster_io.specs.declared.line_reader.LineReader.{LineReader}

-- the lines that a reader holds
abbrev pub reading_of : {S : Type 0} {g : _} → LineReader S g → Reading
reading_of reader = reader.lines

-- the source that a reader reads
abbrev pub source_of : {S : Type 0} {g : _} → LineReader S g → S
source_of reader = reader.src.now

-- the name of the loan by which a reader has its source
abbrev pub loan_of : {S : Type 0} {g : _} → LineReader S g → ℕ
loan_of reader = reader.src.ghost_name
