-- What contracts see of a writer of the lines of a run.
use Rattle.std.specs.Prelude.{ℕ, Option, List}
use Rattle.cluster_types.specs.declared.cluster.Cluster.{Cluster}
use Rattle.live_run.specs.HeldAndWritten.{WriterView}
use Rattle.live_run.specs.declared.line_writer.LineWriter.{LineWriter}

-- the cluster by whose names it writes
abbrev pub writer_cluster : {W : Type 0} {g : _} → LineWriter W g → Cluster
writer_cluster writer = writer.cluster.now

-- what it holds back
abbrev pub writer_held : {W : Type 0} {g : _} → LineWriter W g → List ℕ
writer_held writer = writer.held.now

-- its sink, and the name of the loan by which it has it
abbrev pub sink_of : {W : Type 0} {g : _} → LineWriter W g → W
sink_of writer = writer.sink.now

abbrev pub writer_loan : {W : Type 0} {g : _} → LineWriter W g → ℕ
writer_loan writer = writer.sink.ghost_name

-- the writer at a moment, by what its sink tells of what is written and of its failures
abbrev pub writer_view : {W : Type 0} {g : _} → (W → Option (List ℕ)) → (W → ℕ) → LineWriter W g → WriterView
writer_view written faults writer = record {
  names = writer.cluster.now;
  held = writer.held.now;
  written = written writer.sink.now;
  faults = faults writer.sink.now;
  loan = writer.sink.ghost_name;
}
