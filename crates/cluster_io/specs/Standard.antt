-- What contracts see of a source over a reader of std, and of a sink over a writer.
use Rattle.std.specs.Prelude.{◌≡◌, ◌≢◌, ℕ, ◌+◌, ◌-◌, ◌^◌, ◌≤◌, min, Bool}
use Rattle.cluster_io.specs.Streams.{next_fault}
use Rattle.cluster_io.specs.declared.standard.StdSource.{StdSource}
use Rattle.cluster_io.specs.declared.standard.StdSink.{StdSink}

-- the reader behind a source
abbrev pub reader_of : {R : Type 0} → StdSource R → R
reader_of source = source.calls.reader

-- the writer behind a sink
abbrev pub writer_of : {W : Type 0} → StdSink W → W
writer_of sink = sink.calls.writer

-- how often a source over a reader has failed
abbrev pub source_faults : {R : Type 0} → StdSource R → ℕ
source_faults source = source.faults

-- whether a source over a reader has ended
abbrev pub has_source_ended : {R : Type 0} → StdSource R → Bool
has_source_ended source = source.ended

-- how often a sink over a writer has failed
abbrev pub sink_faults : {W : Type 0} → StdSink W → ℕ
sink_faults sink = sink.faults

-- how many calls of the reader behind a source have failed, interrupted ones apart
abbrev pub reader_failures : {R : Type 0} → StdSource R → ℕ
reader_failures source = source.calls.failures

-- how many calls of the reader behind a source were interrupted
abbrev pub reader_interruptions : {R : Type 0} → StdSource R → ℕ
reader_interruptions source = source.calls.interruptions

-- how many calls of the reader behind a source gave bytes or found the end
abbrev pub reader_answers : {R : Type 0} → StdSource R → ℕ
reader_answers source = source.calls.answers

-- how many calls of the writer behind a sink have failed or took nothing, interrupted ones apart
abbrev pub writer_failures : {W : Type 0} → StdSink W → ℕ
writer_failures sink = sink.calls.failures

-- how many calls of the writer behind a sink were interrupted
abbrev pub writer_interruptions : {W : Type 0} → StdSink W → ℕ
writer_interruptions sink = sink.calls.interruptions

-- how many calls of the writer behind a sink took bytes
abbrev pub writer_answers : {W : Type 0} → StdSink W → ℕ
writer_answers sink = sink.calls.answers

-- a call that doesn't fail made no call that failed, and exactly one that was answered. One that fails made none that was answered, and one that
-- failed and no more, or at least 1,000 that were interrupted. All this as far as their counts go. No call makes more than 1,000 interrupted ones
pub record Persists (failed : Type 0) (failures failures_now interruptions interruptions_now answers answers_now : ℕ) : Type 0 where
  pub none_swallowed : (failed → ⊥) → failures_now ≡ failures
  pub has_cause : failed → failures_now ≢ next_fault failures
      → (failures_now ≡ failures) × (min (interruptions + 1000) (2 ^ 64 - 1) ≤ interruptions_now)
  pub few : interruptions_now ≤ interruptions + 1000
  pub one_answer : (failed → ⊥) → answers_now ≡ next_fault answers
  pub no_answer : failed → answers_now ≡ answers
