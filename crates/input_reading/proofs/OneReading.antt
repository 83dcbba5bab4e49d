-- A text is read in one way: as one input, or with one fault.
use Rattle.std.proofs.Common.{◌≡◌, ℕ, List, sym, ◌∙◌}
use Rattle.input_reading.specs.declared.input.cause.InputCause.{InputCause}
use Rattle.input_reading.specs.declared.input.reading.Input.{Input}
use Rattle.input_reading.specs.declared.input.trace.Trace.{Trace}
use Rattle.input_reading.specs.Reading.{IsFaultyText, IsReadable, IsTextRefused, ReadsInput}
use Rattle.input_reading.specs.Traces.{IsFaultyTrace, IsReadableTrace, IsTraceRefused, ReadsTrace}

-- a text says one thing
pub one_input : (text : List ℕ) (one other : Input) → ReadsInput text one → ReadsInput text other → one ≡ other
one_input text one other x y = let same = sym x ∙ y in cc

-- a text has one fault
pub one_fault : (text : List ℕ) (line other : ℕ) (why cause : InputCause) → IsTextRefused text line why → IsTextRefused text other cause → (line ≡ other) × (why ≡ cause)
one_fault text line other why cause x y = let same = sym x ∙ y in (cc, cc)

-- a text that is read has no fault
pub not_both : (text : List ℕ) → IsReadable text → ¬ IsFaultyText text
not_both text read faulty = let same = sym read.reads ∙ faulty.fault in cc

-- and so with a trace
pub one_trace : (text : List ℕ) (one other : Trace) → ReadsTrace text one → ReadsTrace text other → one ≡ other
one_trace text one other x y = let same = sym x ∙ y in cc

pub one_trace_fault : (text : List ℕ) (line other : ℕ) (why cause : InputCause) → IsTraceRefused text line why → IsTraceRefused text other cause
    → (line ≡ other) × (why ≡ cause)
one_trace_fault text line other why cause x y = let same = sym x ∙ y in (cc, cc)

pub not_both_of_a_trace : (text : List ℕ) → IsReadableTrace text → ¬ IsFaultyTrace text
not_both_of_a_trace text read faulty = let same = sym read.reads ∙ faulty.fault in cc
