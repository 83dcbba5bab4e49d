-- An input gets one status and one text with the word `audit`.
use Rattle.std.proofs.Common.{◌≡◌, ℕ, List, refl, sym, ap, subst, ◌∙◌}
use Rattle.cluster_types.specs.declared.cluster.Cluster.{Cluster}
use Rattle.cluster_types.specs.declared.journal.Journal.{Journal}
use Rattle.input_reading.specs.declared.input.cause.InputCause.{InputCause}
use Rattle.input_reading.specs.declared.input.trace.Trace.{Trace}
use Rattle.input_reading.specs.declared.run.text.RunTextLine.{RunTextLine}
use Rattle.input_reading.specs.Causes.{refusal_text}
use Rattle.input_reading.specs.Traces.{IsTraceRefused, ReadsTrace}
use Rattle.input_reading.proofs.OneReading.{not_both_of_a_trace, one_trace, one_trace_fault}
use Rattle.sim_core.specs.declared.verdict.Clause.{Clause}
use Rattle.sim_core.specs.LawfulRuns.{IsFaultyLine, IsLawfulRun, line_number_at, said}
use Rattle.sim_core.specs.declared.status.Status.{Status}
use Rattle.sim_core.specs.declared.status.Status.TheVariants.{Done, NotLawful, Refused}
use Rattle.sim_core.specs.Outputs.{IsRefusal}
use Rattle.sim_core.specs.Audit.{IsAuditOutput, IsLawfulTrace, IsUnlawfulTrace, unlawful_text}
use Rattle.sim_core.proofs.Exclusive.{not_faulty}
use Rattle.sim_core.proofs.OneFault.{one_fault}

-- where one line is refused, and for one cause, one text names it
pub one_refusal : (IsRefusedAt : ℕ → InputCause → Type 0)
    → ((line other : ℕ) (why cause : InputCause) → IsRefusedAt line why → IsRefusedAt other cause → (line ≡ other) × (why ≡ cause)) → (text more : List ℕ)
    → IsRefusal IsRefusedAt text → IsRefusal IsRefusedAt more → text ≡ more
one_refusal IsRefusedAt one text more a b =
    let same = one a.line b.line a.why b.why a.fault b.fault in
    a.printed ∙ (ap (λ n. refusal_text n a.why) same.0 ∙ (ap (refusal_text b.line) same.1 ∙ sym b.printed))

-- the first line at fault has one number
one_line : (c : Cluster) (journal : Journal) (lines : List RunTextLine) (after line other : ℕ) (kind sort : Clause) → IsFaultyLine c journal lines after line kind
    → IsFaultyLine c journal lines after other sort → (line ≡ other) × (kind ≡ sort)
one_line c journal lines after line other kind sort a b =
    let same = one_fault c journal (said lines) a.place b.place kind sort a.fault b.fault in
    (a.number_is ∙ (ap (λ n. line_number_at lines n after) same.0 ∙ sym b.number_is), same.1)

module _ (input : List ℕ) where
  lawful_or_not : (text more : List ℕ) → IsLawfulTrace input text → ¬ IsUnlawfulTrace input more
  lawful_or_not text more a b =
      let same : b.whole ≡ a.whole = one_trace input b.whole a.whole b.reads a.reads in
      let lawful : IsLawfulRun b.whole.head.cluster b.whole.head.journal (said b.whole.run.lines)
      = subst (λ (t : Trace). IsLawfulRun t.head.cluster t.head.journal (said t.run.lines)) (sym same) a.lawful in
      not_faulty b.whole.head.cluster b.whole.head.journal (said b.whole.run.lines) lawful b.fault.place b.clause b.fault.fault

  read_or_refused : (whole : Trace) (text : List ℕ) → ReadsTrace input whole → ¬ IsRefusal (IsTraceRefused input) text
  read_or_refused whole text reads r = not_both_of_a_trace input (record { whole = whole; reads = reads }) (record { line = r.line; why = r.why; fault = r.fault })

  one_unlawful : (text more : List ℕ) → IsUnlawfulTrace input text → IsUnlawfulTrace input more → text ≡ more
  one_unlawful text more a b =
      let same : a.whole ≡ b.whole = one_trace input a.whole b.whole a.reads b.reads in
      let fault : IsFaultyLine b.whole.head.cluster b.whole.head.journal b.whole.run.lines b.whole.after a.line a.clause
      = subst (λ (t : Trace). IsFaultyLine t.head.cluster t.head.journal t.run.lines t.after a.line a.clause) same a.fault in
      let one = one_line b.whole.head.cluster b.whole.head.journal b.whole.run.lines b.whole.after a.line b.line a.clause b.clause fault b.fault in
      a.printed ∙ (ap (λ n. unlawful_text n a.clause) one.0 ∙ (ap (unlawful_text b.line) one.1 ∙ sym b.printed))

  pub one_audit : (text more : List ℕ) (status other : Status) → IsAuditOutput input status text → IsAuditOutput input other more → (status ≡ other) × (text ≡ more)
  one_audit text more Done Done a b = (refl, a.printed ∙ sym b.printed)
  one_audit text more Done NotLawful a b = absurd (lawful_or_not text more a b)
  one_audit text more Done Refused a b = absurd (read_or_refused a.whole more a.reads b)
  one_audit text more NotLawful Done a b = absurd (lawful_or_not more text b a)
  one_audit text more NotLawful NotLawful a b = (refl, one_unlawful text more a b)
  one_audit text more NotLawful Refused a b = absurd (read_or_refused a.whole more a.reads b)
  one_audit text more Refused Done a b = absurd (read_or_refused b.whole text b.reads a)
  one_audit text more Refused NotLawful a b = absurd (read_or_refused b.whole text b.reads a)
  one_audit text more Refused Refused a b = (refl, one_refusal (IsTraceRefused input) (one_trace_fault input) text more a b)
  one_audit text more Done _ a b = absurd b
  one_audit text more NotLawful _ a b = absurd b
  one_audit text more Refused _ a b = absurd b
  one_audit text more _ other a b = absurd a
