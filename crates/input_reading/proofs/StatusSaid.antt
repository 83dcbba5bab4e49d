-- A status is read just when its lines say what is read.
use Rattle.std.proofs.Common.{◌≡◌, ℕ, Bool, true, false, cond, List, [], ◌∷◌, ◌++◌, Result, Ok, Err, refl, sym, ap, ◌∙◌, subst}
use Rattle.crm_lex.specs.declared.line.Line.{Line}
use Rattle.cluster_types.specs.declared.cluster.Cluster.{Cluster}
use Rattle.cluster_types.specs.declared.journal.Journal.{Journal}
use Rattle.faults.specs.declared.fault.Fault.{Fault}
use Rattle.faults.specs.declared.fault.Fault.TheVariants.{At}
use Rattle.faults.specs.Reading.{◌>>=◌, Gives, faulting, on_line}
use Rattle.faults.proofs.Steps.{bind-ok, faulting-ok, on_line-ok}
use Rattle.input_reading.specs.declared.history_fault.StatusCause.{StatusCause}
use Rattle.input_reading.specs.declared.history_fault.StatusCause.TheVariants.{Form, Repeated}
use Rattle.input_reading.specs.declared.status.line_meaning.Fact.{Fact}
use Rattle.input_reading.specs.declared.words.word_cause.WordCause.{WordCause}
use Rattle.input_reading.specs.FirstJournal.{is_repeated, journal_of, status_journal, with_status_line, with_status_lines, with_told}
use Rattle.input_reading.specs.Grammar.LinesSaid.{AsLinesSay, IsStatusRefused, StatusIsSaid, StatusLineRefused, StatusLineSays, no_status_form, said_before}
use Rattle.input_reading.specs.Grammar.StatusForms.{StatusSays}
use Rattle.input_reading.specs.Status.{told_of}
use Rattle.input_reading.proofs.LinesInTurn.{IsLineFault, as-said, lines-read, lines-refuse, lines-refused, lines-said}
use Rattle.input_reading.proofs.StatusIsRead.{no-fact, no-fact-said, status-read}
use Rattle.input_reading.proofs.StatusRelated.{status-said}

module _ (c : Cluster) where
  abbrev Says : List Fact → Line → Fact → Type 0
  Says = StatusLineSays c

  abbrev Refused : List Fact → Line → StatusCause → Type 0
  Refused = StatusLineRefused c

  once-case : (before : List Fact) (line : ℕ) (told : Fact) (more : List Fact) (test : Bool) → (let read : Result (List Fact) (Fault StatusCause) = cond test (Err (At line Repeated)) (Ok (before ++ told ∷ [])) in read) ≡ Ok more
      → (more ≡ before ++ told ∷ []) × (test ≡ false)
  once-case before line told more true e = cc
  once-case before line told more false e = (cc, refl)

  step-said : (before : List Fact) (line : Line) (more : List Fact) → with_status_line c before line ≡ Ok more
      → (told : Fact) × (more ≡ before ++ told ∷ []) × StatusLineSays c before line told
  step-said before line more e =
      let (told, is, rest) = bind-ok (faulting Form (on_line line.line (told_of c line.words))) (with_told before line.line) more e in
      let read = on_line-ok line.line (told_of c line.words) told (faulting-ok Form (on_line line.line (told_of c line.words)) told is) in
      let once = once-case before line.line told more (is_repeated before told) rest in
      (told, once.0, record { says = status-said c line.words told read; once = once.1 })

  step-read : (before : List Fact) (line : Line) (told : Fact) → StatusLineSays c before line told → with_status_line c before line ≡ Ok (before ++ told ∷ [])
  step-read before line told s = rw (status-read c line.words told s.says, s.once) refl

  again-case : (before : List Fact) (line : Line) (told : Fact) (fault : Fault StatusCause) (test : Bool) → is_repeated before told ≡ test → StatusSays c line.words told
      → (let read : Result (List Fact) (Fault StatusCause) = cond test (Err (At line.line Repeated)) (Ok (before ++ told ∷ [])) in read) ≡ Err fault
      → IsLineFault Says Refused before line fault
  again-case before line told fault true t says e =
      let same : At line.line Repeated ≡ fault = cc in
      subst (IsLineFault Says Refused before line) same (refl, said_before told says t)
  again-case before line told fault false t says e = cc

  refused-case : (before : List Fact) (line : Line) (fault : Fault StatusCause) (read : Result Fact WordCause) → told_of c line.words ≡ read
      → (faulting Form (on_line line.line read) >>= with_told before line.line) ≡ Err fault → IsLineFault Says Refused before line fault
  refused-case before line fault (Ok told) is e = again-case before line told fault (is_repeated before told) refl (status-said c line.words told is) e
  refused-case before line fault (Err cause) is e =
      let same : At line.line (Form cause) ≡ fault = cc in
      subst (IsLineFault Says Refused before line) same (refl, no_status_form cause (λ told says. no-fact-said c line.words cause told is says))

  step-refused : (before : List Fact) (line : Line) (fault : Fault StatusCause) → with_status_line c before line ≡ Err fault → IsLineFault Says Refused before line fault
  step-refused before line fault e = refused-case before line fault (told_of c line.words) refl e

  step-refuses : (before : List Fact) (line : Line) (cause : StatusCause) → StatusLineRefused c before line cause
      → (fault : Fault StatusCause) × (with_status_line c before line ≡ Err fault)
  step-refuses before line cause (no_status_form why none) = let (found, e) = no-fact c line.words none in (At line.line (Form found), rw e refl)
  step-refuses before line cause (said_before told says again) = (At line.line Repeated, rw (status-read c line.words told says, again) refl)

  none : (told : List Fact) → with_status_lines c told [] ≡ Ok told
  none told = refl

  some : (told : List Fact) (line : Line) (lines : List Line) → with_status_lines c told (line ∷ lines) ≡ (with_status_line c told line >>= (λ more. with_status_lines c more lines))
  some told line lines = refl

  -- what is read is said
  pub journal-said : (lines : List Line) (journal : Journal) → status_journal c lines ≡ Ok journal → StatusIsSaid c lines journal
  journal-said lines journal e =
      let (facts, is, rest) = bind-ok (with_status_lines c [] lines) (λ told. Ok (journal_of c told)) journal e in
      let made : journal ≡ journal_of c facts = cc in
      record {
        facts = facts;
        said = lines-said Says Refused (with_status_line c) (with_status_lines c) none some step-said step-read step-refused step-refuses lines facts is;
        is = made;
      }

  -- and what is said is read
  pub journal-read : (lines : List Line) (journal : Journal) → StatusIsSaid c lines journal → status_journal c lines ≡ Ok journal
  journal-read lines journal s =
      let read : with_status_lines c [] lines ≡ Ok s.facts
      = lines-read Says Refused (with_status_line c) (with_status_lines c) none some step-said step-read step-refused step-refuses lines s.facts s.said in
      rw read (ap Ok (sym s.is))

  faulty-case : (lines : List Line) (number : ℕ) (cause : StatusCause) (read : Result (List Fact) (Fault StatusCause)) → with_status_lines c [] lines ≡ read
      → (let whole : Result Journal (Fault StatusCause) = read >>= (λ told. Ok (journal_of c told)) in whole) ≡ Err (At number cause)
      → with_status_lines c [] lines ≡ Err (At number cause)
  faulty-case lines number cause (Ok told) is e = cc
  faulty-case lines number cause (Err fault) is e = let same : fault ≡ At number cause = cc in is ∙ ap Err same

  pub journal-refused : (lines : List Line) (number : ℕ) (cause : StatusCause) → status_journal c lines ≡ Err (At number cause) → IsStatusRefused c lines number cause
  journal-refused lines number cause e =
      lines-refused Says Refused (with_status_line c) (with_status_lines c) none some step-said step-read step-refused step-refuses lines number cause
      (faulty-case lines number cause (with_status_lines c [] lines) refl e)

  pub journal-refuses : (lines : List Line) (number : ℕ) (cause : StatusCause) → IsStatusRefused c lines number cause
      → (fault : Fault StatusCause) × (status_journal c lines ≡ Err fault)
  journal-refuses lines number cause r =
      let (fault, e) = lines-refuse Says Refused (with_status_line c) (with_status_lines c) none some step-said step-read step-refused step-refuses lines number cause r in
      (fault, rw e refl)

  -- no status is both
  pub not-said-and-refused : (lines : List Line) (journal : Journal) (number : ℕ) (cause : StatusCause) → StatusIsSaid c lines journal → IsStatusRefused c lines number cause → ⊥
  not-said-and-refused lines journal number cause s r =
      let (fault, e) = journal-refuses lines number cause r in
      let wrong : Ok journal ≡ Err fault = sym (journal-read lines journal s) ∙ e in cc

  -- what a call returned
  pub status-given : (lines : List Line) (given : Result Journal (Fault StatusCause)) → Gives (λ (journal : Journal). journal) given (status_journal c lines)
      → AsLinesSay (StatusIsSaid c lines) (IsStatusRefused c lines) given
  status-given lines given h =
      as-said (λ (journal : Journal). journal) (StatusIsSaid c lines) (IsStatusRefused c lines) (status_journal c lines) given (journal-said lines) (journal-refused lines) h
