-- The lines of a run are read just when they say what is read.
use Rattle.std.proofs.Common.{◌≡◌, ℕ, List, [], ◌∷◌, ◌++◌, Result, Ok, Err, refl, sym, ap, ◌∙◌, subst}
use Rattle.crm_lex.specs.declared.line.Line.{Line}
use Rattle.cluster_types.specs.declared.cluster.Cluster.{Cluster}
use Rattle.cluster_types.specs.declared.run.RunLine.{RunLine}
use Rattle.faults.specs.declared.fault.Fault.{Fault}
use Rattle.faults.specs.declared.fault.Fault.TheVariants.{At}
use Rattle.faults.specs.Reading.{◌>>=◌, Gives, on_line}
use Rattle.faults.proofs.Steps.{bind-ok, on_line-ok}
use Rattle.input_reading.specs.declared.run.text.RunTextLine.{RunTextLine}
use Rattle.input_reading.specs.declared.words.word_cause.WordCause.{WordCause}
use Rattle.input_reading.specs.Grammar.LinesSaid.{AsLinesSay, IsRunRefused, RunIsSaid, RunLineRefused, RunLineSays}
use Rattle.input_reading.specs.RunReading.{line_of_words, read_run_lines, text_line, with_run_lines}
use Rattle.input_reading.proofs.LinesInTurn.{IsLineFault, as-said, lines-read, lines-refuse, lines-refused, lines-said}
use Rattle.input_reading.proofs.RunRelated.{no-line, no-line-said, run-read, run-said}

module _ (c : Cluster) where
  abbrev Says : List RunTextLine → Line → RunTextLine → Type 0
  Says = RunLineSays c

  abbrev Refused : List RunTextLine → Line → WordCause → Type 0
  Refused = RunLineRefused c

  -- some lines, and what one more says
  abbrev with_one : List RunTextLine → Line → Result (List RunTextLine) (Fault WordCause)
  with_one before line = text_line c line >>= (λ (one : RunTextLine). Ok (before ++ one ∷ []))

  line-said : (line : Line) (one : RunTextLine) → text_line c line ≡ Ok one → (one.line ≡ line.line) × (line_of_words c line.words ≡ Ok one.what)
  line-said line one e =
      let (what, is, rest) = bind-ok (on_line line.line (line_of_words c line.words)) _ one e in
      let made : record { line = line.line; what = what } ≡ one = cc in
      subst (λ (o : RunTextLine). (o.line ≡ line.line) × (line_of_words c line.words ≡ Ok o.what)) made
      (refl, on_line-ok line.line (line_of_words c line.words) what is)

  step-said : (before : List RunTextLine) (line : Line) (more : List RunTextLine) → with_one before line ≡ Ok more
      → (one : RunTextLine) × (more ≡ before ++ one ∷ []) × RunLineSays c before line one
  step-said before line more e =
      let (one, is, rest) = bind-ok (text_line c line) _ more e in
      let made : more ≡ before ++ one ∷ [] = cc in
      let said = line-said line one is in
      (one, made, record { place = said.0; says = run-said c line.words one.what said.1 })

  step-read : (before : List RunTextLine) (line : Line) (one : RunTextLine) → RunLineSays c before line one → with_one before line ≡ Ok (before ++ one ∷ [])
  step-read before line one s =
      rw (run-read c line.words one.what s.says) (ap (λ n. Ok (before ++ record { line = n; what = one.what } ∷ [])) (sym s.place))

  refused-case : (before : List RunTextLine) (line : Line) (fault : Fault WordCause) (read : Result RunLine WordCause) → line_of_words c line.words ≡ read
      → (let one : Result RunTextLine (Fault WordCause) = on_line line.line read >>= (λ (what : RunLine). Ok (record { line = line.line; what = what })) in
      let more : Result (List RunTextLine) (Fault WordCause) = one >>= (λ (one : RunTextLine). Ok (before ++ one ∷ [])) in more) ≡ Err fault
      → IsLineFault Says Refused before line fault
  refused-case before line fault (Ok what) is e = cc
  refused-case before line fault (Err cause) is e =
      let same : At line.line cause ≡ fault = cc in
      subst (IsLineFault Says Refused before line) same (refl, λ what says. no-line-said c line.words cause what is says)

  step-refused : (before : List RunTextLine) (line : Line) (fault : Fault WordCause) → with_one before line ≡ Err fault → IsLineFault Says Refused before line fault
  step-refused before line fault e = refused-case before line fault (line_of_words c line.words) refl e

  step-refuses : (before : List RunTextLine) (line : Line) (cause : WordCause) → RunLineRefused c before line cause
      → (fault : Fault WordCause) × (with_one before line ≡ Err fault)
  step-refuses before line cause r = let (found, e) = no-line c line.words r in (At line.line found, rw e refl)

  none : (read : List RunTextLine) → with_run_lines c read [] ≡ Ok read
  none read = refl

  one-more : (before : List RunTextLine) (lines : List Line) (read : Result RunTextLine (Fault WordCause))
      → (read >>= (λ (one : RunTextLine). with_run_lines c (before ++ one ∷ []) lines))
      ≡ ((read >>= (λ (one : RunTextLine). Ok (before ++ one ∷ []))) >>= (λ more. with_run_lines c more lines))
  one-more before lines (Ok one) = refl
  one-more before lines (Err fault) = refl

  some : (before : List RunTextLine) (line : Line) (lines : List Line) → with_run_lines c before (line ∷ lines) ≡ (with_one before line >>= (λ more. with_run_lines c more lines))
  some before line lines = one-more before lines (text_line c line)

  -- what is read is said, and what is said is read
  pub lines-of-run-said : (lines : List Line) (read : List RunTextLine) → read_run_lines c lines ≡ Ok read → RunIsSaid c lines read
  lines-of-run-said lines read e = lines-said Says Refused with_one (with_run_lines c) none some step-said step-read step-refused step-refuses lines read e

  pub lines-of-run-read : (lines : List Line) (read : List RunTextLine) → RunIsSaid c lines read → read_run_lines c lines ≡ Ok read
  lines-of-run-read lines read s = lines-read Says Refused with_one (with_run_lines c) none some step-said step-read step-refused step-refuses lines read s

  pub lines-of-run-refused : (lines : List Line) (number : ℕ) (cause : WordCause) → read_run_lines c lines ≡ Err (At number cause) → IsRunRefused c lines number cause
  lines-of-run-refused lines number cause e =
      lines-refused Says Refused with_one (with_run_lines c) none some step-said step-read step-refused step-refuses lines number cause e

  -- no lines are both
  pub not-said-and-refused : (lines : List Line) (read : List RunTextLine) (number : ℕ) (cause : WordCause) → RunIsSaid c lines read
      → IsRunRefused c lines number cause → ⊥
  not-said-and-refused lines read number cause s r =
      let (fault, e) = lines-refuse Says Refused with_one (with_run_lines c) none some step-said step-read step-refused step-refuses lines number cause r in
      let wrong : Ok read ≡ Err fault = sym (lines-of-run-read lines read s) ∙ e in cc

  -- what a call returned
  pub run-given : {V : Type 0} (view : V → List RunTextLine) (lines : List Line) (given : Result V (Fault WordCause)) → Gives view given (read_run_lines c lines)
      → AsLinesSay (λ run. RunIsSaid c lines (view run)) (IsRunRefused c lines) given
  run-given view lines given h =
      as-said view (RunIsSaid c lines) (IsRunRefused c lines) (read_run_lines c lines) given (lines-of-run-said lines) (lines-of-run-refused lines) h
