-- Result lines are read just when they say the answers that are read.
use Rattle.std.proofs.Common.{◌≡◌, ℕ, ◌<◌, nat_lt, Bool, true, false, cond, List, [], ◌∷◌, ◌++◌, length, Result, Ok, Err, refl, sym, ap, ◌∙◌, subst, arith}
use Rattle.std.proofs.lemmas.Bool.Decides.{nat_tests}
use Rattle.crm_lex.specs.declared.line.Line.{Line}
use Rattle.crm_lex.specs.Reading.{Kept, kept}
use Rattle.cluster_types.specs.declared.cluster.Cluster.{Cluster}
use Rattle.cluster_types.specs.declared.journal.Answer.{Answer}
use Rattle.faults.specs.declared.fault.Fault.{Fault}
use Rattle.faults.specs.declared.fault.Fault.TheVariants.{At, NoMemory}
use Rattle.faults.specs.Reading.{◌>>=◌, Gives, faulting, on_line}
use Rattle.faults.proofs.Steps.{bind-ok, faulting-ok, on_line-ok}
use Rattle.input_reading.specs.declared.history_fault.ResultCause.{ResultCause}
use Rattle.input_reading.specs.declared.history_fault.ResultCause.TheVariants.{Form, TooManyResults}
use Rattle.input_reading.specs.declared.results.result_lines.ResultLine.{ResultLine}
use Rattle.input_reading.specs.declared.words.word_cause.WordCause.{WordCause}
use Rattle.input_reading.specs.Grammar.LinesSaid.{AreResultsRefused, AsLinesSay, IsResultAnswer, IsNoAnswer, IsNoAnswerOn, ResultLineRefused, ResultLineSays, ResultsAreSaid, no_result_form, too_many_before}
use Rattle.input_reading.specs.Results.{answer_of, moment_after, most_results, result_of, results_of, with_result, with_result_lines}
use Rattle.input_reading.proofs.FirstWords.{kept_suffice}
use Rattle.input_reading.proofs.LinesInTurn.{IsLineFault, as-said, lines-read, lines-refuse, lines-refused, lines-said}
use Rattle.input_reading.proofs.ResultRelated.{no-answer, none-answered, result-read, result-said}

-- one line
module _ (c : Cluster) (moment before line : ℕ) (words : List (List ℕ)) where
  abbrev answered : Result Answer (Fault ResultCause)
  answered = faulting Form (on_line line (answer_of c moment words))

  said-case : (given : Answer) (test : Bool) → nat_lt before most_results ≡ test → cond test answered (Err (At line TooManyResults)) ≡ Ok given
      → IsResultAnswer c moment before words given
  said-case given true t e = record {
    few = grind (arith, nat_tests);
    says = result-said c moment words given (on_line-ok line (answer_of c moment words) given (faulting-ok Form (on_line line (answer_of c moment words)) given e));
  }
  said-case given false t e = cc

  pub answer-said : (given : Answer) → result_of c moment before line words ≡ Ok given → IsResultAnswer c moment before words given
  answer-said given e = said-case given (nat_lt before most_results) refl e

  pub answer-read : (given : Answer) → IsResultAnswer c moment before words given → result_of c moment before line words ≡ Ok given
  answer-read given s =
      let few = s.few in
      let test : nat_lt before most_results ≡ true = grind (arith, nat_tests) in
      rw (test, result-read c moment words given s.says) refl

  -- a fault is on this line, for a reason that it has
  abbrev pub IsNoAnswerFor : Fault ResultCause → Type 0
  IsNoAnswerFor (At number cause) = IsNoAnswerOn c moment before line words number cause
  IsNoAnswerFor NoMemory = ⊥

  form-case : (fault : Fault ResultCause) (read : Result Answer WordCause) → answer_of c moment words ≡ read → before < most_results
      → faulting Form (on_line line read) ≡ Err fault → IsNoAnswerFor fault
  form-case fault (Ok given) is few e = cc
  form-case fault (Err cause) is few e =
      let same : At line (Form cause) ≡ fault = cc in
      subst IsNoAnswerFor same (refl, no_result_form cause few (λ given says. none-answered c moment words cause given is says))

  fault-case : (fault : Fault ResultCause) (test : Bool) → nat_lt before most_results ≡ test → cond test answered (Err (At line TooManyResults)) ≡ Err fault
      → IsNoAnswerFor fault
  fault-case fault true t e = form-case fault (answer_of c moment words) refl (grind (arith, nat_tests)) e
  fault-case fault false t e =
      let same : At line TooManyResults ≡ fault = cc in
      subst IsNoAnswerFor same (refl, too_many_before (grind (arith, nat_tests)))

  pub answer-refused : (fault : Fault ResultCause) → result_of c moment before line words ≡ Err fault → IsNoAnswerFor fault
  answer-refused fault e = fault-case fault (nat_lt before most_results) refl e

  pub answer-refuses : (cause : ResultCause) → IsNoAnswer c moment before words cause → (fault : Fault ResultCause) × (result_of c moment before line words ≡ Err fault)
  answer-refuses cause (no_result_form why few none) =
      let test : nat_lt before most_results ≡ true = grind (arith, nat_tests) in
      let (found, e) = no-answer c moment words none in (At line (Form found), rw (test, e) refl)
  answer-refuses cause (too_many_before many) =
      let test : nat_lt before most_results ≡ false = grind (arith, nat_tests) in
      (At line TooManyResults, rw test refl)

  answer-case : (given : Result Answer (Fault ResultCause)) → given ≡ result_of c moment before line words
      → AsLinesSay (IsResultAnswer c moment before words) (IsNoAnswerOn c moment before line words) given
  answer-case (Ok given) e = answer-said given (sym e)
  answer-case (Err (At number cause)) e = answer-refused (At number cause) (sym e)
  answer-case (Err NoMemory) e = tt

-- what a call returned of one line whose words are kept
pub answer-given : (c : Cluster) (moment before line : ℕ) (words : Kept) (all : List (List ℕ)) (given : Result Answer (Fault ResultCause))
    → given ≡ result_of c moment before line words.first → words ≡ kept all
    → AsLinesSay (IsResultAnswer c moment before all) (IsNoAnswerOn c moment before line all) given
answer-given c moment before line words all given e same =
    answer-case c moment before line all given (e ∙ kept_suffice c moment before line words all same)

-- all lines
module _ (c : Cluster) (start : ℕ) where
  abbrev Says : List ResultLine → Line → ResultLine → Type 0
  Says = ResultLineSays c start

  abbrev Refused : List ResultLine → Line → ResultCause → Type 0
  Refused = ResultLineRefused c start

  step-said : (before : List ResultLine) (line : Line) (more : List ResultLine) → with_result c start before line ≡ Ok more
      → (result : ResultLine) × (more ≡ before ++ result ∷ []) × ResultLineSays c start before line result
  step-said before line more e =
      let (given, is, rest) = bind-ok (result_of c (moment_after start before) (length before) line.line line.words) _ more e in
      let made : more ≡ before ++ record { line = line.line; answer = given } ∷ [] = cc in (
        record { line = line.line; answer = given },
        made,
        record { place = refl; says = answer-said c (moment_after start before) (length before) line.line line.words given is },
      )

  step-read : (before : List ResultLine) (line : Line) (result : ResultLine) → ResultLineSays c start before line result
      → with_result c start before line ≡ Ok (before ++ result ∷ [])
  step-read before line result s =
      rw (answer-read c (moment_after start before) (length before) line.line line.words result.answer s.says)
      (ap (λ n. Ok (before ++ record { line = n; answer = result.answer } ∷ [])) (sym s.place))

  line-fault : (before : List ResultLine) (line : Line) (fault : Fault ResultCause)
      → IsNoAnswerFor c (moment_after start before) (length before) line.line line.words fault → IsLineFault Says Refused before line fault
  line-fault before line (At number cause) f = f
  line-fault before line NoMemory f = f

  refused-case : (before : List ResultLine) (line : Line) (fault : Fault ResultCause) (read : Result Answer (Fault ResultCause))
      → result_of c (moment_after start before) (length before) line.line line.words ≡ read
      → (let more : Result (List ResultLine) (Fault ResultCause) = read >>= (λ given. Ok (before ++ record { line = line.line; answer = given } ∷ [])) in more) ≡ Err fault
      → IsLineFault Says Refused before line fault
  refused-case before line fault (Ok given) is e = cc
  refused-case before line fault (Err why) is e =
      let same : why ≡ fault = cc in
      subst (IsLineFault Says Refused before line) same
      (line-fault before line why (answer-refused c (moment_after start before) (length before) line.line line.words why is))

  step-refused : (before : List ResultLine) (line : Line) (fault : Fault ResultCause) → with_result c start before line ≡ Err fault → IsLineFault Says Refused before line fault
  step-refused before line fault e = refused-case before line fault (result_of c (moment_after start before) (length before) line.line line.words) refl e

  step-refuses : (before : List ResultLine) (line : Line) (cause : ResultCause) → ResultLineRefused c start before line cause
      → (fault : Fault ResultCause) × (with_result c start before line ≡ Err fault)
  step-refuses before line cause r =
      let (fault, e) = answer-refuses c (moment_after start before) (length before) line.line line.words cause r in
      (fault, rw e refl)

  none : (results : List ResultLine) → with_result_lines c start results [] ≡ Ok results
  none results = refl

  some : (results : List ResultLine) (line : Line) (lines : List Line)
      → with_result_lines c start results (line ∷ lines) ≡ (with_result c start results line >>= (λ more. with_result_lines c start more lines))
  some results line lines = refl

  -- what is read is said, and what is said is read
  pub results-said : (lines : List Line) (results : List ResultLine) → results_of c start lines ≡ Ok results → ResultsAreSaid c start lines results
  results-said lines results e =
      lines-said Says Refused (with_result c start) (with_result_lines c start) none some step-said step-read step-refused step-refuses lines results e

  pub results-read : (lines : List Line) (results : List ResultLine) → ResultsAreSaid c start lines results → results_of c start lines ≡ Ok results
  results-read lines results s =
      lines-read Says Refused (with_result c start) (with_result_lines c start) none some step-said step-read step-refused step-refuses lines results s

  pub results-refused : (lines : List Line) (number : ℕ) (cause : ResultCause) → results_of c start lines ≡ Err (At number cause)
      → AreResultsRefused c start lines number cause
  results-refused lines number cause e =
      lines-refused Says Refused (with_result c start) (with_result_lines c start) none some step-said step-read step-refused step-refuses lines number cause e

  -- no lines are both
  pub not-said-and-refused : (lines : List Line) (results : List ResultLine) (number : ℕ) (cause : ResultCause) → ResultsAreSaid c start lines results
      → AreResultsRefused c start lines number cause → ⊥
  not-said-and-refused lines results number cause s r =
      let (fault, e) = lines-refuse Says Refused (with_result c start) (with_result_lines c start) none some step-said step-read step-refused step-refuses lines number cause r in
      let wrong : Ok results ≡ Err fault = sym (results-read lines results s) ∙ e in cc

  -- what a call returned
  pub results-given : {V : Type 0} (view : V → List ResultLine) (lines : List Line) (given : Result V (Fault ResultCause)) → Gives view given (results_of c start lines)
      → AsLinesSay (λ results. ResultsAreSaid c start lines (view results)) (AreResultsRefused c start lines) given
  results-given view lines given h =
      as-said view (ResultsAreSaid c start lines) (AreResultsRefused c start lines) (results_of c start lines) given (results-said lines) (results-refused lines) h
