-- Result lines have no section among them.
use Rattle.std.proofs.Common.{arith, ◌≡◌, ◌==◌, ℕ, Bool, true, false, if◌then◌else◌, List, [], ◌∷◌, ◌++◌, length, Result, Ok, Err, refl, sym, subst}
use Rattle.std.specs.Prelude.{nat_lt}
use Rattle.std.specs.List.{list_any}
use Rattle.cluster_types.specs.declared.cluster.Cluster.{Cluster}
use Rattle.cluster_types.specs.declared.journal.Answer.{Answer}
use Rattle.crm_lex.specs.declared.line.Line.{Line}
use Rattle.crm_parse.specs.Marks.{first_word, has_percent, is_mark}
use Rattle.faults.specs.declared.fault.Fault.TheVariants.{At}
use Rattle.faults.specs.Reading.{faulting, on_line}
use Rattle.faults.proofs.Steps.{bind-ok}
use Rattle.input_reading.specs.declared.history_fault.ResultCause.TheVariants as of_result
use Rattle.input_reading.specs.declared.results.result_lines.ResultLine.{ResultLine}
use Rattle.input_reading.specs.declared.words.word_cause.WordCause.{WordCause}
use Rattle.input_reading.specs.declared.words.word_cause.WordCause.TheVariants.{UnknownStatement}
use Rattle.input_reading.specs.WordPlaces.{WordsOfLine}
use Rattle.input_reading.specs.Results.{answer_of, moment_after, result_of, result_word, with_result, with_result_lines}

-- no result line begins with a percent sign
no_result : (c : Cluster) (moment : ℕ) (bs : List ℕ) (ws : WordsOfLine) → answer_of c moment ((37 ∷ bs) ∷ ws) ≡ Err UnknownStatement
unfolding answer_of result_word
no_result c moment bs ws = refl

-- what isn't read of words that begin with a percent sign is read of others alone
pub plain_read : {A : Type 0} (read : WordsOfLine → Result A WordCause) → ((bs : List ℕ) (ws : WordsOfLine) → read ((37 ∷ bs) ∷ ws) ≡ Err UnknownStatement) → (words : WordsOfLine) (given : A)
    → read words ≡ Ok given → has_percent (first_word words) ≡ false
plain_read read none [] given e = refl
plain_read read none ([] ∷ ws) given e = refl
plain_read read none ((b ∷ bs) ∷ ws) given e = by (b == 37) refl
  where
    by : (t : Bool) → (b == 37) ≡ t → t ≡ false
    by false at = refl
    by true at =
        let same : b ≡ 37 = grind arith in
        let wrong = subst (λ x. read ((x ∷ bs) ∷ ws) ≡ Err UnknownStatement) (sym same) (none bs ws) in
        cc

plain_result : (c : Cluster) (moment before line : ℕ) (words : WordsOfLine) (given : Answer) → result_of c moment before line words ≡ Ok given → has_percent (first_word words) ≡ false
plain_result c moment before line words given e = by (nat_lt before 10000) e
  where
    of : (read : Result Answer WordCause) → answer_of c moment words ≡ read → faulting of_result.Form (on_line line read) ≡ Ok given → has_percent (first_word words) ≡ false
    of (Ok answer) is e = plain_read (answer_of c moment) (no_result c moment) words answer is
    of (Err why) is e = absurd (let f : ⊥ = cc in f)

    by : (b : Bool) → (if b then faulting of_result.Form (on_line line (answer_of c moment words)) else Err (At line of_result.TooManyResults)) ≡ Ok given → has_percent (first_word words) ≡ false
    by true e = of (answer_of c moment words) refl e
    by false e = absurd (let f : ⊥ = cc in f)

-- result lines have no section among them
pub plain_results : (c : Cluster) (start : ℕ) (so_far : List ResultLine) (rows : List Line) (out : List ResultLine) → with_result_lines c start so_far rows ≡ Ok out → list_any is_mark rows ≡ false
plain_results c start so_far [] out e = refl
plain_results c start so_far (at ∷ rows) out e =
    let (more, is, rest) = bind-ok (with_result c start so_far at) (λ (more : List ResultLine). with_result_lines c start more rows) out e in
    let (given, read, made) = bind-ok (result_of c (moment_after start so_far) (length so_far) at.line at.words)
    (λ (given : Answer). Ok (so_far ++ record { line = at.line; answer = given } ∷ [])) more is in
    let plain = plain_result c (moment_after start so_far) (length so_far) at.line at.words given read in
    let others = plain_results c start more rows out rest in
    rw (plain, others) refl
