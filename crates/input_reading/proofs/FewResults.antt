-- An input has at most as many result lines as are read.
use Rattle.std.proofs.Common.{◌≡◌, ℕ, ◌≤◌, ◌<◌, nat_lt, Bool, true, false, if◌then◌else◌, List, [], ◌∷◌, ◌++◌, length, Result, Ok, Err, refl, sym, subst, arith}
use Rattle.std.proofs.lemmas.Bool.Decides.{nat_tests}
use Rattle.std.proofs.lemmas.List.{length-append}
use Rattle.crm_lex.specs.declared.line.Line.{Line}
use Rattle.cluster_types.specs.declared.cluster.Cluster.{Cluster}
use Rattle.cluster_types.specs.declared.journal.Answer.{Answer}
use Rattle.faults.specs.declared.fault.Fault.{Fault}
use Rattle.faults.specs.declared.fault.Fault.TheVariants.{At}
use Rattle.faults.specs.Reading.{faulting, on_line}
use Rattle.faults.proofs.Steps.{bind-ok}
use Rattle.input_reading.specs.declared.history_fault.ResultCause.{ResultCause}
use Rattle.input_reading.specs.declared.history_fault.ResultCause.TheVariants.{Form, TooManyResults}
use Rattle.input_reading.specs.declared.results.result_lines.ResultLine.{ResultLine}
use Rattle.input_reading.specs.Results.{answer_of, moment_after, result_of, results_of, with_result, with_result_lines}

-- a line that is read stands after fewer
fewer_if : (test : Bool) (line : ℕ) (read : Result Answer (Fault ResultCause)) (given : Answer)
    → (if test then read else Err (At line TooManyResults)) ≡ Ok given → test ≡ true
fewer_if true line read given e = refl
fewer_if false line read given e = cc

fewer_before : (c : Cluster) (moment before line : ℕ) (words : List (List ℕ)) (given : Answer) → result_of c moment before line words ≡ Ok given → before < 10000
fewer_before c moment before line words given e =
    let test : nat_lt before 10000 ≡ true
    = fewer_if (nat_lt before 10000) line (faulting Form (on_line line (answer_of c moment words))) given e in
    grind (arith, nat_tests)

-- one more line, and all lines
one_more : (c : Cluster) (start : ℕ) (results : List ResultLine) (line : Line) (more : List ResultLine) → with_result c start results line ≡ Ok more
    → length more ≤ 10000
one_more c start results line more e =
    let (given, is, rest) = bind-ok (result_of c (moment_after start results) (length results) line.line line.words) _ more e in
    let before = fewer_before c (moment_after start results) (length results) line.line line.words given is in
    let made : more ≡ results ++ record { line = line.line; answer = given } ∷ [] = cc in
    let joined = length-append results (record { line = line.line; answer = given } ∷ []) in
    subst (λ (found : List ResultLine). length found ≤ 10000) (sym made) (omega (arith, before, joined))

few_with : (c : Cluster) (start : ℕ) (results : List ResultLine) (lines : List Line) (all : List ResultLine) → length results ≤ 10000
    → with_result_lines c start results lines ≡ Ok all → length all ≤ 10000
few_with c start results [] all few e = let same : all ≡ results = cc in subst (λ (found : List ResultLine). length found ≤ 10000) (sym same) few
few_with c start results (line ∷ lines) all few e =
    let (more, is, rest) = bind-ok (with_result c start results line) (λ more. with_result_lines c start more lines) all e in
    few_with c start more lines all (one_more c start results line more is) rest

pub few_results : (c : Cluster) (start : ℕ) (lines : List Line) (all : List ResultLine) → results_of c start lines ≡ Ok all → length all ≤ 10000
few_results c start lines all e = few_with c start [] lines all (omega arith) e
