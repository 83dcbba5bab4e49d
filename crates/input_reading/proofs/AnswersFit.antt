-- The answers of result lines have exit codes and intervals that fit.
use Rattle.std.proofs.Common.{arith, ◌≡◌, ◌<◌, ◌≤◌, ◌^◌, ◌==◌, ◌&&◌, not, nat_le, nat_lt, ℕ, Bool, true, false, if◌then◌else◌, Option, Some, None, List, [], ◌∷◌, ◌++◌, length, map, Ok, Err, refl, ap, subst}
use Rattle.std.specs.Char.{is_ascii_digit}
use Rattle.std.specs.List.{AllByRecursion, list_all}
use Rattle.std.specs.Option.{ok_or}
use Rattle.std.specs.Str.Parse.{digits_value}
use Rattle.std.proofs.lemmas.Bool.{and_parts}
use Rattle.std.proofs.lemmas.Bool.Decides.{nat_tests}
use Rattle.lemmas.proofs.Members.{all_append}
use Rattle.faults.specs.Digits.{is_number, number_up_to}
use Rattle.faults.specs.declared.fault.Fault.TheVariants.{At}
use Rattle.faults.specs.Reading.{faulting, on_line}
use Rattle.faults.proofs.Steps.{bind-ok, faulting-ok, on_line-ok}
use Rattle.crm_lex.specs.declared.line.Line.{Line}
use Rattle.cluster_types.specs.declared.cluster.Cluster.{Cluster}
use Rattle.cluster_types.specs.declared.journal.Answer.{Answer}
use Rattle.cluster_types.specs.declared.journal.Answer.TheVariants as answer
use Rattle.cluster_types.specs.Journals.{moment_of}
use Rattle.input_reading.specs.declared.history_fault.ResultCause.TheVariants.{Form, TooManyResults}
use Rattle.input_reading.specs.declared.input.cause.InputCause.TheVariants as cause
use Rattle.input_reading.specs.declared.input.reading.Head.{Head}
use Rattle.input_reading.specs.declared.input.reading.Input.{Input}
use Rattle.input_reading.specs.declared.results.answers.ResultWord.{ResultWord}
use Rattle.input_reading.specs.declared.results.answers.ResultWord.TheVariants.{End, Timeout, Lost, Up, Quorum, Wait, Report}
use Rattle.input_reading.specs.declared.results.result_lines.ResultLine.{ResultLine}
use Rattle.input_reading.specs.declared.words.word_cause.WordCause.TheVariants.{BadValue}
use Rattle.input_reading.specs.Numbers.{above_0, read_action_number, read_exit_code}
use Rattle.input_reading.specs.WordPlaces.{code_at, leaf_at, line_end_at, node_at, number_at, seconds_at, word_at, yes_at}
use Rattle.input_reading.specs.Reading.{ReadsInput, following_lines, head_of, status_lines, with_results}
use Rattle.input_reading.specs.ResultFields.{AnswerFieldsFit}
use Rattle.input_reading.specs.Results.{answer_as, answer_of, end_line, in_time, lost_line, moment_after, quorum_answer, report_line, result_of, result_word, results_of, timeout_line, up_line, wait_line, with_result, with_result_lines}
use Rattle.input_reading.proofs.ValidInput.{passed, passed_on, stepped}

-- what some option gives is at most this
abbrev pub AtMost : ℕ → Option ℕ → Type 0
AtMost most found = (n : ℕ) → found ≡ Some n → n ≤ most

number_case : (most n m : ℕ) (b : Bool) → (b ≡ true → n ≤ most) → (if b then Some n else None) ≡ Some m → m ≤ most
number_case most n m true h e = let same : n ≡ m = cc in subst (λ k. k ≤ most) same (h refl)
number_case most n m false h e = cc

pub number_most : (most : ℕ) (word : List ℕ) → AtMost most (number_up_to most word)
number_most most word m e =
    number_case most (digits_value 10 word) m (is_number most word)
    small e
  where
    small : is_number most word ≡ true → digits_value 10 word ≤ most
    small h =
        let last : nat_le (digits_value 10 word) most ≡ true = (and_parts (not (length word == 0) && list_all is_ascii_digit word) (nat_le (digits_value 10 word) most) h).1 in
        grind (arith, nat_tests)

-- the answer of a line
code_fits : (place : ℕ) (words : List (List ℕ)) (code : ℕ) → code_at place words ≡ Ok code → code < 256
unfolding code_at
code_fits place words code e =
    let (word, is, last) = bind-ok (word_at place words) _ code e in
    let most : code ≤ 255 = go (read_exit_code word) (number_most 255 word) last in
    omega (arith, most)
  where
    go : (found : Option ℕ) → AtMost 255 found → ok_or found BadValue ≡ Ok code → code ≤ 255
    go None h e = cc
    go (Some n) h e = let same : n ≡ code = cc in h code (ap Some same)

above_most : (found : Option ℕ) → AtMost 4294967295 found → AtMost 4294967295 (above_0 found)
above_most None h n e = cc
above_most (Some k) h n e = go (k == 0) refl e
  where
    go : (b : Bool) → (k == 0) ≡ b → (if b then None else Some k) ≡ Some n → n ≤ 4294967295
    go true z e = cc
    go false z e = let same : k ≡ n = cc in h n (ap Some same)

number_fits : (place : ℕ) (words : List (List ℕ)) (n : ℕ) → number_at place words ≡ Ok n → n < 2 ^ 32
unfolding number_at
number_fits place words n e =
    let (word, is, last) = bind-ok (word_at place words) _ n e in
    let most : n ≤ 4294967295 = go (read_action_number word) (above_most (number_up_to 4294967295 word) (number_most 4294967295 word)) last in
    omega (arith, most)
  where
    go : (found : Option ℕ) → AtMost 4294967295 found → ok_or found BadValue ≡ Ok n → n ≤ 4294967295
    go None h e = cc
    go (Some k) h e = let same : k ≡ n = cc in h n (ap Some same)

end_fits : (words : List (List ℕ)) (given : Answer) → end_line words ≡ Ok given → AnswerFieldsFit given
unfolding end_line
end_fits words given e =
    let (number, is_number, e1) = bind-ok (number_at 1 words) _ given e in
    let (code, is_code, e2) = bind-ok (code_at 2 words) _ given e1 in
    let (end, at_end, e3) = bind-ok (line_end_at 3 words) _ given e2 in
    let made : answer.End number code ≡ given = cc in
    subst AnswerFieldsFit made (code_fits 2 words code is_code)

report_fits : (c : Cluster) (words : List (List ℕ)) (given : Answer) → report_line c words ≡ Ok given → AnswerFieldsFit given
unfolding report_line
report_fits c words given e =
    let (node, is_node, e1) = bind-ok (node_at c 1 words) _ given e in
    let (leaf, is_leaf, e2) = bind-ok (leaf_at c 2 words) _ given e1 in
    let (interval, is_interval, e3) = bind-ok (number_at 3 words) _ given e2 in
    let (code, is_code, e4) = bind-ok (code_at 4 words) _ given e3 in
    let (end, at_end, e5) = bind-ok (line_end_at 5 words) _ given e4 in
    let made : answer.Report node leaf interval code ≡ given = cc in
    subst AnswerFieldsFit made (number_fits 3 words interval is_interval, code_fits 4 words code is_code)

timeout_fits : (words : List (List ℕ)) (given : Answer) → timeout_line words ≡ Ok given → AnswerFieldsFit given
unfolding timeout_line
timeout_fits words given e =
    let (number, is_number, e1) = bind-ok (number_at 1 words) _ given e in
    let (end, at_end, e2) = bind-ok (line_end_at 2 words) _ given e1 in
    let made : answer.Timeout number ≡ given = cc in
    subst AnswerFieldsFit made tt

lost_fits : (c : Cluster) (words : List (List ℕ)) (given : Answer) → lost_line c words ≡ Ok given → AnswerFieldsFit given
unfolding lost_line
lost_fits c words given e =
    let (node, is_node, e1) = bind-ok (node_at c 1 words) _ given e in
    let (end, at_end, e2) = bind-ok (line_end_at 2 words) _ given e1 in
    let made : answer.Lost node ≡ given = cc in
    subst AnswerFieldsFit made tt

up_fits : (c : Cluster) (words : List (List ℕ)) (given : Answer) → up_line c words ≡ Ok given → AnswerFieldsFit given
unfolding up_line
up_fits c words given e =
    let (node, is_node, e1) = bind-ok (node_at c 1 words) _ given e in
    let (end, at_end, e2) = bind-ok (line_end_at 2 words) _ given e1 in
    let made : answer.Up node ≡ given = cc in
    subst AnswerFieldsFit made tt

quorum_fits : (words : List (List ℕ)) (given : Answer) → quorum_answer words ≡ Ok given → AnswerFieldsFit given
unfolding quorum_answer
quorum_fits words given e =
    let (now, is_now, e1) = bind-ok (yes_at 1 words) _ given e in
    let (end, at_end, e2) = bind-ok (line_end_at 2 words) _ given e1 in
    let made : answer.Quorum now ≡ given = cc in
    subst AnswerFieldsFit made tt

wait_fits : (moment : ℕ) (words : List (List ℕ)) (given : Answer) → wait_line moment words ≡ Ok given → AnswerFieldsFit given
unfolding wait_line
wait_fits moment words given e =
    let (seconds, are, e1) = bind-ok (seconds_at 1 words) _ given e in
    let (within, is_in, e2) = bind-ok (in_time moment seconds) _ given e1 in
    let (end, at_end, e3) = bind-ok (line_end_at 2 words) _ given e2 in
    let made : answer.Wait seconds ≡ given = cc in
    subst AnswerFieldsFit made tt

form_answers : (c : Cluster) (moment : ℕ) (word : ResultWord) (words : List (List ℕ)) (given : Answer) → answer_as c moment word words ≡ Ok given → AnswerFieldsFit given
form_answers c moment End words given e = end_fits words given e
form_answers c moment Timeout words given e = timeout_fits words given e
form_answers c moment Lost words given e = lost_fits c words given e
form_answers c moment Up words given e = up_fits c words given e
form_answers c moment Quorum words given e = quorum_fits words given e
form_answers c moment Wait words given e = wait_fits moment words given e
form_answers c moment Report words given e = report_fits c words given e

answer_fits : (c : Cluster) (moment : ℕ) (words : List (List ℕ)) (given : Answer) → answer_of c moment words ≡ Ok given → AnswerFieldsFit given
unfolding answer_of
answer_fits c moment words given e =
    let (first, is_first, e1) = bind-ok (word_at 0 words) _ given e in
    let (word, is_word, e2) = bind-ok (result_word first) _ given e1 in
    form_answers c moment word words given e2

-- the answers of all result lines
abbrev ResultFits : ResultLine → Type 0
ResultFits result = AnswerFieldsFit result.answer

line_fits : (c : Cluster) (moment before line : ℕ) (words : List (List ℕ)) (given : Answer) → result_of c moment before line words ≡ Ok given → AnswerFieldsFit given
line_fits c moment before line words given e = go (nat_lt before 10000) e
  where
    go : (b : Bool) → (if b then faulting Form (on_line line (answer_of c moment words)) else Err (At line TooManyResults)) ≡ Ok given → AnswerFieldsFit given
    go true e =
        answer_fits c moment words given (on_line-ok line (answer_of c moment words) given (faulting-ok Form (on_line line (answer_of c moment words)) given e))
    go false e = cc

more_fit : (c : Cluster) (start : ℕ) (results : List ResultLine) (line : Line) (more : List ResultLine) → AllByRecursion ResultFits results
    → with_result c start results line ≡ Ok more → AllByRecursion ResultFits more
more_fit c start results line more h e =
    let (given, is, rest) = bind-ok (result_of c (moment_after start results) (length results) line.line line.words) _ more e in
    let made : results ++ record { line = line.line; answer = given } ∷ [] ≡ more = cc in
    subst (AllByRecursion ResultFits) made
    (all_append ResultFits results (record { line = line.line; answer = given } ∷ []) h
    (line_fits c (moment_after start results) (length results) line.line line.words given is, tt))

all_fit : (c : Cluster) (start : ℕ) (results : List ResultLine) (lines : List Line) (all : List ResultLine) → AllByRecursion ResultFits results
    → with_result_lines c start results lines ≡ Ok all → AllByRecursion ResultFits all
all_fit c start results [] all h e = let same : results ≡ all = cc in subst (AllByRecursion ResultFits) same h
all_fit c start results (line ∷ lines) all h e =
    let (more, is, rest) = bind-ok (with_result c start results line) (λ more. with_result_lines c start more lines) all e in
    all_fit c start more lines all (more_fit c start results line more h is) rest

results_fit : (head : Head) (lines : List Line) (input : Input) → with_results head lines ≡ Ok input → AllByRecursion ResultFits input.results
unfolding with_results
results_fit head lines input e =
    let answers = passed cause.Results (results_of head.cluster (moment_of head.journal.events) lines) _ input e in
    let made : input ≡ record { head = head; results = answers.gave } = cc in
    rw made (all_fit head.cluster (moment_of head.journal.events) [] lines answers.gave tt answers.is)

told : (results : List ResultLine) → AllByRecursion ResultFits results → AllByRecursion AnswerFieldsFit (map (λ (result : ResultLine). result.answer) results)
told [] h = tt
told (result ∷ results) h = (h.0, told results h.1)

-- the answers of a text that is read
pub read_answers : (text : List ℕ) (input : Input) → ReadsInput text input → AllByRecursion AnswerFieldsFit (map (λ (result : ResultLine). result.answer) input.results)
read_answers text input r =
    let s = stepped text input r in
    let lines = status_lines s.found.marks s.found.lines in
    let head = passed_on (head_of s.found.crm s.cluster lines) (λ head. with_results head (following_lines s.found.marks s.found.lines)) input s.made in
    told input.results (results_fit head.gave (following_lines s.found.marks s.found.lines) input head.goes_on)
