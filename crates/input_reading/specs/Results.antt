-- The result lines: what each of them answers (rule of this project).
use Rattle.std.specs.Prelude.{ℕ, ◌+◌, ◌^◌, nat_lt, if◌then◌else◌, List, [], ◌∷◌, ◌++◌, length, sum_by, codes, Result, Ok, Err}
use Rattle.crm_lex.specs.Names.{is}
use Rattle.crm_lex.specs.declared.line.Line.{Line}
use Rattle.cluster_types.specs.declared.cluster.Cluster.{Cluster}
use Rattle.cluster_types.specs.declared.journal.Answer.{Answer}
use Rattle.cluster_types.specs.declared.journal.Answer.TheVariants as answer
use Rattle.cluster_types.specs.AnswersThatApply.{seconds_in}
use Rattle.input_reading.specs.declared.results.answers.ResultWord.{ResultWord}
use Rattle.input_reading.specs.declared.results.answers.ResultWord.TheVariants.{End, Timeout, Lost, Up, Quorum, Wait, Report}
use Rattle.faults.specs.declared.fault.Fault.{Fault}
use Rattle.faults.specs.declared.fault.Fault.TheVariants.{At}
use Rattle.faults.specs.Reading.{◌>>=◌, faulting, on_line}
use Rattle.input_reading.specs.declared.words.word_cause.WordCause.{WordCause}
use Rattle.input_reading.specs.declared.words.word_cause.WordCause.TheVariants.{BadValue, UnknownStatement}
use Rattle.input_reading.specs.WordPlaces.{WordsOfLine, code_at, line_end_at, leaf_at, node_at, number_at, seconds_at, word_at, yes_at}
use Rattle.input_reading.specs.declared.history_fault.ResultCause.{ResultCause}
use Rattle.input_reading.specs.declared.history_fault.ResultCause.TheVariants.{Form, TooManyResults}
use Rattle.input_reading.specs.declared.results.result_lines.ResultLine.{ResultLine}

-- what a first word begins
unfoldable pub result_word : List ℕ → Result ResultWord WordCause
result_word word =
    if is word (codes "end") then Ok End
    else if is word (codes "timeout") then Ok Timeout
    else if is word (codes "lost") then Ok Lost
    else if is word (codes "up") then Ok Up
    else if is word (codes "quorum") then Ok Quorum
    else if is word (codes "wait") then Ok Wait
    else if is word (codes "report") then Ok Report
    else Err UnknownStatement

-- `end NUMBER CODE`
unfoldable pub end_line : WordsOfLine → Result Answer WordCause
end_line words = do
  number ← number_at 1 words
  code ← code_at 2 words
  end ← line_end_at 3 words
  Ok (answer.End number code)

-- `timeout NUMBER`
unfoldable pub timeout_line : WordsOfLine → Result Answer WordCause
timeout_line words = do
  number ← number_at 1 words
  end ← line_end_at 2 words
  Ok (answer.Timeout number)

-- `lost NODE`
unfoldable pub lost_line : Cluster → WordsOfLine → Result Answer WordCause
lost_line c words = do
  node ← node_at c 1 words
  end ← line_end_at 2 words
  Ok (answer.Lost node)

-- `up NODE`
unfoldable pub up_line : Cluster → WordsOfLine → Result Answer WordCause
up_line c words = do
  node ← node_at c 1 words
  end ← line_end_at 2 words
  Ok (answer.Up node)

-- `quorum yes` or `quorum no`
unfoldable pub quorum_answer : WordsOfLine → Result Answer WordCause
quorum_answer words = do
  quorate ← yes_at 1 words
  end ← line_end_at 2 words
  Ok (answer.Quorum quorate)

-- the seconds end before the moment 2^40
abbrev pub in_time : ℕ → ℕ → Result (Unit {0}) WordCause
in_time moment seconds = if nat_lt (moment + seconds) (2 ^ 40) then Ok tt else Err BadValue

-- `wait SECONDS`, at a moment
unfoldable pub wait_line : ℕ → WordsOfLine → Result Answer WordCause
wait_line moment words = do
  seconds ← seconds_at 1 words
  within ← in_time moment seconds
  end ← line_end_at 2 words
  Ok (answer.Wait seconds)

-- `report NODE LEAF MS CODE`. The milliseconds of a recurring monitor are in the range of numbers: above 0
unfoldable pub report_line : Cluster → WordsOfLine → Result Answer WordCause
report_line c words = do
  node ← node_at c 1 words
  leaf ← leaf_at c 2 words
  interval ← number_at 3 words
  code ← code_at 4 words
  end ← line_end_at 5 words
  Ok (answer.Report node leaf interval code)

abbrev pub answer_as : Cluster → ℕ → ResultWord → WordsOfLine → Result Answer WordCause
answer_as c moment End words = end_line words
answer_as c moment Timeout words = timeout_line words
answer_as c moment Lost words = lost_line c words
answer_as c moment Up words = up_line c words
answer_as c moment Quorum words = quorum_answer words
answer_as c moment Wait words = wait_line moment words
answer_as c moment Report words = report_line c words

-- what the words of a line answer, at a moment
unfoldable pub answer_of : Cluster → ℕ → WordsOfLine → Result Answer WordCause
answer_of c moment words = do
  first ← word_at 0 words
  form ← result_word first
  answer_as c moment form words

-- how many result lines there may be
abbrev pub most_results : ℕ
most_results = 10000

-- what a result line answers, at a moment and after so many result lines
abbrev pub result_of : Cluster → ℕ → ℕ → ℕ → WordsOfLine → Result Answer (Fault ResultCause)
result_of c moment before line words =
    if nat_lt before most_results then faulting Form (on_line line (answer_of c moment words)) else Err (At line TooManyResults)

-- the moment after some results, which began at a moment
abbrev pub moment_after : ℕ → List ResultLine → ℕ
moment_after start results = start + sum_by (λ (result : ResultLine). seconds_in result.answer) results

-- some results, and what one more line answers
abbrev pub with_result : Cluster → ℕ → List ResultLine → Line → Result (List ResultLine) (Fault ResultCause)
with_result c start results line = do
  given ← result_of c (moment_after start results) (length results) line.line line.words
  Ok (results ++ record { line = line.line; answer = given } ∷ [])

-- some results, and those of further lines; the first line that is at fault counts
abbrev pub with_result_lines : Cluster → ℕ → List ResultLine → List Line → Result (List ResultLine) (Fault ResultCause)
with_result_lines c start results [] = Ok results
with_result_lines c start results (line ∷ lines) = with_result c start results line >>= (λ more. with_result_lines c start more lines)

-- the results of some lines, of which the first is taken at a moment
abbrev pub results_of : Cluster → ℕ → List Line → Result (List ResultLine) (Fault ResultCause)
results_of c start lines = with_result_lines c start [] lines
