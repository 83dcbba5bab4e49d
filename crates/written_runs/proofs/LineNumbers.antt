-- The results of a text have the numbers of its lines: from 1 on, and within the limit of bytes of 32 bits.
use Rattle.std.proofs.Common.{arith, ◌≡◌, ◌<◌, ◌≤◌, ◌+◌, ◌-◌, ◌^◌, ℕ, List, [], ◌∷◌, ◌++◌, length, length-append, map, take, drop, Ok, ap, subst}
use Rattle.std.specs.Prelude.{slice_range}
use Rattle.std.specs.List.{AllByRecursion, concat}
use Rattle.std.proofs.lemmas.List.Elements.{All-drop, All-from_recursion, All-take, recursion_from_All}
use Rattle.faults.proofs.Steps.{bind-ok, unless-ok}
use Rattle.lemmas.proofs.Members.{all_append}
use Rattle.crm_lex.specs.LogicalLines.{line_text}
use Rattle.crm_lex.specs.RawLines.{raw_lines}
use Rattle.crm_lex.specs.Reading.{faults_from, first_lex_fault, reads, row, rows_from}
use Rattle.crm_lex.specs.Words.{words_of}
use Rattle.crm_lex.specs.declared.line.Line.{Line}
use Rattle.crm_lex.proofs.FaultOrder.{count_lines}
use Rattle.crm_lex.proofs.PhysicalLines.{few_lines}
use Rattle.crm_lex.proofs.Pieces.{AllOwn, own_lines, whole_by_pieces}
use Rattle.crm_parse.specs.Marks.{sections_of}
use Rattle.crm_parse.specs.Statements.{statements_of}
use Rattle.cluster_model.specs.Expansion.{expansion_of}
use Rattle.cluster_types.specs.declared.cluster.Cluster.{Cluster}
use Rattle.cluster_types.specs.Journals.{moment_of}
use Rattle.input_reading.specs.declared.input.cause.InputCause.TheVariants as cause
use Rattle.input_reading.specs.declared.input.reading.Head.{Head}
use Rattle.input_reading.specs.declared.input.reading.Input.{Input}
use Rattle.input_reading.specs.declared.results.result_lines.ResultLine.{ResultLine}
use Rattle.input_reading.specs.PrintedLines.{IsNumber}
use Rattle.input_reading.specs.Reading.{ReadsInput, configuration_lines, configuration_of, following_lines, head_of, most_bytes, status_lines, with_results}
use Rattle.input_reading.specs.Results.{moment_after, result_of, results_of, with_result, with_result_lines}
use Rattle.input_reading.proofs.ValidInput.{IsStepped, passed, passed_on, stepped}

-- lines whose numbers have 32 bits, and results on such lines
abbrev AreNumbered : List Line → Type 0
AreNumbered lines = AllByRecursion (λ (line : Line). IsNumber line.line) lines

abbrev pub HaveNumbers : List ResultLine → Type 0
HaveNumbers results = AllByRecursion (λ (result : ResultLine). IsNumber result.line) results

-- logical lines have no more physical lines than bytes
count_few : (groups : List (List (List ℕ))) → AllOwn groups → count_lines groups ≤ length (concat (map concat groups))
count_few [] own = omega arith
count_few (group ∷ groups) own =
    let here = few_lines (concat group) in
    let same = ap (λ (lines : List (List ℕ)). length lines) own.0 in
    let more = count_few groups own.1 in
    let size = length-append (concat group) (concat (map concat groups)) in
    omega (arith, here, same, more, size)

row_numbered : (n : ℕ) (words : List (List ℕ)) → IsNumber n → AreNumbered (row n words)
row_numbered n [] h = tt
row_numbered n (word ∷ words) h = (h, tt)

rows_numbered : (n : ℕ) (groups : List (List (List ℕ))) → 0 < n → n + count_lines groups < 2 ^ 32 → AreNumbered (rows_from n groups)
rows_numbered n [] low high = tt
rows_numbered n (group ∷ groups) low high =
    all_append (λ (line : Line). IsNumber line.line) (row n (words_of (line_text group))) (rows_from (n + length group) groups)
    (row_numbered n (words_of (line_text group)) (record { low = low; high = omega (arith, high) }))
    (rows_numbered (n + length group) groups (omega (arith, low)) (omega (arith, high)))

-- the lines of a text within the limit
lines_numbered : (text : List ℕ) (lines : List Line) → reads text ≡ Ok lines → length text ≤ most_bytes → AreNumbered lines
lines_numbered text lines e within =
    let groups = raw_lines text in
    let rows = (unless-ok (first_lex_fault (faults_from 1 groups)) (rows_from 1 groups) lines e).1 in
    let few = count_few groups (own_lines text) in
    let size = ap (λ (bytes : List ℕ). length bytes) (whole_by_pieces text) in
    subst AreNumbered rows (rows_numbered 1 groups (omega arith) (omega (arith, few, size, within)))

part_numbered : (lines : List Line) (from to : ℕ) → AreNumbered lines → AreNumbered (slice_range lines from to)
part_numbered lines from to h =
    recursion_from_All (λ (line : Line). IsNumber line.line) (take (to - from) (drop from lines))
    (All-take (λ (line : Line). IsNumber line.line) (to - from) (drop from lines)
    (All-drop (λ (line : Line). IsNumber line.line) from lines (All-from_recursion (λ (line : Line). IsNumber line.line) lines h)))

-- the results that are read of some lines
more_numbered : (c : Cluster) (start : ℕ) (results : List ResultLine) (line : Line) (more : List ResultLine) → HaveNumbers results → IsNumber line.line
    → with_result c start results line ≡ Ok more → HaveNumbers more
more_numbered c start results line more h k e =
    let (given, is, rest) = bind-ok (result_of c (moment_after start results) (length results) line.line line.words) _ more e in
    let made : results ++ record { line = line.line; answer = given } ∷ [] ≡ more = cc in
    subst HaveNumbers made (all_append (λ (result : ResultLine). IsNumber result.line) results (record { line = line.line; answer = given } ∷ []) h (k, tt))

all_numbered : (c : Cluster) (start : ℕ) (results : List ResultLine) (lines : List Line) (all : List ResultLine) → HaveNumbers results → AreNumbered lines
    → with_result_lines c start results lines ≡ Ok all → HaveNumbers all
all_numbered c start results [] all h k e = let same : results ≡ all = cc in subst HaveNumbers same h
all_numbered c start results (line ∷ lines) all h k e =
    let (more, is, rest) = bind-ok (with_result c start results line) (λ more. with_result_lines c start more lines) all e in
    all_numbered c start more lines all (more_numbered c start results line more h k.0 is) k.1 rest

results_numbered : (head : Head) (lines : List Line) (input : Input) → AreNumbered lines → with_results head lines ≡ Ok input → HaveNumbers input.results
unfolding with_results
results_numbered head lines input h e =
    let answers = passed cause.Results (results_of head.cluster (moment_of head.journal.events) lines) _ input e in
    let made : input ≡ record { head = head; results = answers.gave } = cc in
    rw made (all_numbered head.cluster (moment_of head.journal.events) [] lines answers.gave tt h answers.is)

-- the lines that a configuration was found among
found_lines : (text : List ℕ) (input : Input) (s : IsStepped text input) → reads text ≡ Ok s.found.lines
unfolding configuration_of
found_lines text input s =
    let lines = passed cause.Words (reads text) _ s.found s.configuration in
    let marks = passed cause.Statements (sections_of lines.gave) _ s.found lines.goes_on in
    let crm = passed cause.Statements (statements_of (configuration_lines marks.gave lines.gave)) _ s.found marks.goes_on in
    let leaves = passed cause.Leaves (expansion_of crm.gave.statements) _ s.found crm.goes_on in
    let made : s.found ≡ record { lines = lines.gave; marks = marks.gave; crm = crm.gave; leaves = leaves.gave } = cc in
    rw made lines.is

pub read_numbers : (text : List ℕ) (input : Input) → ReadsInput text input → length text ≤ most_bytes → HaveNumbers input.results
read_numbers text input r within =
    let s = stepped text input r in
    let all = lines_numbered text s.found.lines (found_lines text input s) within in
    let lines = status_lines s.found.marks s.found.lines in
    let behind = following_lines s.found.marks s.found.lines in
    let head = passed_on (head_of s.found.crm s.cluster lines) (λ head. with_results head behind) input s.made in
    results_numbered head.gave behind input (part_numbered s.found.lines (s.found.marks.results_at + 1) s.found.marks.end all) head.goes_on
