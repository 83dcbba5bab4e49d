-- No text has the fault that memory ran out: it is read, or has a fault at a line.
use Rattle.std.proofs.Common.{◌≡◌, ℕ, ◌+◌, nat_lt, not, Bool, true, false, if◌then◌else◌, Option, Some, None, List, [], ◌∷◌, ◌++◌, length, codes, Result, Ok, Err, ◌⊎◌, inl, inr, refl, sym, subst}
use Rattle.std.specs.List.{list_any}
use Rattle.std.specs.Str.{is_utf8}
use Rattle.lemmas.proofs.Results.{by_result}
use Rattle.crm_lex.specs.declared.fault.LexCause.{LexCause}
use Rattle.crm_lex.specs.declared.fault.LexCause.TheVariants.{ControlByte, LineTooLong, NotUtf8, OpenQuote}
use Rattle.faults.specs.declared.fault.Fault.{Fault}
use Rattle.faults.specs.Reading.{fault_at, faulting, on_line, unless, ◌>>=◌}
use Rattle.crm_lex.specs.declared.line.Line.{Line}
use Rattle.crm_lex.specs.LogicalLines.{all_byte_faults, byte_faults, content_length, fault_if, faults, is_control, line_text}
use Rattle.crm_lex.specs.RawLines.{content, raw_lines}
use Rattle.crm_lex.specs.Words.{is_open}
use Rattle.crm_lex.specs.Reading as lines
use Rattle.crm_lex.specs.Reading.{faults_from, reads, rows_from}
use Rattle.crm_parse.specs.declared.fault.ParseCause.{ParseCause}
use Rattle.crm_parse.specs.declared.marks.AuditMarks.{AuditMarks}
use Rattle.crm_parse.specs.declared.marks.SectionMarks.{SectionMarks}
use Rattle.crm_parse.specs.declared.statement.Crm.{Crm}
use Rattle.crm_parse.specs.declared.statement.Statement.{Statement}
use Rattle.crm_parse.specs.Marks as marks
use Rattle.crm_parse.specs.Marks.{last_at, misplaced, sections_of, status_at}
use Rattle.crm_parse.specs.Statements as statements
use Rattle.crm_parse.specs.Statements.{draft_of, statements_of}
use Rattle.cluster_model.specs.Expansion.{expansion_of, leaf_fault, leaves_and_spans}
use Rattle.cluster_model.specs.Faults.{expand_cause}
use Rattle.cluster_model.specs.declared.expansion.leaves.Leaves.{Leaves}
use Rattle.cluster_model.specs.FirstFaults as statements_at
use Rattle.cluster_model.specs.Resolution.{cause_said, cluster_said, resolution_of}
use Rattle.cluster_types.specs.declared.cluster.Cluster.{Cluster}
use Rattle.cluster_types.specs.declared.run.RunLine.{RunLine}
use Rattle.cluster_types.specs.Journals.{moment_of}
use Rattle.input_reading.specs.declared.words.word_cause.WordCause.{WordCause}
use Rattle.input_reading.specs.declared.run.text.RunTextLine.{RunTextLine}
use Rattle.input_reading.specs.RunReading as runs
use Rattle.input_reading.specs.RunReading.{line_of_words, read_run_lines, text_line}
use Rattle.input_reading.specs.declared.history_fault.ResultCause.TheVariants as of_result
use Rattle.input_reading.specs.declared.history_fault.StatusCause.TheVariants as of_status
use Rattle.input_reading.specs.FirstJournal as journals
use Rattle.input_reading.specs.FirstJournal.{is_repeated, status_journal}
use Rattle.input_reading.specs.Results as answers
use Rattle.input_reading.specs.Results.{answer_of, moment_after, most_results, results_of}
use Rattle.input_reading.specs.Status.{told_of}
use Rattle.faults.specs.declared.fault.Fault.TheVariants.{At, NoMemory}
use Rattle.input_reading.specs.declared.input.cause.InputCause.{InputCause}
use Rattle.input_reading.specs.declared.input.cause.InputCause.TheVariants as cause
use Rattle.input_reading.specs.declared.input.reading.Configuration.{Configuration}
use Rattle.input_reading.specs.declared.input.reading.Head.{Head}
use Rattle.input_reading.specs.declared.input.reading.Input.{Input}
use Rattle.input_reading.specs.Reading.{IsFaultyText, IsReadable, configuration_lines, configuration_of, following_lines, head_of, input_of, line_behind, status_lines, behind_cluster, with_results}
use Rattle.input_reading.specs.declared.input.trace.Trace.{Trace}
use Rattle.input_reading.specs.Sections.{sections_with_trace}
use Rattle.input_reading.specs.Traces.{IsFaultyTrace, IsReadableTrace, trace_of, with_run}

-- read, or a fault at a line
abbrev pub Stands : {A : Type 0} → Result A (Fault InputCause) → Type 0
Stands (Ok x) = Unit {0}
Stands (Err (At line why)) = Unit {0}
Stands (Err NoMemory) = ⊥

stands_bind : {A B : Type 0} (read : Result A (Fault InputCause)) (next : A → Result B (Fault InputCause)) → Stands read → ((x : A) → Stands (next x)) → Stands (read >>= next)
stands_bind (Ok x) next h all = all x
stands_bind (Err (At line why)) next h all = tt
stands_bind (Err NoMemory) next h all = absurd h

-- one step after another, by cases
by_cases : {S F : Type 0} (read : Result S F) (next : S → Result S F) → (read >>= next) ≡ elim read [ Err fault ↦ Err fault | Ok more ↦ next more ]
by_cases (Ok more) next = refl
by_cases (Err fault) next = refl

-- lines that are read one after the other stand where each step does
module _ {S L F : Type 0} (Holds : Result S F → Type 0) (step : S → L → Result S F) (run : S → List L → Result S F)
    (ok : (s : S) → Holds (Ok s))
    (none : (s : S) → run s [] ≡ Ok s)
    (some : (s : S) (l : L) (ls : List L) → run s (l ∷ ls) ≡ elim (step s l) [ Err fault ↦ Err fault | Ok more ↦ run more ls ])
    (each : (s : S) (l : L) → Holds (step s l)) where
  go_on : (read : Result S F) (ls : List L) → Holds read → ((more : S) → Holds (run more ls))
      → Holds (elim read [ Err fault ↦ Err fault | Ok more ↦ run more ls ])
  go_on (Ok more) ls h all = all more
  go_on (Err fault) ls h all = h

  all_hold : (s : S) (ls : List L) → Holds (run s ls)
  all_hold s [] = subst Holds (sym (none s)) (ok s)
  all_hold s (l ∷ ls) = subst Holds (sym (some s l ls)) (go_on (step s l) ls (each s l) (λ more. all_hold more ls))

-- what has no fault, or one at a line
abbrev pub StandsAt : {C : Type 0} → Option (Fault C) → Type 0
StandsAt None = Unit {0}
StandsAt (Some (At n why)) = Unit {0}
StandsAt (Some NoMemory) = ⊥

unless_stands : {A C : Type 0} (cause_of : C → InputCause) (fault : Option (Fault C)) (given : A) → StandsAt fault → Stands (faulting cause_of (unless fault given))
unless_stands cause_of None given h = tt
unless_stands cause_of (Some (At n why)) given h = tt
unless_stands cause_of (Some NoMemory) given h = absurd h

-- the words of a text
-- the first of some faults and of more
first_of : (some more : List (Fault LexCause)) → StandsAt (lines.first_lex_fault some) → StandsAt (lines.first_lex_fault more) → StandsAt (lines.first_lex_fault (some ++ more))
first_of [] more one other = other
first_of (fault ∷ some) more one other = one

first_if : (test : Bool) (n : ℕ) (why : LexCause) → StandsAt (lines.first_lex_fault (fault_if test n why))
first_if true n why = tt
first_if false n why = tt

first_bytes : (n : ℕ) (line : List ℕ) → StandsAt (lines.first_lex_fault (byte_faults n line))
first_bytes n line =
    first_of (fault_if (not (is_utf8 (content line))) n NotUtf8) (fault_if (list_any is_control (content line)) n ControlByte)
    (first_if (not (is_utf8 (content line))) n NotUtf8) (first_if (list_any is_control (content line)) n ControlByte)

first_all : (n : ℕ) (group : List (List ℕ)) → StandsAt (lines.first_lex_fault (all_byte_faults n group))
first_all n [] = tt
first_all n (line ∷ group) = first_of (byte_faults n line) (all_byte_faults (n + 1) group) (first_bytes n line) (first_all (n + 1) group)

pub first_group : (n : ℕ) (group : List (List ℕ)) → StandsAt (lines.first_lex_fault (faults n group))
first_group n [] = tt
first_group n (line ∷ group) =
    let all = line ∷ group in
    let is_long = nat_lt 1048576 (content_length all) in
    let quote_open = is_open (line_text all) in
    let others = all_byte_faults (n + 1) group in
    first_of (fault_if is_long n LineTooLong) (byte_faults n line ++ (fault_if quote_open n OpenQuote ++ others)) (first_if is_long n LineTooLong)
    (first_of (byte_faults n line) (fault_if quote_open n OpenQuote ++ others) (first_bytes n line)
    (first_of (fault_if quote_open n OpenQuote) others (first_if quote_open n OpenQuote) (first_all (n + 1) group)))

first_text : (n : ℕ) (groups : List (List (List ℕ))) → StandsAt (lines.first_lex_fault (faults_from n groups))
first_text n [] = tt
first_text n (group ∷ groups) =
    first_of (faults n group) (faults_from (n + length group) groups) (first_group n group) (first_text (n + length group) groups)

words_stand : (text : List ℕ) → Stands (faulting cause.Words (reads text))
words_stand text = unless_stands cause.Words (lines.first_lex_fault (faults_from 1 (raw_lines text))) (rows_from 1 (raw_lines text)) (first_text 1 (raw_lines text))

-- the sections
unless_misplaced : (wrong : Option ℕ) (found : SectionMarks) → Stands (faulting cause.Statements (marks.marks_unless wrong found))
unless_misplaced None found = tt
unless_misplaced (Some line) found = tt

sections_stand : (found : List Line) → Stands (faulting cause.Statements (sections_of found))
sections_stand found =
    let last = codes "%results" in
    unless_misplaced (misplaced last [] found) (record { status_at = status_at last found; results_at = last_at last found; end = length found })

marks_stand : (wrong : Option ℕ) (found : AuditMarks)
    → Stands {A = SectionMarks} (faulting cause.Statements (marks.marks_unless wrong found >>= (λ (at : AuditMarks). Ok (record { status_at = at.status_at; results_at = at.trace_at; end = at.end }))))
marks_stand None found = tt
marks_stand (Some line) found = tt

sections_with_trace_stand : (found : List Line) → Stands (faulting cause.Statements (sections_with_trace found))
sections_with_trace_stand found =
    let last = codes "%trace" in
    marks_stand (misplaced last [] found) (record { status_at = status_at last found; trace_at = last_at last found; end = length found })

-- the statements
statements_stand : (found : List Line) → Stands (faulting cause.Statements (statements_of found))
unfolding statements.with_line
statements_stand found =
    let drafts = all_hold (λ r. Stands (faulting cause.Statements r)) statements.with_line statements.with_lines (λ s. tt) (λ s. refl) (λ s l ls. refl)
    (λ s l. by_result (λ r. Stands (faulting cause.Statements (statements.with_draft s l.line r))) (λ x. tt) (λ why. tt) (draft_of s l.words)) [] found in
    by_result (λ r. Stands (faulting cause.Statements r) → Stands (faulting cause.Statements (statements.read_of r))) (λ x h. tt) (λ fault h. h)
    (statements.with_lines [] found) drafts

-- a line at fault, or a later one
line_stands : {C : Type 0} (line : ℕ) (found : Option C) (more : Option (Fault C)) → StandsAt more → StandsAt (fault_at line found more)
line_stands line (Some why) more h = tt
line_stands line None more h = h

-- the first statement that is at fault
first_stands : {C : Type 0} (cause : List Statement → Statement → Option C) (before ls : List Statement) → StandsAt (statements_at.first_fault cause before ls)
first_stands cause before [] = tt
first_stands cause before (l ∷ ls) =
    line_stands l.line (cause before l) (statements_at.first_fault cause (before ++ l ∷ []) ls) (first_stands cause (before ++ l ∷ []) ls)

-- the leaves
leaves_stand : (found : List Statement) → Stands (faulting cause.Leaves (expansion_of found))
leaves_stand found = unless_stands cause.Leaves (leaf_fault found) (leaves_and_spans found) (first_stands (expand_cause found) [] found)

-- the cluster
cluster_stands : (leaves : Leaves) (found : List Statement) → Stands (faulting cause.Cluster (resolution_of leaves found))
unfolding resolution_of
cluster_stands leaves found =
    unless_stands cause.Cluster (statements_at.first_fault (cause_said leaves found) [] found) (cluster_said leaves found found)
    (first_stands (cause_said leaves found) [] found)

-- what holds of both values holds of a test
by_test : (P : Bool → Type 0) (test : Bool) → P true → P false → P test
by_test P true one other = one
by_test P false one other = other

-- the status
status_stands : (c : Cluster) (found : List Line) → Stands (faulting cause.Status (status_journal c found))
status_stands c found =
    let told = all_hold (λ r. Stands (faulting cause.Status r)) (journals.with_status_line c) (journals.with_status_lines c) (λ s. tt) (λ s. refl) (λ s l ls. by_cases (journals.with_status_line c s l) _)
    (λ s l. by_result (λ r. Stands (faulting cause.Status (faulting of_status.Form (on_line l.line r) >>= journals.with_told s l.line)))
    (λ x. by_test (λ test. Stands (faulting cause.Status (if test then Err (At l.line of_status.Repeated) else Ok (s ++ x ∷ [])))) (is_repeated s x) tt tt) (λ why. tt) (told_of c l.words)) [] found in
    by_result (λ r. Stands (faulting cause.Status r) → Stands (faulting cause.Status (r >>= (λ told. Ok (journals.journal_of c told))))) (λ x h. tt) (λ fault h. h)
    (journals.with_status_lines c [] found) told

-- the results
results_stand : (c : Cluster) (start : ℕ) (found : List Line) → Stands (faulting cause.Results (results_of c start found))
results_stand c start found =
    all_hold (λ r. Stands (faulting cause.Results r)) (answers.with_result c start) (answers.with_result_lines c start) (λ s. tt) (λ s. refl) (λ s l ls. by_cases (answers.with_result c start s l) _)
    (λ s l. by_test
    (λ test. Stands (faulting cause.Results (
    (if test then faulting of_result.Form (on_line l.line (answer_of c (moment_after start s) l.words)) else Err (At l.line of_result.TooManyResults))
    >>= (λ given. Ok (s ++ record { line = l.line; answer = given } ∷ [])))))
    (nat_lt (length s) most_results)
    (by_result (λ r. Stands (faulting cause.Results (faulting of_result.Form (on_line l.line r) >>= (λ given. Ok (s ++ record { line = l.line; answer = given } ∷ [])))))
    (λ x. tt) (λ why. tt) (answer_of c (moment_after start s) l.words))
    tt) [] found

-- the lines of a run
module _ (c : Cluster) where
  abbrev with_one : List RunTextLine → Line → Result (List RunTextLine) (Fault WordCause)
  with_one s l = text_line c l >>= (λ (one : RunTextLine). Ok (s ++ one ∷ []))

  by_line : (s : List RunTextLine) (ls : List Line) (read : Result RunTextLine (Fault WordCause))
      → (read >>= (λ (one : RunTextLine). runs.with_run_lines c (s ++ one ∷ []) ls))
      ≡ elim (read >>= (λ (one : RunTextLine). Ok (s ++ one ∷ []))) [ Err fault ↦ Err fault | Ok more ↦ runs.with_run_lines c more ls ]
  by_line s ls (Ok one) = refl
  by_line s ls (Err fault) = refl

  one_stands : (s : List RunTextLine) (l : Line) → Stands (faulting cause.Run (with_one s l))
  one_stands s l = by_result (λ (r : Result RunLine WordCause). Stands (faulting cause.Run (
      (on_line l.line r >>= (λ (what : RunLine). Ok (record { line = l.line; what = what }))) >>= (λ (one : RunTextLine). Ok (s ++ one ∷ [])))))
      (λ what. tt) (λ why. tt) (line_of_words c l.words)

  run_stands : (found : List Line) → Stands (faulting cause.Run (read_run_lines c found))
  run_stands found =
      all_hold (λ r. Stands (faulting cause.Run r)) with_one (runs.with_run_lines c) (λ s. tt) (λ s. refl) (λ s l ls. by_line s ls (text_line c l)) one_stands [] found

-- the whole text
configuration_stands : (sections : List Line → Result SectionMarks (Fault ParseCause)) → ((found : List Line) → Stands (faulting cause.Statements (sections found)))
    → (text : List ℕ) → Stands (configuration_of sections text)
unfolding configuration_of
configuration_stands sections stand text =
    stands_bind (faulting cause.Words (reads text)) _ (words_stand text) (λ found.
    stands_bind (faulting cause.Statements (sections found)) _ (stand found) (λ at.
    stands_bind (faulting cause.Statements (statements_of (configuration_lines at found))) _ (statements_stand (configuration_lines at found)) (λ crm.
    stands_bind (faulting cause.Leaves (expansion_of crm.statements)) _ (leaves_stand crm.statements) (λ leaves. tt))))

head_stands : (crm : Crm) (cluster : Cluster) (found : List Line) → Stands (head_of crm cluster found)
unfolding head_of
head_stands crm cluster found = stands_bind (faulting cause.Status (status_journal cluster found)) _ (status_stands cluster found) (λ journal. tt)

with_results_stands : (head : Head) (found : List Line) → Stands (with_results head found)
unfolding with_results
with_results_stands head found =
    let start = moment_of head.journal.events in
    stands_bind (faulting cause.Results (results_of head.cluster start found)) _ (results_stand head.cluster start found) (λ given. tt)

with_cluster_stands : (found : Configuration) (cluster : Cluster) → Stands (behind_cluster with_results found cluster)
with_cluster_stands found cluster =
    stands_bind (head_of found.crm cluster (status_lines found.marks found.lines)) _ (head_stands found.crm cluster (status_lines found.marks found.lines))
    (λ head. with_results_stands head (following_lines found.marks found.lines))

input_stands : (text : List ℕ) → Stands (input_of text)
unfolding input_of
input_stands text =
    stands_bind (configuration_of sections_of text) _ (configuration_stands sections_of sections_stand text) (λ found.
    stands_bind (faulting cause.Cluster (resolution_of found.leaves found.crm.statements)) _ (cluster_stands found.leaves found.crm.statements) (λ cluster.
    with_cluster_stands found cluster))

with_run_stands : (after : ℕ) (head : Head) (found : List Line) → Stands (with_run after head found)
unfolding with_run
with_run_stands after head found = stands_bind (faulting cause.Run (read_run_lines head.cluster found)) _ (run_stands head.cluster found) (λ run. tt)

trace_stands : (text : List ℕ) → Stands (trace_of text)
unfolding trace_of
trace_stands text =
    stands_bind (configuration_of sections_with_trace text) _ (configuration_stands sections_with_trace sections_with_trace_stand text) (λ found.
    stands_bind (faulting cause.Cluster (resolution_of found.leaves found.crm.statements)) _ (cluster_stands found.leaves found.crm.statements) (λ cluster.
    stands_bind (head_of found.crm cluster (status_lines found.marks found.lines)) _ (head_stands found.crm cluster (status_lines found.marks found.lines)) (λ head.
    with_run_stands (line_behind found.lines) head (following_lines found.marks found.lines))))

either : (text : List ℕ) (read : Result Input (Fault InputCause)) → input_of text ≡ read → Stands read → IsReadable text ⊎ IsFaultyText text
either text (Ok input) r h = inl (record { whole = input; reads = r })
either text (Err (At line why)) r h = inr (record { line = line; why = why; fault = r })
either text (Err NoMemory) r h = absurd h

-- each text is read or has a fault
pub read_or_faulty : (text : List ℕ) → IsReadable text ⊎ IsFaultyText text
read_or_faulty text = either text (input_of text) refl (input_stands text)

either_trace : (text : List ℕ) (read : Result Trace (Fault InputCause)) → trace_of text ≡ read → Stands read → IsReadableTrace text ⊎ IsFaultyTrace text
either_trace text (Ok trace) r h = inl (record { whole = trace; reads = r })
either_trace text (Err (At line why)) r h = inr (record { line = line; why = why; fault = r })
either_trace text (Err NoMemory) r h = absurd h

-- and so with a trace
pub trace_read_or_faulty : (text : List ℕ) → IsReadableTrace text ⊎ IsFaultyTrace text
trace_read_or_faulty text = either_trace text (trace_of text) refl (trace_stands text)
