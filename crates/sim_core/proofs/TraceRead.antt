-- A text with a trace in the place of its results has the same head, and the lines of the trace.
use Rattle.std.proofs.Common.{◌≡◌, ℕ, Bool, true, false, not, if◌then◌else◌, List, [], ◌∷◌, ◌++◌, map, codes, Result, Ok, Err, refl, sym, ap, subst, ◌∙◌}
use Rattle.std.specs.Prelude.{Some, None}
use Rattle.std.specs.List.{list_any}
use Rattle.std.proofs.lemmas.List.{map-append}
use Rattle.cluster_types.specs.declared.cluster.Cluster.{Cluster}
use Rattle.cluster_types.specs.declared.run.RunLine.{RunLine}
use Rattle.crm_lex.specs.declared.line.Line.{Line}
use Rattle.crm_lex.specs.Reading.{reads}
use Rattle.crm_parse.specs.Marks.{is_mark, misplaced, sections_of}
use Rattle.crm_parse.proofs.PairWords.{place-behind}
use Rattle.crm_parse.proofs.Unmarked.{all_placed}
use Rattle.faults.specs.declared.fault.Fault.{Fault}
use Rattle.faults.specs.Reading.{on_line, ◌>>=◌}
use Rattle.faults.proofs.Steps.{bind-ok}
use Rattle.input_reading.specs.declared.input.cause.InputCause.{InputCause}
use Rattle.input_reading.specs.declared.input.reading.Head.{Head}
use Rattle.input_reading.specs.declared.input.trace.Trace.{Trace}
use Rattle.input_reading.specs.declared.run.text.RunTextLine.{RunTextLine}
use Rattle.input_reading.specs.declared.words.word_cause.WordCause.{WordCause}
use Rattle.input_reading.specs.declared.words.word_cause.WordCause.TheVariants.{UnknownStatement}
use Rattle.input_reading.specs.LineWords.{line_word}
use Rattle.input_reading.specs.WordPlaces.{WordsOfLine}
use Rattle.input_reading.specs.Reading.{line_behind, nothing_yet, lone_head_of}
use Rattle.input_reading.specs.Results.{answer_of, result_word}
use Rattle.input_reading.specs.RunReading.{answer_line, line_of_words, read_run_lines, text_line, with_run_lines}
use Rattle.input_reading.specs.Sections.{sections_with_trace}
use Rattle.input_reading.specs.Traces.{trace_of, with_run}
use Rattle.sim_core.specs.LawfulRuns.{said}
use Rattle.sim_core.proofs.InputAgain.{in_place, same_ok}
use Rattle.sim_core.proofs.InputSteps.{configuration_in, has_sections, head_first, marks_by, status_in, steps_on, with_last}
use Rattle.sim_core.proofs.PlainResults.{plain_read}
use Rattle.sim_core.proofs.TraceSections.{misplaced_joined, misplaced_parts, no_trace, placed_traced, results_line, trace_line}

-- the line that begins results, and where it stands no line before it does
abbrev pub results_mark : ℕ → Line
results_mark n = record { line = n; words = codes "%results" ∷ [] }

pub first_results : (rows : List Line) (n : ℕ) → misplaced (codes "%results") rows (results_mark n ∷ []) ≡ None → list_any results_line rows ≡ false
first_results rows n e = by (list_any results_line rows) e
  where
    by : (b : Bool) → (if not (not b) then Some n else None) ≡ None → b ≡ false
    by true e = absurd (let f : ⊥ = cc in f)
    by false e = refl

-- the line that begins a trace
abbrev pub trace_mark : ℕ → Line
trace_mark n = record { line = n; words = codes "%trace" ∷ [] }

-- no line of a run begins with a percent sign
no_run_line : (c : Cluster) (bs : List ℕ) (ws : WordsOfLine) → line_of_words c ((37 ∷ bs) ∷ ws) ≡ Err UnknownStatement
unfolding line_of_words line_word answer_line answer_of result_word
no_run_line c bs ws = refl

-- what a line says that is read
record SaysLine (c : Cluster) (at : Line) (one : RunTextLine) : Type 0 where
  what : RunLine
  words : line_of_words c at.words ≡ Ok what
  same : one.what ≡ what

says_line : (c : Cluster) (at : Line) (one : RunTextLine) → text_line c at ≡ Ok one → SaysLine c at one
says_line c at one e = by (line_of_words c at.words) refl e
  where
    by : (said : Result RunLine WordCause) → line_of_words c at.words ≡ said
        → on_line at.line said >>= (λ (what : RunLine). Ok (record { line = at.line; what = what })) ≡ Ok one → SaysLine c at one
    by (Ok what) is e = record { what = what; words = is; same = cc }
    by (Err why) is e = absurd (let f : ⊥ = cc in f)

-- the lines that say some words in two places, say the same
pub record RunAnew (c : Cluster) (so_far : List RunTextLine) (rows : List Line) (out : List RunTextLine) : Type 0 where
  pub anew : List RunTextLine
  pub read : with_run_lines c so_far rows ≡ Ok anew
  pub same : said anew ≡ said out

pub run_anew : (c : Cluster) (first second : List RunTextLine) (rows others : List Line) (out : List RunTextLine) → map (λ (l : Line). l.words) rows ≡ map (λ (l : Line). l.words) others
    → said second ≡ said first → with_run_lines c first rows ≡ Ok out → RunAnew c second others out
run_anew c first second [] [] out words same e = record { anew = second; read = refl; same = same ∙ ap said (let f : first ≡ out = cc in f) }
run_anew c first second [] (at ∷ others) out words same e = absurd (let f : ⊥ = cc in f)
run_anew c first second (at ∷ rows) [] out words same e = absurd (let f : ⊥ = cc in f)
run_anew c first second (at ∷ rows) (to ∷ others) out words same e =
    let (one, is, rest) = bind-ok (text_line c at) (λ (one : RunTextLine). with_run_lines c (first ++ one ∷ []) rows) out e in
    let says = says_line c at one is in
    let again : to.words ≡ at.words = cc in
    let left : map (λ (l : Line). l.words) rows ≡ map (λ (l : Line). l.words) others = cc in
    let there : RunTextLine = record { line = to.line; what = says.what } in
    let read : line_of_words c to.words ≡ Ok says.what = ap (line_of_words c) again ∙ says.words in
    let made : text_line c to ≡ Ok there = rw read refl in
    let grown : said (second ++ there ∷ []) ≡ said (first ++ one ∷ [])
    = map-append (λ (l : RunTextLine). l.what) second (there ∷ [])
    ∙ (ap (λ (ls : List RunLine). ls ++ says.what ∷ []) same ∙ (ap (λ (l : RunLine). said first ++ l ∷ []) (sym says.same) ∙ sym (map-append (λ (l : RunTextLine). l.what) first (one ∷ [])))) in
    let more = run_anew c (first ++ one ∷ []) (second ++ there ∷ []) rows others out left grown rest in
    record { anew = more.anew; read = rw made more.read; same = more.same }

-- lines that are read as a run have no section among them
plain_lines : (c : Cluster) (so_far : List RunTextLine) (rows : List Line) (out : List RunTextLine) → with_run_lines c so_far rows ≡ Ok out → list_any is_mark rows ≡ false
plain_lines c so_far [] out e = refl
plain_lines c so_far (at ∷ rows) out e =
    let (one, is, rest) = bind-ok (text_line c at) (λ (one : RunTextLine). with_run_lines c (so_far ++ one ∷ []) rows) out e in
    let says = says_line c at one is in
    let plain = plain_read (line_of_words c) (no_run_line c) at.words says.what says.words in
    let more = plain_lines c (so_far ++ one ∷ []) rows out rest in
    rw (plain, more) refl

-- behind the line that ends a head stand no lines; in the place of that line a trace begins, whose lines are read as a run somewhere
module _ (bytes text : List ℕ) (rows : List Line) (n : ℕ) (head : Head) (says : lone_head_of bytes ≡ Ok head) (are : reads bytes ≡ Ok (rows ++ results_mark n ∷ [])) where
  placed_head : misplaced (codes "%results") [] (rows ++ results_mark n ∷ []) ≡ None
  unfolding lone_head_of
  placed_head =
      let found = has_sections sections_of (λ all. nothing_yet) bytes head says in
      in_place (rows ++ results_mark n ∷ []) found.marks
      (subst (λ (ls : List Line). sections_of ls ≡ Ok found.marks) (same_ok found.lines (rows ++ results_mark n ∷ []) (sym found.are ∙ are)) found.placed)

  unended : list_any results_line rows ≡ false
  unended = first_results rows n (misplaced_parts (codes "%results") [] rows (results_mark n ∷ []) placed_head).1

  placed_front : misplaced (codes "%results") [] rows ≡ None
  placed_front = (misplaced_parts (codes "%results") [] rows (results_mark n ∷ []) placed_head).0

  start : lone_head_of bytes ≡ steps_on (configuration_in rows) (status_in rows) (λ head. Ok head)
  unfolding lone_head_of
  start =
      with_last sections_of (λ all. nothing_yet) bytes (codes "%results") rows (results_mark n) [] are (rw placed_head refl)
      (place-behind results_line rows (results_mark n) [] unended refl)

  module _ (m : ℕ) (trace : List Line) (out : List RunTextLine) (all_are : reads text ≡ Ok (rows ++ trace_mark m ∷ trace)) (run : read_run_lines head.cluster trace ≡ Ok out) where
    abbrev all : List Line
    all = rows ++ trace_mark m ∷ trace

    placed : misplaced (codes "%trace") [] all ≡ None
    placed =
        misplaced_joined (codes "%trace") [] rows (trace_mark m ∷ trace) (placed_traced [] rows unended placed_front)
        (let none = no_trace [] rows placed_front in
        let others = all_placed (codes "%trace") (rows ++ trace_mark m ∷ []) trace (plain_lines head.cluster [] trace out run) in
        rw (none, others) refl)

    sections : sections_with_trace all ≡ Ok (marks_by (codes "%trace") all)
    sections = rw placed refl

    abbrev whole : Trace
    whole = record { head = head; run = record { lines = out }; after = line_behind all }

    pub trace-is : trace_of text ≡ Ok whole
    unfolding trace_of with_run
    trace-is =
        with_last sections_with_trace (λ all. with_run (line_behind all)) text (codes "%trace") rows (trace_mark m) trace all_are sections
        (place-behind trace_line rows (trace_mark m) trace (no_trace [] rows placed_front) refl)
        ∙ (head_first (configuration_in rows) (status_in rows) (λ head. with_run (line_behind all) head trace)
        ∙ (ap (λ (read : Result Head (Fault InputCause)). read >>= (λ head. with_run (line_behind all) head trace)) (sym start ∙ says) ∙ rw run refl))
