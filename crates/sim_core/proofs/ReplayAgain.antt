-- A run that was written for result lines is lawful in their place, and one that was written without any behind the input.
use Rattle.std.proofs.Common.{◌≡◌, ◌+◌, ℕ, true, false, List, [], ◌∷◌, ◌++◌, map, codes, Ok, append_assoc, append-nil, refl, sym, ap, subst, ◌∙◌}
use Rattle.std.specs.Prelude.{None}
use Rattle.std.specs.List.{concat, list_any}
use Rattle.std.specs.Str.{is_utf8}
use Rattle.std.proofs.lemmas.List.Concat.{flat_map-append}
use Rattle.std.proofs.lemmas.Str.{is_utf8-from_IsUtf8}
use Rattle.cluster_types.specs.declared.run.RunLine.{RunLine}
use Rattle.crm_lex.specs.declared.line.Line.{Line}
use Rattle.crm_lex.specs.LogicalLines.{faults}
use Rattle.crm_lex.specs.RawLines.{content, raw_lines}
use Rattle.crm_lex.specs.Reading.{faults_from, reads, rows_from}
use Rattle.crm_parse.specs.Marks.{misplaced, sections_of}
use Rattle.crm_print.proofs.Clean.{clean-ascii}
use Rattle.input_reading.specs.declared.input.reading.Head.{Head}
use Rattle.input_reading.specs.Reading.{ReadsInput, most_bytes, nothing_yet, lone_head_of}
use Rattle.input_reading.specs.RunReading.{read_run_lines}
use Rattle.input_reading.specs.PrintedLines.{ReadsAgain, with_line_numbers}
use Rattle.live_run.specs.AnswersToCome.{Coming}
use Rattle.live_run.specs.Ends.{IsWholeText, run_lines_text}
use Rattle.crm_lex.proofs.FaultOrder.{count_lines}
use Rattle.live_run.specs.SourceFollowed.{bytes_of}
use Rattle.live_run.proofs.HeadRead.{EndsHead, HasHead, at_results, results_row, with_all}
use Rattle.live_run.proofs.LinesJoined.{AreRead, are_read, both_none, cut_at, faults_joined, lines_clean, none_first, reads_as, rows_joined, same_words, text_bytes}
use Rattle.written_runs.proofs.RunsAgain.{whole_again}
use Rattle.sim_core.specs.Audit.{IsLawfulTrace, lawful_text}
use Rattle.sim_core.specs.LawfulRuns.{IsLawfulRun, said}
use Rattle.sim_core.specs.Replay.{IsTextOfRun, coming_behind}
use Rattle.sim_core.specs.TraceSection.{AreWholeLines, before_results, lines_before_results, trace_begins, with_trace_section}
use Rattle.sim_core.proofs.BeforeResults.{CutAtResults, all_before, cut_at_results, one_word}
use Rattle.sim_core.proofs.HeadAlone.{HasNoResults, results_begin, same_with_mark}
use Rattle.sim_core.proofs.OwnAnswers.{whole_is_lawful}
use Rattle.sim_core.proofs.InputAgain.{h, head_read as head_rows, in_place, is_input, same_ok, same_row, same_rows}
use Rattle.sim_core.proofs.InputSteps.{HasSections, has_sections}
use Rattle.sim_core.proofs.TraceSections.{misplaced_parts}
use Rattle.sim_core.proofs.WholeLines.{whole_before}
use Rattle.sim_core.proofs.TraceRead.{RunAnew, results_mark, run_anew, trace-is, trace_mark}

-- the line that begins a trace has no fault
trace_utf8 : is_utf8 (content trace_begins) ≡ true
trace_utf8 = is_utf8-from_IsUtf8 (codes "%trace") (clean-ascii (codes "%trace") refl).utf8

trace_clean : (n : ℕ) → faults n (trace_begins ∷ []) ≡ []
trace_clean n = rw trace_utf8 refl

said_numbered : (n : ℕ) (lines : List RunLine) → said (with_line_numbers n lines) ≡ lines
said_numbered n [] = refl
said_numbered n (line ∷ lines) = ap (λ (ls : List RunLine). line ∷ ls) (said_numbered (n + 1) lines)

-- a trace behind some lines
abbrev behind_lines : List ℕ → List ℕ → List ℕ
behind_lines front trace = (front ++ trace_begins) ++ trace

-- a text begins results: one of its lines has words, and they are this word
abbrev BeginsResults : List ℕ → Type 0
BeginsResults mark = map (λ (line : Line). line.words) (rows_from 1 (raw_lines mark)) ≡ (codes "%results" ∷ []) ∷ []

-- its one row
record IsMark (rows : List Line) : Type 0 where
  number : ℕ
  is : rows ≡ results_mark number ∷ []

one_mark : (rows : List Line) → map (λ (line : Line). line.words) rows ≡ (codes "%results" ∷ []) ∷ [] → IsMark rows
one_mark [] e = absurd (let no : ⊥ = cc in no)
one_mark (row ∷ []) e =
    let words : row.words ≡ codes "%results" ∷ [] = cc in
    record { number = row.line; is = ap (λ (ws : List (List ℕ)). record { line = row.line; words = ws } ∷ []) words }
one_mark (row ∷ other ∷ rows) e = absurd (let no : ⊥ = cc in no)

-- some whole lines, a line that begins results behind them, and what they say as a head
module _ (front mark : List ℕ) (head : Head) (whole_lines : AreWholeLines front) (begins : BeginsResults mark) (says : lone_head_of (front ++ mark) ≡ Ok head) where
  -- the rows of the lines, and the number of the line behind them
  abbrev rows : List Line
  rows = rows_from 1 (raw_lines front)

  abbrev n : ℕ
  n = 1 + count_lines (raw_lines front)

  read_head : HasSections sections_of (front ++ mark)
  unfolding lone_head_of
  read_head = has_sections sections_of (λ all. nothing_yet) (front ++ mark) head says

  head_read : AreRead (raw_lines front ++ raw_lines mark) read_head.lines
  head_read = subst (λ (groups : List (List (List ℕ))). AreRead groups read_head.lines) (whole_lines mark) (are_read (front ++ mark) read_head.lines read_head.are)

  mark_read : IsMark (rows_from n (raw_lines mark))
  mark_read = one_mark (rows_from n (raw_lines mark)) (same_words n 1 (raw_lines mark) ∙ begins)

  lines_are : reads (front ++ mark) ≡ Ok (rows ++ results_mark mark_read.number ∷ [])
  lines_are =
      read_head.are
      ∙ ap Ok (sym head_read.rows_are ∙ (rows_joined 1 (raw_lines front) (raw_lines mark) ∙ ap (λ (ls : List Line). rows ++ ls) mark_read.is))

  clean : faults_from 1 (raw_lines front) ≡ []
  clean =
      (both_none (faults_from 1 (raw_lines front)) (faults_from n (raw_lines mark)) (sym (faults_joined 1 (raw_lines front) (raw_lines mark)) ∙ head_read.clean)).0

  -- the text of its whole run, over the answers of an input that is read with this head, is lawful behind the lines
  module _ (input : List ℕ) (come : Coming) (read : ReadsInput input (record { head = head; results = come.results })) (text : List ℕ) (w : IsWholeText head.cluster head.journal come text) where
    abbrev trace : List ℕ
    trace = run_lines_text head.cluster w.lines

    again : ReadsAgain head.cluster w.lines
    again = whole_again input _ read true w.run.journal_now w.lines w.run.run

    trace_cut : raw_lines (behind_lines front trace) ≡ raw_lines front ++ (trace_begins ∷ []) ∷ raw_lines trace
    trace_cut = ap raw_lines (append_assoc front trace_begins trace) ∙ whole_lines (trace_begins ++ trace)

    traced : reads (behind_lines front trace) ≡ Ok (rows ++ trace_mark n ∷ rows_from (n + 1) (raw_lines trace))
    traced =
        let behind : faults_from (n + 1) (raw_lines trace) ≡ [] = lines_clean 1 (n + 1) (raw_lines trace) (are_read trace again.read again.are_lines).clean in
        reads_as (behind_lines front trace) (raw_lines front ++ (trace_begins ∷ []) ∷ raw_lines trace) trace_cut
        (faults_joined 1 (raw_lines front) ((trace_begins ∷ []) ∷ raw_lines trace)
        ∙ none_first (faults_from 1 (raw_lines front)) (faults_from n ((trace_begins ∷ []) ∷ raw_lines trace)) clean
        (none_first (faults n (trace_begins ∷ [])) (faults_from (n + 1) (raw_lines trace)) (trace_clean n) behind))
        ∙ ap Ok (rows_joined 1 (raw_lines front) ((trace_begins ∷ []) ∷ raw_lines trace))

    anew : RunAnew head.cluster [] (rows_from (n + 1) (raw_lines trace)) (with_line_numbers 1 w.lines)
    anew =
        run_anew head.cluster [] [] (rows_from 1 (raw_lines trace)) (rows_from (n + 1) (raw_lines trace)) (with_line_numbers 1 w.lines) (same_words 1 (n + 1) (raw_lines trace)) refl
        (ap (read_run_lines head.cluster) (are_read trace again.read again.are_lines).rows_are ∙ again.same)

    lawful_trace : IsLawfulTrace (behind_lines front trace) lawful_text
    lawful_trace = record {
      whole = _;
      reads = trace-is (front ++ mark) (behind_lines front trace) rows mark_read.number head says lines_are n (rows_from (n + 1) (raw_lines trace)) anew.anew traced anew.read;
      lawful = subst (λ (lines : List RunLine). IsLawfulRun head.cluster head.journal lines) (sym (anew.same ∙ said_numbered 1 w.lines))
          (whole_is_lawful head.cluster head.journal true _ w.lines w.run.journal_now w.run.run);
      printed = refl;
    }

    pub lawful_text_of : IsLawfulTrace (behind_lines front text) lawful_text
    lawful_text_of = subst (λ (written : List ℕ). IsLawfulTrace (behind_lines front written) lawful_text) (sym w.printed) lawful_trace

-- the text of an input in the place of its results
module _ (input : List ℕ) (whole : before_results input ≡ input → AreWholeLines input) (text : List ℕ) (run : IsTextOfRun IsWholeText input text) where
  abbrev come : Coming
  come = coming_behind input run.bytes run.head run.next run.room

  read : ReadsInput input (record { head = run.head; results = come.results })
  read = is_input input run.bytes run.next run.room run.begun.is run.head run.begun.says run.says.run.all

  abbrev first : HasHead [] most_bytes 1 (raw_lines input) run.bytes run.next run.room
  first = h input run.bytes run.next run.room run.begun.is

  -- where it has none
  behind_all : list_any results_row (rows_from 1 first.first) ≡ false → first.more ≡ [] → IsLawfulTrace (with_trace_section input text) lawful_text
  behind_all no_row end =
      let all : raw_lines input ≡ first.first = first.parts ∙ (ap (λ (gs : List (List (List ℕ))). first.first ++ gs) end ∙ append-nil first.first) in
      let none : list_any results_row (rows_from 1 (raw_lines input)) ≡ false = subst (λ (gs : List (List (List ℕ))). list_any results_row (rows_from 1 gs) ≡ false) (sym all) no_row in
      let no_results : HasNoResults input = sym (same_rows (rows_from 1 (raw_lines input))) ∙ none in
      let same : before_results input ≡ input = ap bytes_of (all_before 1 (raw_lines input) none) ∙ text_bytes input in
      let whole_input = whole same in
      let bytes : run.bytes ≡ input = first.text_is ∙ (ap bytes_of (sym all) ∙ text_bytes input) in
      let says : lone_head_of input ≡ Ok run.head = subst (λ (bs : List ℕ). lone_head_of bs ≡ Ok run.head) bytes run.begun.says in
      subst (λ (front : List ℕ). IsLawfulTrace (behind_lines front text) lawful_text) (sym same)
      (lawful_text_of input results_begin run.head whole_input refl (same_with_mark input no_results run.head whole_input says) input come read text run.says)

  module _ (front : List Line) (mark : Line) (is : rows_from 1 first.first ≡ front ++ mark ∷ []) (no_row : list_any results_row front ≡ false) (begins : results_row mark ≡ true) where
    c : CutAtResults 1 first.first first.more mark
    c = cut_at_results 1 first.first first.more front mark is no_row begins

    -- the text of the line that begins them
    abbrev mark_text : List ℕ
    mark_text = bytes_of c.rest

    before_is : before_results input ≡ bytes_of c.before
    before_is = ap bytes_of (ap lines_before_results first.parts ∙ c.are_before)

    bytes_are : run.bytes ≡ before_results input ++ mark_text
    bytes_are =
        first.text_is
        ∙ (ap bytes_of c.parts ∙ (flat_map-append concat c.before c.rest ∙ ap (λ (bs : List ℕ). bs ++ mark_text) (sym before_is)))

    groups_are : raw_lines input ≡ c.before ++ (c.rest ++ first.more)
    groups_are = first.parts ∙ (ap (λ (gs : List (List (List ℕ))). gs ++ first.more) c.parts ∙ append_assoc c.before c.rest first.more)

    mark_lines : raw_lines mark_text ≡ c.rest
    mark_lines =
        let cut = cut_at input c.before (c.rest ++ first.more) groups_are in
        (cut_at cut.behind c.rest first.more cut.rest).first

    -- a line stands behind what is before
    whole_there : (rest : List (List (List ℕ))) → rows_from (1 + count_lines c.before) rest ≡ mark ∷ [] → raw_lines input ≡ c.before ++ (rest ++ first.more)
        → AreWholeLines (bytes_of c.before)
    whole_there [] row all = absurd (let wrong : ⊥ = cc in wrong)
    whole_there (group ∷ rest) row all = whole_before input c.before group (rest ++ first.more) all

    mark_words : mark.words ≡ codes "%results" ∷ []
    unfolding lone_head_of
    mark_words =
        let found = has_sections sections_of (λ all. nothing_yet) run.bytes run.head run.begun.says in
        let rows_are = head_rows input run.bytes run.next run.room run.begun.is in
        let placed = in_place (rows_from 1 first.first) found.marks
        (subst (λ (ls : List Line). sections_of ls ≡ Ok found.marks) (same_ok found.lines (rows_from 1 first.first) (sym found.are ∙ rows_are)) found.placed) in
        let all : misplaced (codes "%results") [] (front ++ mark ∷ []) ≡ None = subst (λ (ls : List Line). misplaced (codes "%results") [] ls ≡ None) is placed in
        one_word front mark.line mark.words (sym (same_row mark.words mark.line) ∙ begins) (misplaced_parts (codes "%results") [] front (mark ∷ []) all).1

    begins_results : BeginsResults mark_text
    begins_results =
        ap (λ (gs : List (List (List ℕ))). map (λ (line : Line). line.words) (rows_from 1 gs)) mark_lines
        ∙ (same_words 1 (1 + count_lines c.before) c.rest
        ∙ (ap (λ (rows : List Line). map (λ (line : Line). line.words) rows) c.ends_in ∙ ap (λ (words : List (List ℕ)). words ∷ []) mark_words))

    -- where it has some
    in_their_place : IsLawfulTrace (with_trace_section input text) lawful_text
    in_their_place =
        lawful_text_of (before_results input) mark_text run.head (subst AreWholeLines (sym before_is) (whole_there c.rest c.ends_in groups_are)) begins_results
        (subst (λ (bs : List ℕ). lone_head_of bs ≡ Ok run.head) bytes_are run.begun.says) input come read text run.says

  pub is_lawful : IsLawfulTrace (with_trace_section input text) lawful_text
  is_lawful = by first.ends
    where
      by : EndsHead (rows_from 1 first.first) first.more → IsLawfulTrace (with_trace_section input text) lawful_text
      by (with_all no_row end) = behind_all no_row end
      by (at_results front mark is no_row begins) = in_their_place front mark is no_row begins
