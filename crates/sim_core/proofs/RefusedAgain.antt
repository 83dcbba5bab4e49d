-- An input of which a line is refused is refused whole, and why.
use Rattle.std.proofs.Common.{arith, ◌≡◌, ◌⊎◌, inl, inr, ◌≤◌, ℕ, false, List, [], ◌∷◌, ◌++◌, length, drop, map, codes, Result, Ok, Err, append-nil, refl, sym, ap, subst, ◌∙◌}
use Rattle.std.specs.Prelude.{Option, Some, None}
use Rattle.std.specs.List.{list_any}
use Rattle.std.proofs.lemmas.Bool.{or_parts}
use Rattle.cluster_model.specs.Expansion.{expansion_of}
use Rattle.cluster_model.specs.Resolution.{resolution_of}
use Rattle.cluster_types.specs.declared.cluster.Cluster.{Cluster}
use Rattle.cluster_types.specs.Journals.{moment_of}
use Rattle.crm_lex.specs.RawLines.{raw_lines}
use Rattle.crm_lex.specs.Reading.{faults_from, first_lex_fault, reads, rows_from}
use Rattle.crm_lex.specs.declared.fault.LexCause.{LexCause}
use Rattle.crm_lex.specs.declared.line.Line.{Line}
use Rattle.crm_lex.proofs.Pieces.{own_lines}
use Rattle.crm_parse.specs.declared.fault.ParseCause.{ParseCause}
use Rattle.crm_parse.specs.declared.marks.SectionMarks.{SectionMarks}
use Rattle.crm_parse.specs.declared.statement.Crm.{Crm}
use Rattle.crm_parse.specs.Marks.{is_mark, misplaced, sections_of}
use Rattle.crm_parse.specs.Statements.{statements_of}
use Rattle.crm_parse.proofs.Unmarked.{all_placed}
use Rattle.faults.specs.declared.fault.Fault.{Fault}
use Rattle.faults.specs.declared.fault.Fault.TheVariants.{At, NoMemory}
use Rattle.faults.specs.Reading.{faulting, unless, ◌>>=◌}
use Rattle.faults.proofs.Steps.{bind-err}
use Rattle.input_reading.specs.declared.history_fault.ResultCause.{ResultCause}
use Rattle.input_reading.specs.declared.input.cause.InputCause.{InputCause}
use Rattle.input_reading.specs.declared.input.cause.InputCause.TheVariants as cause
use Rattle.input_reading.specs.declared.input.reading.Head.{Head}
use Rattle.input_reading.specs.declared.input.reading.Input.{Input}
use Rattle.input_reading.specs.FirstJournal.{status_journal}
use Rattle.input_reading.specs.Reading.{IsFaultyText, IsReadable, IsTextRefused, configuration_lines, head_of, input_of, most_bytes, nothing_yet, lone_head_of, status_lines, with_results}
use Rattle.input_reading.proofs.Faults.{read_or_faulty}
use Rattle.live_run.specs.AnswersToCome.{Coming}
use Rattle.live_run.specs.Heads as heads
use Rattle.live_run.specs.declared.line_stop.LineCause.TheVariants as of_line
use Rattle.live_run.specs.declared.line_stop.LineStop.{LineStop}
use Rattle.live_run.specs.declared.line_stop.LineStop.TheVariants as stop
use Rattle.live_run.proofs.ComingRead.{SaysStop}
use Rattle.live_run.proofs.HeadRead.{SaysHead, fault_behind, head_is}
use Rattle.live_run.proofs.LinesJoined.{are_read, lines_clean, same_words, text_bytes}
use Rattle.sim_core.specs.LineByLine.{HasPlainLines, HasPlainRest, HasRefusedLine, IsRefusedByLine, line_isnt_cut, in_head, line_isnt_answer}
use Rattle.sim_core.specs.Replay.{coming_behind, head_in, words_refused, head_refused}
use Rattle.sim_core.proofs.InputSteps.{by_sections, steps_on, without_sections, without_words}
use Rattle.sim_core.proofs.InputAgain.{as_together, behind, come_says, comes, faults_are, h, head_read, is_input, not_past, others, rest_is, rows, together}
use Rattle.sim_core.proofs.OneReplay.{carried, no_fault, same_head}
use Rattle.sim_core.proofs.TraceSections.{misplaced_first, misplaced_joined}

-- what is read isn't refused for its words, where lines are
abbrev NoWords : {A : Type 0} → Result A (Fault InputCause) → Type 0
NoWords read = (line : ℕ) (why : LexCause) → read ≡ Err (At line (cause.Words why)) → ⊥

then_none : {A B : Type 0} (read : Result A (Fault InputCause)) (next : A → Result B (Fault InputCause)) → NoWords read → ((x : A) → NoWords (next x)) → NoWords (read >>= next)
then_none (Ok x) next first others = others x
then_none (Err fault) next first others = λ line why e. first line why (let same : fault ≡ At line (cause.Words why) = cc in ap Err same)

step_none : {A C : Type 0} (cause_of : C → InputCause) → ((c : C) (why : LexCause) → cause_of c ≡ cause.Words why → ⊥) → (read : Result A (Fault C)) → NoWords (faulting cause_of read)
step_none cause_of other (Ok x) = λ line why e. cc
step_none cause_of other (Err (At n c)) = λ line why e. other c why (let same : cause_of c ≡ cause.Words why = cc in same)
step_none cause_of other (Err NoMemory) = λ line why e. cc

head_none : (crm : Crm) (cluster : Cluster) (lines : List Line) → NoWords (head_of crm cluster lines)
unfolding head_of
head_none crm cluster lines = then_none (faulting cause.Status (status_journal cluster lines)) _ (step_none cause.Status (λ c why e. cc) (status_journal cluster lines)) (λ journal line why e. cc)

steps_none : (configuration status : List Line) → NoWords (steps_on configuration status (λ head. Ok head))
steps_none configuration status =
    then_none (faulting cause.Statements (statements_of configuration)) _ (step_none cause.Statements (λ c why e. cc) (statements_of configuration)) (λ crm.
    then_none (faulting cause.Leaves (expansion_of crm.statements)) _ (step_none cause.Leaves (λ c why e. cc) (expansion_of crm.statements)) (λ leaves.
    then_none (faulting cause.Cluster (resolution_of leaves crm.statements)) _ (step_none cause.Cluster (λ c why e. cc) (resolution_of leaves crm.statements)) (λ cluster.
    then_none (head_of crm cluster status) _ (head_none crm cluster status) (λ head line why e. cc))))

start_none : (bytes : List ℕ) (lines : List Line) → reads bytes ≡ Ok lines → NoWords (lone_head_of bytes)
unfolding lone_head_of
start_none bytes lines are line why e = by (sections_of lines) refl
  where
    by : (marks : Result SectionMarks (Fault ParseCause)) → sections_of lines ≡ marks → ⊥
    by (Ok marks) placed =
        steps_none (configuration_lines marks lines) (status_lines marks lines) line why (sym (by_sections sections_of (λ all. nothing_yet) bytes lines marks are placed) ∙ e)
    by (Err (At n c)) placed =
        let f : (let first : Result Head (Fault InputCause) = Err (At n (cause.Statements c)) in first) ≡ Err (At line (cause.Words why))
        = sym (without_sections sections_of (λ all. nothing_yet) bytes lines (At n c) are placed) ∙ e in
        cc
    by (Err NoMemory) placed =
        let f : (let first : Result Head (Fault InputCause) = Err NoMemory in first) ≡ Err (At line (cause.Words why))
        = sym (without_sections sections_of (λ all. nothing_yet) bytes lines NoMemory are placed) ∙ e in
        cc

-- lines with the same words have a section line or none
same_marks : (xs ys : List Line) → map (λ (l : Line). l.words) xs ≡ map (λ (l : Line). l.words) ys → list_any is_mark xs ≡ false → list_any is_mark ys ≡ false
same_marks [] [] same none = refl
same_marks [] (y ∷ ys) same none = absurd (let f : ⊥ = cc in f)
same_marks (x ∷ xs) [] same none = absurd (let f : ⊥ = cc in f)
same_marks (x ∷ xs) (y ∷ ys) same none =
    let parts = or_parts (is_mark x) (list_any is_mark xs) none in
    let words : x.words ≡ y.words = cc in
    let first : is_mark y ≡ false = ap (λ (ws : List (List ℕ)). is_mark (record { line = y.line; words = ws })) (sym words) ∙ parts.0 in
    let more = same_marks xs ys (let rest : map (λ (l : Line). l.words) xs ≡ map (λ (l : Line). l.words) ys = cc in rest) parts.1 in
    rw (first, more) refl

module _ (text : List ℕ) where
  of_words : (line : ℕ) (why : LexCause) → first_lex_fault (faults_from 1 (raw_lines text)) ≡ Some (At line why) → IsTextRefused text line (cause.Words why)
  unfolding input_of
  of_words line why fault =
      without_words sections_of (λ all. with_results) text (At line why) (ap (λ (found : Option (Fault LexCause)). unless found (rows_from 1 (raw_lines text))) fault)

  words_in_head : (line : ℕ) (why : InputCause) → head_in text ≡ heads.refused line why → IsTextRefused text line why
  words_in_head line why is =
      let found = subst (SaysHead [] most_bytes 1 (raw_lines text)) is (head_is [] most_bytes 1 (raw_lines text) (own_lines text)) in
      of_words line found.lack found.first ∙ ap (λ (c : InputCause). Err (At line c)) (sym found.is_lack)

  -- why no more come of the lines behind a head
  module _ (bytes : List ℕ) (next room : ℕ) (is : head_in text ≡ heads.taken bytes next room) where
    stopped : (head : Head) (w : Option LineStop) → (coming_behind text bytes head next room).stop ≡ w
        → SaysStop head.cluster (moment_of head.journal.events) next [] room (raw_lines (behind text bytes next room is)) (coming_behind text bytes head next room).results w
    stopped head w same =
        subst (SaysStop head.cluster (moment_of head.journal.events) next [] room (raw_lines (behind text bytes next room is)) (coming_behind text bytes head next room).results) same
        (come_says text bytes next room is head)

    words_behind : (head : Head) (line : ℕ) (why : LexCause) → (coming_behind text bytes head next room).stop ≡ Some (stop.Refused line (of_line.Words why)) → IsTextRefused text line (cause.Words why)
    words_behind head line why w =
        let found = fault_behind (faults_from 1 (h text bytes next room is).first) (faults_from next (raw_lines (behind text bytes next room is))) line why
        (h text bytes next room is).clean (stopped head (Some (stop.Refused line (of_line.Words why))) w) in
        of_words line why (ap first_lex_fault (faults_are text bytes next room is) ∙ found)

    -- where those lines are plain
    module _ (plain : HasPlainLines (drop (length bytes) text)) where
      read_behind : reads (behind text bytes next room is) ≡ Ok plain.lines
      read_behind = ap reads (sym (rest_is text bytes next room is)) ∙ plain.are

      clean : faults_from next (raw_lines (behind text bytes next room is)) ≡ []
      clean = lines_clean 1 next (raw_lines (behind text bytes next room is)) (are_read (behind text bytes next room is) plain.lines read_behind).clean

      unmarked : list_any is_mark (others text bytes next room is) ≡ false
      unmarked =
          same_marks (rows_from 1 (raw_lines (behind text bytes next room is))) (others text bytes next room is) (same_words 1 next (raw_lines (behind text bytes next room is)))
          (subst (λ (ls : List Line). list_any is_mark ls ≡ false) (sym (are_read (behind text bytes next room is) plain.lines read_behind).rows_are) plain.unmarked)

      in_place : misplaced (codes "%results") [] (rows text bytes next room is ++ others text bytes next room is) ≡ misplaced (codes "%results") [] (rows text bytes next room is)
      in_place = by (misplaced (codes "%results") [] (rows text bytes next room is)) refl
        where
          by : (found : Option ℕ) → misplaced (codes "%results") [] (rows text bytes next room is) ≡ found
              → misplaced (codes "%results") [] (rows text bytes next room is ++ others text bytes next room is) ≡ misplaced (codes "%results") [] (rows text bytes next room is)
          by None none =
              misplaced_joined (codes "%results") [] (rows text bytes next room is) (others text bytes next room is) none
              (all_placed (codes "%results") (rows text bytes next room is) (others text bytes next room is) unmarked)
              ∙ sym none
          by (Some line) some = misplaced_first (codes "%results") [] (rows text bytes next room is) (others text bytes next room is) line some ∙ sym some

      whole_is : input_of text ≡ (lone_head_of bytes >>= (λ head. with_results head (others text bytes next room is)))
      whole_is = as_together text bytes next room is clean in_place

      in_the_head : (line : ℕ) (why : InputCause) → lone_head_of bytes ≡ Err (At line why) → IsTextRefused text line why
      in_the_head line why says = whole_is ∙ bind-err (lone_head_of bytes) (λ head. with_results head (others text bytes next room is)) (At line why) says

      in_results : (head : Head) (line : ℕ) (why : ResultCause) → lone_head_of bytes ≡ Ok head
          → (coming_behind text bytes head next room).stop ≡ Some (stop.Refused line (of_line.Form why)) → IsTextRefused text line (cause.Results why)
      unfolding with_results
      in_results head line why says w =
          let read = stopped head (Some (stop.Refused line (of_line.Form why))) w clean in
          whole_is ∙ (ap (λ (found : Result Head (Fault InputCause)). found >>= (λ head. with_results head (others text bytes next room is))) says ∙ rw read refl)

-- the fault is the same, where no line behind the head lacks words or is a section line
pub same_fault : (text : List ℕ) (line : ℕ) (why : InputCause) → IsRefusedByLine text line why → HasPlainRest text → IsTextRefused text line why
same_fault text _ _ (in_head _ _ (words_refused line w is)) plain = words_in_head text line w is
same_fault text _ _ (in_head _ _ (head_refused bytes next room line why is says)) plain = in_the_head text bytes next room is (plain bytes next room is) line why says
same_fault text _ _ (line_isnt_cut bytes head next room line w begun none) plain = words_behind text bytes next room begun.is head line w none
same_fault text _ _ (line_isnt_answer bytes head next room line w begun none) plain = in_results text bytes next room begun.is (plain bytes next room begun.is) head line w begun.says none

-- and where the line lacks words
same_words_fault : (text : List ℕ) (line : ℕ) (why : InputCause) → IsRefusedByLine text line why → (w : LexCause) → why ≡ cause.Words w → IsTextRefused text line why
same_words_fault text _ _ (in_head _ _ (words_refused line why is)) w same = words_in_head text line why is
same_words_fault text _ _ (in_head _ _ (head_refused bytes next room line why is says)) w same =
    absurd (start_none bytes (rows text bytes next room is) (head_read text bytes next room is) line w (says ∙ ap (λ (c : InputCause). Err (At line c)) same))
same_words_fault text _ _ (line_isnt_cut bytes head next room line v begun none) w same = words_behind text bytes next room begun.is head line v none
same_words_fault text _ _ (line_isnt_answer bytes head next room line v begun none) w same = absurd (let f : ⊥ = cc in f)

pub same_words_refused : (text : List ℕ) (line : ℕ) (why : LexCause) → IsRefusedByLine text line (cause.Words why) → IsTextRefused text line (cause.Words why)
same_words_refused text line why r = same_words_fault text line (cause.Words why) r why refl

-- what is read is not refused
apart : {A F : Type 0} (x : A) (fault : F) → (let first : Result A F = Ok x in first) ≡ Err fault → ⊥
apart x fault e = cc

-- an input within the limit is refused whole just when one of its lines is
module _ (text : List ℕ) (fits : length text ≤ most_bytes) where
  not_both : (line : ℕ) (why : InputCause) → IsRefusedByLine text line why → (whole : Input) → input_of text ≡ Ok whole → ⊥
  not_both line why (in_head _ _ fault) whole r =
      let came = comes text whole r fits in no_fault text came.bytes whole.head came.next came.room line why came.begun fault
  not_both _ _ (line_isnt_cut bytes head next room line w begun none) whole r =
      apart _ _ (sym r ∙ words_behind text bytes next room begun.is head line w none)
  not_both _ _ (line_isnt_answer bytes head next room line w begun none) whole r =
      let came = comes text whole r fits in
      let same = same_head text bytes came.bytes head whole.head next came.next room came.room begun came.begun in
      let stopped = carried text (λ c journal (come : Coming). come.stop ≡ Some (stop.Refused line (of_line.Form w))) bytes came.bytes head whole.head next came.next room came.room same none in
      let f : None ≡ Some (stop.Refused line (of_line.Form w)) = sym (ap (λ (come : Coming). come.stop) came.all) ∙ stopped in
      cc

  pub refused_whole : HasRefusedLine text → IsFaultyText text
  refused_whole r = by (read_or_faulty text)
    where
      by : IsReadable text ⊎ IsFaultyText text → IsFaultyText text
      by (inl readable) = absurd (not_both r.line r.why r.refused readable.whole readable.reads)
      by (inr faulty) = faulty

  -- memory is no reason to refuse what a head says
  some_memory : (bytes : List ℕ) (next room : ℕ) → head_in text ≡ heads.taken bytes next room → lone_head_of bytes ≡ Err NoMemory → ⊥
  some_memory bytes next room is says = by (read_or_faulty bytes)
    where
      all : List Line
      all = rows text bytes next room is

      whole : input_of bytes ≡ Err NoMemory
      whole =
          together bytes bytes (rows text bytes next room is) [] (head_read text bytes next room is) (head_read text bytes next room is ∙ ap Ok (sym (append-nil (rows text bytes next room is))))
          (h text bytes next room is).more (h text bytes next room is).ends (λ none. refl) (ap (misplaced (codes "%results") []) (append-nil (rows text bytes next room is)))
          ∙ bind-err (lone_head_of bytes) (λ head. with_results head []) NoMemory says

      by : IsReadable bytes ⊎ IsFaultyText bytes → ⊥
      by (inl readable) = apart _ _ (sym readable.reads ∙ whole)
      by (inr faulty) = let f : (let first : Result Input (Fault InputCause) = Err (At faulty.line faulty.why) in first) ≡ Err NoMemory = sym faulty.fault ∙ whole in cc

  pub refused_line : IsFaultyText text → HasRefusedLine text
  refused_line faulty = by (head_in text) refl (head_is [] most_bytes 1 (raw_lines text) (own_lines text))
    where
      of_stop : (bytes : List ℕ) (next room : ℕ) (is : head_in text ≡ heads.taken bytes next room) (head : Head) → lone_head_of bytes ≡ Ok head → (w : Option LineStop)
          → (coming_behind text bytes head next room).stop ≡ w → HasRefusedLine text
      of_stop bytes next room is head says None none =
          absurd (apart _ _ (sym (is_input text bytes next room is head says none) ∙ faulty.fault))
      of_stop bytes next room is head says (Some (stop.Refused line (of_line.Words why))) none =
          record { line = line; why = cause.Words why; refused = line_isnt_cut bytes head next room line why (record { is = is; says = says }) none }
      of_stop bytes next room is head says (Some (stop.Refused line (of_line.Form why))) none =
          record { line = line; why = cause.Results why; refused = line_isnt_answer bytes head next room line why (record { is = is; says = says }) none }
      of_stop bytes next room is head says (Some stop.TooLarge) none =
          absurd (not_past text bytes next room is (stopped text bytes next room is head (Some stop.TooLarge) none) fits)
      of_stop bytes next room is head says (Some stop.ReadFault) none = absurd (stopped text bytes next room is head (Some stop.ReadFault) none)

      of_start : (bytes : List ℕ) (next room : ℕ) → head_in text ≡ heads.taken bytes next room → (read : Result Head (Fault InputCause)) → lone_head_of bytes ≡ read → HasRefusedLine text
      of_start bytes next room is (Ok head) says = of_stop bytes next room is head says (coming_behind text bytes head next room).stop refl
      of_start bytes next room is (Err (At line why)) says = record { line = line; why = why; refused = in_head line why (head_refused bytes next room line why is says) }
      of_start bytes next room is (Err NoMemory) says = absurd (some_memory bytes next room is says)

      by : (verdict : heads.HeadFound) → head_in text ≡ verdict → SaysHead [] most_bytes 1 (raw_lines text) verdict → HasRefusedLine text
      by (heads.taken bytes next room) is says = of_start bytes next room is (lone_head_of bytes) refl
      by (heads.refused line why) is says = record { line = line; why = why; refused = in_head line why (words_refused line why is) }
      by heads.too_large is over = let bytes_size = ap (λ (bs : List ℕ). length bs) (text_bytes text) in absurd (omega (arith, over, bytes_size, fits))
