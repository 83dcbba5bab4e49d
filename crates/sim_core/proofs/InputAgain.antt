-- What comes of an input line by line, and what is read of it whole.
use Rattle.std.proofs.Common.{arith, ◌≡◌, ◌<◌, ◌≤◌, ◌+◌, ℕ, true, false, List, [], ◌∷◌, ◌++◌, length, length-append, drop, codes, Result, Ok, Err, append_assoc, append-nil, refl, sym, ap, subst, ◌∙◌}
use Rattle.std.specs.Prelude.{Option, Some, None}
use Rattle.std.specs.List.{list_any}
use Rattle.std.proofs.Math.Seq.{drop-append_seam}
use Rattle.cluster_types.specs.Journals.{moment_of}
use Rattle.crm_lex.specs.RawLines.{raw_lines}
use Rattle.crm_lex.specs.Reading.{faults_from, first_lex_fault, reads, rows_from}
use Rattle.crm_lex.specs.declared.line.Line.{Line}
use Rattle.crm_lex.proofs.Pieces.{own_lines}
use Rattle.crm_parse.specs.declared.fault.ParseCause.TheVariants.{UnknownStatement}
use Rattle.crm_parse.specs.declared.marks.SectionMarks.{SectionMarks}
use Rattle.crm_parse.specs.Marks.{marks_unless, misplaced, sections_of}
use Rattle.crm_parse.proofs.PairWords.{place-behind}
use Rattle.crm_parse.proofs.Unmarked.{all_placed}
use Rattle.faults.specs.declared.fault.Fault.{Fault}
use Rattle.faults.specs.declared.fault.Fault.TheVariants.{At}
use Rattle.faults.specs.Reading.{◌>>=◌}
use Rattle.faults.proofs.Steps.{bind-err, bind-ok}
use Rattle.input_reading.specs.declared.input.cause.InputCause.{InputCause}
use Rattle.input_reading.specs.declared.input.cause.InputCause.TheVariants as cause
use Rattle.input_reading.specs.declared.input.reading.Head.{Head}
use Rattle.input_reading.specs.declared.input.reading.Input.{Input}
use Rattle.input_reading.specs.declared.results.result_lines.ResultLine.{ResultLine}
use Rattle.input_reading.specs.Reading.{ReadsInput, input_of, most_bytes, nothing_yet, lone_head_of, with_results}
use Rattle.input_reading.specs.Results.{results_of}
use Rattle.input_reading.proofs.ValidInput.{passed}
use Rattle.live_run.specs.AnswersToCome.{Coming, coming}
use Rattle.live_run.specs.Heads as heads
use Rattle.live_run.specs.declared.line_stop.LineCause.TheVariants as of_line
use Rattle.live_run.specs.declared.line_stop.LineStop.{LineStop}
use Rattle.live_run.specs.declared.line_stop.LineStop.TheVariants as stop
use Rattle.live_run.proofs.ComingRead.{AreResults, SaysComing, SaysStop, coming_is}
use Rattle.live_run.proofs.HeadRead.{EndsHead, HasHead, SaysHead, at_results, head_is, results_row, with_all}
use Rattle.live_run.specs.SourceFollowed.{bytes_of}
use Rattle.live_run.proofs.LinesJoined.{IsCut, are_read, both_none, cut_at, faults_joined, none_first, reads_as, rows_joined, text_bytes}
use Rattle.sim_core.specs.LineByLine.{ComesLineByLine}
use Rattle.sim_core.specs.Replay.{coming_behind, head_in}
use Rattle.sim_core.proofs.InputSteps.{HasSections, configuration_in, has_sections, head_first, marks_by, status_in, steps_on, with_last, without_last, without_sections}
use Rattle.sim_core.proofs.PlainResults.{plain_results}
use Rattle.sim_core.proofs.TraceSections.{first_nowhere, misplaced_joined, misplaced_parts, results_line}

abbrev last : List ℕ
last = codes "%results"

-- both tests say whether a line begins the results
pub same_row : (words : List (List ℕ)) (n : ℕ) → results_row (record { line = n; words = words }) ≡ results_line (record { line = n; words = words })
same_row [] n = refl
same_row (word ∷ words) n = refl

pub same_rows : (rows : List Line) → list_any results_row rows ≡ list_any results_line rows
same_rows [] = refl
same_rows (row ∷ rows) = let first = same_row row.words row.line in let others = same_rows rows in rw (first, others) refl

pub same_ok : {A E : Type 0} (x y : A) → (let first : Result A E = Ok x in first) ≡ Ok y → x ≡ y
same_ok x y e = cc

-- lines whose sections are there have no section line out of its place
pub in_place : (lines : List Line) (marks : SectionMarks) → sections_of lines ≡ Ok marks → misplaced last [] lines ≡ None
in_place lines marks e = by (misplaced last [] lines) e
  where
    by : (found : Option ℕ) → marks_unless found (marks_by last lines) ≡ Ok marks → found ≡ None
    by None e = refl
    by (Some line) e = absurd (let f : ⊥ = cc in f)

-- the lines of a head, and those behind the line that ends it
module _ (bytes text : List ℕ) (rows others : List Line) (are : reads bytes ≡ Ok rows) (all : reads text ≡ Ok (rows ++ others)) where
  -- what is read of all is what is read of the head, and then of the lines behind it
  AsTogether : Type 0
  AsTogether = input_of text ≡ (lone_head_of bytes >>= (λ head. with_results head others))

  joined : (configuration status : List Line) → lone_head_of bytes ≡ steps_on configuration status (λ head. Ok head) → input_of text ≡ steps_on configuration status (λ head. with_results head others) → AsTogether
  unfolding AsTogether
  joined configuration status start input =
      input ∙ (head_first configuration status (λ head. with_results head others) ∙ ap (λ (read : Result Head (Fault InputCause)). read >>= (λ head. with_results head others)) (sym start))

  there : (lines : List Line) → misplaced last [] lines ≡ None → sections_of lines ≡ Ok (marks_by last lines)
  there lines none = rw none refl

  to_the_end : list_any results_line rows ≡ false → others ≡ [] → misplaced last [] rows ≡ None → AsTogether
  unfolding input_of lone_head_of
  to_the_end none end placed =
      let nowhere = first_nowhere results_line rows none in
      let lines : rows ++ others ≡ rows = ap (λ (ls : List Line). rows ++ ls) end ∙ append-nil rows in
      joined (configuration_in rows) (status_in rows) (without_last sections_of (λ all. nothing_yet) bytes last rows are (there rows placed) nowhere)
      (without_last sections_of (λ all. with_results) text last rows (all ∙ ap Ok lines) (there rows placed) nowhere
      ∙ ap (λ (ls : List Line). steps_on (configuration_in rows) (status_in rows) (λ head. with_results head ls)) (sym end))

  to_results : (front : List Line) (mark : Line) → rows ≡ front ++ mark ∷ [] → list_any results_line front ≡ false → results_line mark ≡ true → misplaced last [] rows ≡ None
      → misplaced last [] (rows ++ others) ≡ None → AsTogether
  unfolding input_of lone_head_of
  to_results front mark ends none begins placed all_placed =
      let lines : rows ++ others ≡ front ++ mark ∷ others = ap (λ (ls : List Line). ls ++ others) ends ∙ append_assoc front (mark ∷ []) others in
      joined (configuration_in front) (status_in front)
      (with_last sections_of (λ all. nothing_yet) bytes last front mark [] (are ∙ ap Ok ends)
      (there (front ++ mark ∷ []) (subst (λ (ls : List Line). misplaced last [] ls ≡ None) ends placed)) (place-behind results_line front mark [] none begins))
      (with_last sections_of (λ all. with_results) text last front mark others (all ∙ ap Ok lines)
      (there (front ++ mark ∷ others) (subst (λ (ls : List Line). misplaced last [] ls ≡ None) lines all_placed)) (place-behind results_line front mark others none begins))

  out_of_place : (line : ℕ) → misplaced last [] rows ≡ Some line → misplaced last [] (rows ++ others) ≡ Some line → AsTogether
  unfolding AsTogether input_of lone_head_of
  out_of_place line head whole =
      let wrong : (lines : List Line) → misplaced last [] lines ≡ Some line → sections_of lines ≡ Err (At line UnknownStatement) = λ lines e. rw e refl in
      without_sections sections_of (λ all. with_results) text (rows ++ others) (At line UnknownStatement) all (wrong (rows ++ others) whole)
      ∙ sym (bind-err (lone_head_of bytes) (λ head. with_results head others) (At line (cause.Statements UnknownStatement))
      (without_sections sections_of (λ all. nothing_yet) bytes rows (At line UnknownStatement) are (wrong rows head)))

  pub together : (more : List (List (List ℕ))) → EndsHead rows more → (more ≡ [] → others ≡ []) → misplaced last [] (rows ++ others) ≡ misplaced last [] rows
      → input_of text ≡ (lone_head_of bytes >>= (λ head. with_results head others))
  unfolding AsTogether
  together more ends none same = by (misplaced last [] rows) refl ends
    where
      by : (found : Option ℕ) → misplaced last [] rows ≡ found → EndsHead rows more → AsTogether
      by None is (with_all no_row end) = to_the_end (sym (same_rows rows) ∙ no_row) (none end) is
      by None is (at_results front mark ends no_row begins) = to_results front mark ends (sym (same_rows front) ∙ no_row) (sym (same_row mark.words mark.line) ∙ begins) is (same ∙ is)
      by (Some line) is ends = out_of_place line is (same ∙ is)

results_read : (head : Head) (lines : List Line) (whole : Input) → with_results head lines ≡ Ok whole
    → (whole.head ≡ head) × (results_of head.cluster (moment_of head.journal.events) lines ≡ Ok whole.results)
unfolding with_results
results_read head lines whole e =
    let answers = passed cause.Results (results_of head.cluster (moment_of head.journal.events) lines) _ whole e in
    let made : whole ≡ record { head = head; results = answers.gave } = cc in
    rw made (refl, answers.is)

-- a head that is taken from a text
module _ (text bytes : List ℕ) (next room : ℕ) (is : head_in text ≡ heads.taken bytes next room) where
  pub h : HasHead [] most_bytes 1 (raw_lines text) bytes next room
  h = subst (SaysHead [] most_bytes 1 (raw_lines text)) is (head_is [] most_bytes 1 (raw_lines text) (own_lines text))

  pub cut : IsCut text h.first h.more
  cut = cut_at text h.first h.more h.parts

  abbrev pub behind : List ℕ
  behind = cut.behind

  parts : text ≡ bytes ++ behind
  parts = cut.parts ∙ ap (λ (bs : List ℕ). bs ++ behind) (sym h.text_is)

  abbrev pub rows : List Line
  rows = rows_from 1 h.first

  abbrev pub others : List Line
  others = rows_from next (raw_lines behind)

  pub head_read : reads bytes ≡ Ok rows
  head_read = reads_as bytes h.first (ap raw_lines h.text_is ∙ cut.first) h.clean

  groups : raw_lines text ≡ h.first ++ raw_lines behind
  groups = h.parts ∙ ap (λ (gs : List (List (List ℕ))). h.first ++ gs) (sym cut.rest)

  pub faults_are : faults_from 1 (raw_lines text) ≡ faults_from 1 h.first ++ faults_from next (raw_lines behind)
  faults_are =
      ap (faults_from 1) groups
      ∙ (faults_joined 1 h.first (raw_lines behind) ∙ ap (λ (m : ℕ). faults_from 1 h.first ++ faults_from m (raw_lines behind)) (sym h.number))

  rows_are : rows_from 1 (raw_lines text) ≡ rows ++ others
  rows_are = ap (rows_from 1) groups ∙ (rows_joined 1 h.first (raw_lines behind) ∙ ap (λ (m : ℕ). rows ++ rows_from m (raw_lines behind)) (sym h.number))

  read_all : faults_from next (raw_lines behind) ≡ [] → reads text ≡ Ok (rows ++ others)
  read_all clean = reads_as text (raw_lines text) refl (faults_are ∙ none_first (faults_from 1 h.first) (faults_from next (raw_lines behind)) h.clean clean) ∙ ap Ok rows_are

  pub as_together : faults_from next (raw_lines behind) ≡ [] → misplaced last [] (rows ++ others) ≡ misplaced last [] rows → input_of text ≡ (lone_head_of bytes >>= (λ head. with_results head others))
  as_together clean =
      together bytes text rows others head_read (read_all clean) h.more h.ends (λ none. ap (rows_from next) (cut.rest ∙ none))

  pub rest_is : drop (length bytes) text ≡ behind
  rest_is = ap (drop (length bytes)) parts ∙ drop-append_seam bytes behind

  pub size : length text ≡ length bytes + length (bytes_of (raw_lines behind))
  size = ap (λ (bs : List ℕ). length bs) parts ∙ (length-append bytes behind ∙ ap (λ (bs : List ℕ). length bytes + length bs) (sym (text_bytes behind)))

  pub come_says : (head : Head) → SaysComing head.cluster (moment_of head.journal.events) next [] room (raw_lines behind) (coming_behind text bytes head next room)
  come_says head =
      subst (λ (left : List ℕ). SaysComing head.cluster (moment_of head.journal.events) next [] room (raw_lines behind)
      (coming head.cluster 1048576 room (record { moment = moment_of head.journal.events; before = 0; line = next }) (raw_lines left))) (sym rest_is)
      (coming_is head.cluster (moment_of head.journal.events) room (record { moment = moment_of head.journal.events; before = 0; line = next }) [] (raw_lines behind) (own_lines behind)
      (let same : moment_of head.journal.events ≡ moment_of head.journal.events + 0 = omega arith in same) refl)

  -- of a text within the limit no line behind the head goes past it
  pub not_past : room < length (bytes_of (raw_lines behind)) → length text ≤ most_bytes → ⊥
  not_past over fits =
      let front = h.within in
      let bytes_size = ap (λ (bs : List ℕ). length bs) h.text_is in
      let left = h.room_is in
      omega (arith, front, bytes_size, left, over, size, fits)

  -- it is read, and behind it no line is refused or goes past the limit
  module _ (head : Head) (says : lone_head_of bytes ≡ Ok head) (none : (coming_behind text bytes head next room).stop ≡ None) where
    answers : AreResults head.cluster (moment_of head.journal.events) next [] room (raw_lines behind) (coming_behind text bytes head next room).results
    answers =
        subst (SaysStop head.cluster (moment_of head.journal.events) next [] room (raw_lines behind) (coming_behind text bytes head next room).results) none (come_says head)

    placed : misplaced last [] rows ≡ None
    unfolding lone_head_of
    placed =
        let found = has_sections sections_of (λ all. nothing_yet) bytes head says in
        in_place rows found.marks (subst (λ (ls : List Line). sections_of ls ≡ Ok found.marks) (same_ok found.lines rows (sym found.are ∙ head_read)) found.placed)

    all_in_place : misplaced last [] (rows ++ others) ≡ None
    all_in_place =
        misplaced_joined last [] rows others placed
        (all_placed last rows others (plain_results head.cluster (moment_of head.journal.events) [] others (coming_behind text bytes head next room).results answers.read))

    pub is_input : ReadsInput text (record { head = head; results = (coming_behind text bytes head next room).results })
    unfolding with_results
    is_input =
        let read = answers.read in
        as_together answers.clean (all_in_place ∙ sym placed)
        ∙ (ap (λ (read : Result Head (Fault InputCause)). read >>= (λ head. with_results head others)) says ∙ rw read refl)

    pub fits : length text ≤ most_bytes
    fits =
        let front = h.within in
        let bytes_size = ap (λ (bs : List ℕ). length bs) h.text_is in
        let left = h.room_is in
        let within = answers.within in
        omega (arith, front, bytes_size, left, within, size)

-- an input that is read, within the limit
module _ (text : List ℕ) (whole : Input) (r : ReadsInput text whole) (fits : length text ≤ most_bytes) where
  all : HasSections sections_of text
  unfolding input_of
  all = has_sections sections_of (λ all. with_results) text whole r

  clean : faults_from 1 (raw_lines text) ≡ []
  clean = (are_read text all.lines all.are).clean

  module _ (bytes : List ℕ) (next room : ℕ) (is : head_in text ≡ heads.taken bytes next room) where
    clean_behind : faults_from next (raw_lines (behind text bytes next room is)) ≡ []
    clean_behind = (both_none (faults_from 1 (h text bytes next room is).first) _ (sym (faults_are text bytes next room is) ∙ clean)).1

    read_lines : all.lines ≡ rows text bytes next room is ++ others text bytes next room is
    read_lines = same_ok _ _ (sym all.are ∙ read_all text bytes next room is clean_behind)

    placed_all : misplaced last [] (rows text bytes next room is ++ others text bytes next room is) ≡ None
    placed_all = subst (λ (ls : List Line). misplaced last [] ls ≡ None) read_lines (in_place all.lines all.marks all.placed)

    begins : (lone_head_of bytes >>= (λ head. with_results head (others text bytes next room is))) ≡ Ok whole
    begins =
        let front = (misplaced_parts last [] (rows text bytes next room is) (others text bytes next room is) placed_all).0 in
        sym (as_together text bytes next room is clean_behind (placed_all ∙ sym front)) ∙ r

    ended : (head : Head) → results_of head.cluster (moment_of head.journal.events) (others text bytes next room is) ≡ Ok whole.results
        → coming_behind text bytes head next room ≡ record { results = whole.results; stop = None }
    ended head read = by (coming_behind text bytes head next room).stop refl (come_says text bytes next room is head)
      where
        by : (w : Option LineStop) → (coming_behind text bytes head next room).stop ≡ w
            → SaysStop head.cluster (moment_of head.journal.events) next [] room (raw_lines (behind text bytes next room is)) (coming_behind text bytes head next room).results w
            → coming_behind text bytes head next room ≡ record { results = whole.results; stop = None }
        by None none a =
            let same : (coming_behind text bytes head next room).results ≡ whole.results = same_ok _ _ (sym a.read ∙ read) in
            ap (λ (rs : List ResultLine). record { results = rs; stop = (coming_behind text bytes head next room).stop }) same
            ∙ ap (λ (w : Option LineStop). record { results = whole.results; stop = w }) none
        by (Some (stop.Refused line (of_line.Words why))) w fault =
            absurd (let f : None ≡ Some (At line why) = ap first_lex_fault (sym clean_behind) ∙ fault in let no : ⊥ = cc in no)
        by (Some (stop.Refused line (of_line.Form why))) w fault = absurd (let f : Ok whole.results ≡ Err (At line why) = sym read ∙ fault clean_behind in let no : ⊥ = cc in no)
        by (Some stop.TooLarge) w over = absurd (not_past text bytes next room is over fits)
        by (Some stop.ReadFault) w none = absurd none

    line_by_line : ComesLineByLine text whole
    line_by_line =
        let (head, says, read) = bind-ok (lone_head_of bytes) (λ head. with_results head (others text bytes next room is)) whole begins in
        let found = results_read head (others text bytes next room is) whole read in
        let same : head ≡ whole.head = sym found.0 in
        record {
          bytes = bytes;
          next = next;
          room = room;
          begun = record { is = is; says = says ∙ ap Ok same };
          all = subst (λ (head : Head). coming_behind text bytes head next room ≡ record { results = whole.results; stop = None }) same (ended head found.1);
        }

  pub comes : ComesLineByLine text whole
  comes = by (head_in text) refl (head_is [] most_bytes 1 (raw_lines text) (own_lines text))
    where
      by : (verdict : heads.HeadFound) → head_in text ≡ verdict → SaysHead [] most_bytes 1 (raw_lines text) verdict → ComesLineByLine text whole
      by (heads.taken bytes next room) is says = line_by_line bytes next room is
      by (heads.refused line why) is fault = absurd (let f : None ≡ Some (At line fault.lack) = ap first_lex_fault (sym clean) ∙ fault.first in let no : ⊥ = cc in no)
      by heads.too_large is over = let bytes_size = ap (λ (bs : List ℕ). length bs) (text_bytes text) in absurd (omega (arith, over, bytes_size, fits))

-- and the other way round
pub came_whole : (text : List ℕ) (whole : Input) → ComesLineByLine text whole → (ReadsInput text whole) × (length text ≤ most_bytes)
came_whole text whole came =
    let ended : (coming_behind text came.bytes whole.head came.next came.room).stop ≡ None = ap (λ (c : Coming). c.stop) came.all in
    let read = is_input text came.bytes came.next came.room came.begun.is whole.head came.begun.says ended in (
      subst (λ (c : Coming). ReadsInput text (record { head = whole.head; results = c.results })) came.all read,
      fits text came.bytes came.next came.room came.begun.is whole.head came.begun.says ended,
    )
