-- The answers that come of an input line by line are those that are read of a front of it.
use Rattle.std.proofs.Common.{arith, ◌≡◌, ◌≤◌, ◌+◌, ◌-◌, ℕ, List, [], ◌∷◌, ◌++◌, length, length-append, drop, codes, Result, Ok, Err, append_assoc, refl, sym, ap, subst, ◌∙◌}
use Rattle.std.specs.Prelude.{None}
use Rattle.std.specs.List.{concat}
use Rattle.std.proofs.lemmas.List.Concat.{flat_map-append}
use Rattle.cluster_io.specs.NextLine.{line_answer}
use Rattle.cluster_io.specs.declared.line_step.LineStep.{LineStep}
use Rattle.cluster_io.specs.declared.line_step.LineStep.TheVariants as step
use Rattle.cluster_types.specs.declared.cluster.Cluster.{Cluster}
use Rattle.cluster_types.specs.declared.journal.Answer.{Answer}
use Rattle.cluster_types.specs.AnswersThatApply.{seconds_in}
use Rattle.cluster_types.specs.Journals.{moment_of}
use Rattle.crm_lex.specs.RawLines.{raw_lines}
use Rattle.crm_lex.specs.Reading.{faults_from, reads, reads_line, rows_from}
use Rattle.crm_lex.specs.declared.fault.LexCause.{LexCause}
use Rattle.crm_lex.specs.declared.line.Line.{Line}
use Rattle.crm_lex.proofs.FaultOrder.{count_lines}
use Rattle.crm_lex.proofs.Pieces.{AllOwn, own_lines}
use Rattle.crm_parse.specs.Marks.{misplaced, sections_of}
use Rattle.crm_parse.proofs.Unmarked.{all_placed}
use Rattle.faults.specs.declared.fault.Fault.{Fault}
use Rattle.faults.specs.Reading.{◌>>=◌}
use Rattle.input_reading.specs.declared.history_fault.ResultCause.{ResultCause}
use Rattle.input_reading.specs.declared.input.cause.InputCause.{InputCause}
use Rattle.input_reading.specs.declared.input.reading.Head.{Head}
use Rattle.input_reading.specs.Reading.{ReadsInput, longest_line, lone_head_of, most_bytes, nothing_yet, with_results}
use Rattle.input_reading.specs.Results.{result_of}
use Rattle.live_run.specs.AnswersToCome.{Coming, coming, result_first}
use Rattle.live_run.specs.Heads as heads
use Rattle.live_run.specs.SourceFollowed.{bytes_of}
use Rattle.live_run.proofs.ComingRead.{AreResults, SaysComing, coming_is}
use Rattle.live_run.proofs.HeadRead.{HasHead}
use Rattle.live_run.proofs.LinesJoined.{IsCut, both_none, cut_at, faults_joined, none_first, reads_as, rows_joined}
use Rattle.sim_core.specs.Replay.{coming_behind, head_in}
use Rattle.sim_core.proofs.InputAgain as input
use Rattle.sim_core.proofs.InputSteps.{has_sections}
use Rattle.sim_core.proofs.PlainResults.{plain_results}
use Rattle.sim_core.proofs.TraceSections.{misplaced_joined}

-- the first of some lines alone bring the answers of all, and no line of them is refused or goes past the limit
pub record BringTheSame (c : Cluster) (longest moment before line room : ℕ) (groups : List (List (List ℕ))) : Type 0 where
  pub first : List (List (List ℕ))
  pub more : List (List (List ℕ))
  pub parts : groups ≡ first ++ more
  pub same : coming c longest room (record { moment = moment; before = before; line = line }) first
      ≡ record { results = (coming c longest room (record { moment = moment; before = before; line = line }) groups).results; stop = None }

module _ (c : Cluster) (longest moment before line room : ℕ) (group : List (List ℕ)) (groups : List (List (List ℕ))) where
  -- of the lines behind the first
  abbrev Later : Type 0
  Later = (moment before line : ℕ) → BringTheSame c longest moment before line (room - length (concat group)) groups

  abbrev All : Type 0
  All = BringTheSame c longest moment before line room (group ∷ groups)

  of_answer : (word : List ℕ) (words : List (List ℕ)) (read : Result Answer (Fault ResultCause)) → line_answer room longest group ≡ step.Line → reads_line line (concat group) ≡ Ok (word ∷ words)
      → result_of c moment before line (word ∷ words) ≡ read → Later → All
  of_answer word words (Ok given) size cut is later =
      let f = later (moment + seconds_in given) (before + 1) (line + length group) in
      record {
        first = group ∷ f.first;
        more = f.more;
        parts = ap (λ (gs : List (List (List ℕ))). group ∷ gs) f.parts;
        same = rw (size, cut, is) (ap (λ (others : Coming). result_first (record { line = line; answer = given }) others) f.same);
      }
  of_answer word words (Err fault) size cut is later = record { first = []; more = group ∷ groups; parts = refl; same = rw (size, cut, is) refl }

  of_words : (read : Result (List (List ℕ)) (Fault LexCause)) → line_answer room longest group ≡ step.Line → reads_line line (concat group) ≡ read → Later → All
  of_words (Ok []) size cut later =
      let f = later moment before (line + length group) in
      record { first = group ∷ f.first; more = f.more; parts = ap (λ (gs : List (List (List ℕ))). group ∷ gs) f.parts; same = rw (size, cut) f.same }
  of_words (Ok (word ∷ words)) size cut later = of_answer word words (result_of c moment before line (word ∷ words)) size cut refl later
  of_words (Err fault) size cut later = record { first = []; more = group ∷ groups; parts = refl; same = rw (size, cut) refl }

  of_size : (size : LineStep) → line_answer room longest group ≡ size → Later → All
  of_size step.Line is later = of_words (reads_line line (concat group)) is refl later
  of_size step.TooLong is later = record { first = []; more = group ∷ groups; parts = refl; same = rw is refl }
  of_size step.TooLarge is later = record { first = []; more = group ∷ groups; parts = refl; same = rw is refl }
  of_size step.End is later = record { first = []; more = group ∷ groups; parts = refl; same = rw is refl }
  of_size step.Failed is later = record { first = []; more = group ∷ groups; parts = refl; same = rw is refl }

first_lines : (c : Cluster) (longest moment before line room : ℕ) (groups : List (List (List ℕ))) → BringTheSame c longest moment before line room groups
first_lines c longest moment before line room [] = record { first = []; more = []; parts = refl; same = refl }
first_lines c longest moment before line room (group ∷ groups) =
    of_size c longest moment before line room group groups (line_answer room longest group) refl
    (λ (m b l : ℕ). first_lines c longest m b l (room - length (concat group)) groups)

-- the front of an input whose head is read: its head, and the first lines behind it
module _ (text bytes : List ℕ) (next room : ℕ) (is : head_in text ≡ heads.taken bytes next room) (head : Head) (says : lone_head_of bytes ≡ Ok head) where
  abbrev pub h : HasHead [] most_bytes 1 (raw_lines text) bytes next room
  h = input.h text bytes next room is

  pub f : BringTheSame head.cluster longest_line (moment_of head.journal.events) 0 next room (raw_lines (drop (length bytes) text))
  f = first_lines head.cluster longest_line (moment_of head.journal.events) 0 next room (raw_lines (drop (length bytes) text))

  own_first : AllOwn f.first
  own_first = subst AllOwn (cut_at (drop (length bytes) text) f.first f.more f.parts).first (own_lines (bytes_of f.first))

  answers : AreResults head.cluster (moment_of head.journal.events) next [] room f.first (coming_behind text bytes head next room).results
  answers =
      subst (λ (come : Coming). SaysComing head.cluster (moment_of head.journal.events) next [] room f.first come) f.same
      (coming_is head.cluster (moment_of head.journal.events) room (record { moment = moment_of head.journal.events; before = 0; line = next }) [] f.first own_first
      (let same : moment_of head.journal.events ≡ moment_of head.journal.events + 0 = omega arith in same) refl)

  more_is : h.more ≡ f.first ++ f.more
  more_is = sym (ap raw_lines (input.rest_is text bytes next room is) ∙ (input.cut text bytes next room is).rest) ∙ f.parts

  front : IsCut text (h.first ++ f.first) f.more
  front =
      cut_at text (h.first ++ f.first) f.more
      (h.parts ∙ (ap (λ (gs : List (List (List ℕ))). h.first ++ gs) more_is ∙ sym (append_assoc h.first f.first f.more)))

  abbrev pub front_text : List ℕ
  front_text = bytes_of (h.first ++ f.first)

  abbrev rows : List Line
  rows = rows_from 1 h.first

  abbrev others : List Line
  others = rows_from next f.first

  read : reads front_text ≡ Ok (rows ++ others)
  read =
      reads_as front_text (h.first ++ f.first) front.first
      (faults_joined 1 h.first f.first
      ∙ none_first (faults_from 1 h.first) (faults_from (1 + count_lines h.first) f.first) h.clean (subst (λ (n : ℕ). faults_from n f.first ≡ []) h.number answers.clean))
      ∙ ap Ok (rows_joined 1 h.first f.first ∙ ap (λ (n : ℕ). rows ++ rows_from n f.first) (sym h.number))

  placed : misplaced (codes "%results") [] rows ≡ None
  unfolding lone_head_of
  placed =
      let found = has_sections sections_of (λ all. nothing_yet) bytes head says in
      input.in_place rows found.marks (subst (λ (ls : List Line). sections_of ls ≡ Ok found.marks) (input.same_ok found.lines rows (sym found.are ∙ input.head_read text bytes next room is)) found.placed)

  all_in_place : misplaced (codes "%results") [] (rows ++ others) ≡ None
  all_in_place =
      misplaced_joined (codes "%results") [] rows others placed
      (all_placed (codes "%results") rows others
      (plain_results head.cluster (moment_of head.journal.events) [] others (coming_behind text bytes head next room).results answers.read))

  pub front_is_input : ReadsInput front_text (record { head = head; results = (coming_behind text bytes head next room).results })
  unfolding with_results
  front_is_input =
      let answered = answers.read in
      input.together bytes front_text rows others (input.head_read text bytes next room is) read h.more h.ends
      (λ none. ap (rows_from next) (both_none f.first f.more (sym more_is ∙ none)).0) (all_in_place ∙ sym placed)
      ∙ (ap (λ (found : Result Head (Fault InputCause)). found >>= (λ head. with_results head others)) says ∙ rw answered refl)

  pub front_fits : length front_text ≤ most_bytes
  front_fits =
      let size = ap (λ (bs : List ℕ). length bs) (flat_map-append concat h.first f.first) in
      let joint = length-append (bytes_of h.first) (bytes_of f.first) in
      let within = h.within in
      let left = h.room_is in
      let behind = answers.within in
      omega (arith, size, joint, within, left, behind)
