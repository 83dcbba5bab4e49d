-- What is to come of lines behind a head says what is read of them all.
use Rattle.std.proofs.Common.{arith, ◌≡◌, ◌<◌, ◌≤◌, ◌+◌, ◌-◌, ℕ, Bool, true, false, if◌then◌else◌, List, [], ◌∷◌, ◌++◌, length, length-append, Result, Ok, Err, append_assoc, append-nil, refl, sym, ap, subst, ◌∙◌}
use Rattle.std.specs.Prelude.{Option, Some, None, nat_lt}
use Rattle.std.specs.List.{concat}
use Rattle.std.proofs.lemmas.List.Sums.{sum_by-append}
use Rattle.cluster_io.specs.NextLine.{line_answer}
use Rattle.cluster_io.specs.declared.line_step.LineStep.{LineStep}
use Rattle.cluster_io.specs.declared.line_step.LineStep.TheVariants as step
use Rattle.cluster_types.specs.declared.cluster.Cluster.{Cluster}
use Rattle.cluster_types.specs.declared.journal.Answer.{Answer}
use Rattle.cluster_types.specs.AnswersThatApply.{seconds_in}
use Rattle.crm_lex.specs.LogicalLines.{faults, line_text}
use Rattle.crm_lex.specs.RawLines.{physical_lines}
use Rattle.crm_lex.specs.Reading.{faults_from, first_lex_fault, rows_from}
use Rattle.crm_lex.specs.Words.{words_of}
use Rattle.crm_lex.specs.declared.fault.LexCause.{LexCause}
use Rattle.crm_lex.proofs.Pieces.{AllOwn}
use Rattle.faults.specs.declared.fault.Fault.{Fault}
use Rattle.faults.specs.declared.fault.Fault.TheVariants.{At, NoMemory}
use Rattle.faults.specs.Reading.{faulting, on_line, unless}
use Rattle.input_reading.specs.declared.history_fault.ResultCause.{ResultCause}
use Rattle.input_reading.specs.declared.history_fault.ResultCause.TheVariants as of_result
use Rattle.input_reading.specs.declared.results.result_lines.ResultLine.{ResultLine}
use Rattle.input_reading.specs.declared.words.word_cause.WordCause.{WordCause}
use Rattle.input_reading.specs.Results.{answer_of, moment_after, most_results, result_of, with_result, with_result_lines}
use Rattle.input_reading.proofs.Faults.{StandsAt, first_group}
use Rattle.live_run.specs.AnswersToCome.{Coming, coming, said_first}
use Rattle.live_run.specs.LineSays.{answer_says, place_behind_said, read_says, sized_says, words_say}
use Rattle.live_run.specs.declared.line_stop.LineCause.TheVariants as cause
use Rattle.live_run.specs.declared.line_stop.LineStop.{LineStop}
use Rattle.live_run.specs.declared.line_stop.LineStop.TheVariants as stop
use Rattle.live_run.specs.declared.place.Place.{Place}
use Rattle.live_run.specs.declared.line_saying.Said.{Said}
use Rattle.live_run.specs.declared.line_saying.Said.TheVariants as said
use Rattle.live_run.proofs.HeadRead.{SaysSize, fault_behind, line_read, size_says}
use Rattle.live_run.specs.SourceFollowed.{bytes_of}
use Rattle.live_run.proofs.LinesJoined.{both_none, none_first}

-- some lines lie within the limit and have no fault, and are read as these results behind others
pub record AreResults (c : Cluster) (start n : ℕ) (so_far : List ResultLine) (room : ℕ) (groups : List (List (List ℕ))) (results : List ResultLine) : Type 0 where
  pub within : length (bytes_of groups) ≤ room
  pub clean : faults_from n groups ≡ []
  pub read : with_result_lines c start so_far (rows_from n groups) ≡ Ok (so_far ++ results)

-- by why no more come of lines: they are read; they have this first fault of words; one is no answer, where all have words; or they don't lie within the limit
module _ (c : Cluster) (start n : ℕ) (so_far : List ResultLine) (room : ℕ) (groups : List (List (List ℕ))) where
  abbrev pub SaysStop : List ResultLine → Option LineStop → Type 0
  SaysStop results None = AreResults c start n so_far room groups results
  SaysStop results (Some (stop.Refused line (cause.Words why))) = first_lex_fault (faults_from n groups) ≡ Some (At line why)
  SaysStop results (Some (stop.Refused line (cause.Form why))) = faults_from n groups ≡ [] → with_result_lines c start so_far (rows_from n groups) ≡ Err (At line why)
  SaysStop results (Some stop.TooLarge) = room < length (bytes_of groups)
  SaysStop results (Some stop.ReadFault) = ⊥

  abbrev pub SaysComing : Coming → Type 0
  SaysComing come = SaysStop come.results come.stop

-- a result line is refused at a line
abbrev IsAtLine : Result Answer (Fault ResultCause) → Type 0
IsAtLine (Ok given) = Unit {0}
IsAtLine (Err (At line why)) = Unit {0}
IsAtLine (Err NoMemory) = ⊥

at_line : (c : Cluster) (moment before line : ℕ) (words : List (List ℕ)) → IsAtLine (result_of c moment before line words)
at_line c moment before line words = by (nat_lt before most_results) (answer_of c moment words)
  where
    by : (few : Bool) (read : Result Answer WordCause) → IsAtLine (if few then faulting of_result.Form (on_line line read) else Err (At line of_result.TooManyResults))
    by true (Ok given) = tt
    by true (Err why) = tt
    by false read = tt

module _ (c : Cluster) (start room : ℕ) (at : Place) (so_far : List ResultLine) (group : List (List ℕ)) (groups : List (List (List ℕ))) (moment : at.moment ≡ moment_after start so_far)
    (before : at.before ≡ length so_far) where
  -- what comes of the lines behind the first, where that says this
  abbrev behind : Said → Coming
  behind s = coming c 1048576 (room - length (concat group)) (place_behind_said at s (length group)) groups

  abbrev Later : Type 0
  Later = (to : Place) (more : List ResultLine) → to.moment ≡ moment_after start more → to.before ≡ length more
      → SaysComing c start to.line more (room - length (concat group)) groups (coming c 1048576 (room - length (concat group)) to groups)

  abbrev All : Said → Type 0
  All s = SaysComing c start at.line so_far room (group ∷ groups) (said_first at s (behind s))

  room_for : length (concat group) ≤ room → length (bytes_of groups) ≤ room - length (concat group) → length (bytes_of (group ∷ groups)) ≤ room
  room_for fits rest = let size = length-append (concat group) (bytes_of groups) in omega (arith, fits, rest, size)

  over : room - length (concat group) < length (bytes_of groups) → room < length (bytes_of (group ∷ groups))
  over large = let size = length-append (concat group) (bytes_of groups) in omega (arith, large, size)

  both_clean : faults at.line group ≡ [] → faults_from (at.line + length group) groups ≡ [] → faults_from at.line (group ∷ groups) ≡ []
  both_clean = none_first (faults at.line group) (faults_from (at.line + length group) groups)

  clean_behind : faults_from at.line (group ∷ groups) ≡ [] → faults_from (at.line + length group) groups ≡ []
  clean_behind clean = (both_none (faults at.line group) (faults_from (at.line + length group) groups) clean).1

  -- a line without words
  nothing : length (concat group) ≤ room → words_of (line_text group) ≡ [] → faults at.line group ≡ [] → (come : Coming) → SaysComing c start (at.line + length group) so_far (room - length (concat group)) groups come
      → SaysComing c start at.line so_far room (group ∷ groups) come
  nothing fits same clean come h = by come.stop h
    where
      by : (w : Option LineStop) → SaysStop c start (at.line + length group) so_far (room - length (concat group)) groups come.results w
          → SaysStop c start at.line so_far room (group ∷ groups) come.results w
      by None h = record { within = room_for fits h.within; clean = both_clean clean h.clean; read = rw same h.read }
      by (Some (stop.Refused line (cause.Words why))) h = fault_behind (faults at.line group) (faults_from (at.line + length group) groups) line why clean h
      by (Some (stop.Refused line (cause.Form why))) h = λ all. rw same (h (clean_behind all))
      by (Some stop.TooLarge) h = over h
      by (Some stop.ReadFault) h = h

  -- a line that is an answer
  abbrev one : Answer → ResultLine
  one given = record { line = at.line; answer = given }

  answered : (word : List ℕ) (words : List (List ℕ)) (given : Answer) → length (concat group) ≤ room → words_of (line_text group) ≡ word ∷ words → faults at.line group ≡ []
      → with_result c start so_far (record { line = at.line; words = word ∷ words }) ≡ Ok (so_far ++ one given ∷ []) → (come : Coming)
      → SaysComing c start (at.line + length group) (so_far ++ one given ∷ []) (room - length (concat group)) groups come
      → SaysComing c start at.line so_far room (group ∷ groups) (record { results = one given ∷ come.results; stop = come.stop })
  answered word words given fits same clean first come h = by come.stop h
    where
      by : (w : Option LineStop) → SaysStop c start (at.line + length group) (so_far ++ one given ∷ []) (room - length (concat group)) groups come.results w
          → SaysStop c start at.line so_far room (group ∷ groups) (one given ∷ come.results) w
      by None h = record { within = room_for fits h.within; clean = both_clean clean h.clean; read = rw (same, first) (h.read ∙ ap Ok (append_assoc so_far (one given ∷ []) come.results)) }
      by (Some (stop.Refused line (cause.Words why))) h = fault_behind (faults at.line group) (faults_from (at.line + length group) groups) line why clean h
      by (Some (stop.Refused line (cause.Form why))) h = λ all. rw (same, first) (h (clean_behind all))
      by (Some stop.TooLarge) h = over h
      by (Some stop.ReadFault) h = h

  -- by its answer
  of_answer : (word : List ℕ) (words : List (List ℕ)) (read : Result Answer (Fault ResultCause)) → IsAtLine read → length (concat group) ≤ room → words_of (line_text group) ≡ word ∷ words → faults at.line group ≡ []
      → result_of c at.moment at.before at.line (word ∷ words) ≡ read → Later → All (answer_says read)
  of_answer word words (Ok given) stands fits same clean read later =
      let joint = sum_by-append (λ (result : ResultLine). seconds_in result.answer) so_far (one given ∷ []) in
      let size = length-append so_far (one given ∷ []) in
      let to : Place = record { moment = at.moment + seconds_in given; before = at.before + 1; line = at.line + length group } in
      let here : result_of c (moment_after start so_far) (length so_far) at.line (word ∷ words) ≡ Ok given
      = subst (λ (m : ℕ). result_of c m (length so_far) at.line (word ∷ words) ≡ Ok given) moment
      (subst (λ (m : ℕ). result_of c at.moment m at.line (word ∷ words) ≡ Ok given) before read) in
      answered word words given fits same clean (rw here refl) (behind (said.Answer given)) (later to (so_far ++ one given ∷ []) (omega (arith, moment, joint)) (omega (arith, before, size)))
  of_answer word words (Err (At line why)) stands fits same clean read later =
      let here : result_of c (moment_after start so_far) (length so_far) at.line (word ∷ words) ≡ Err (At line why)
      = subst (λ (m : ℕ). result_of c m (length so_far) at.line (word ∷ words) ≡ Err (At line why)) moment
      (subst (λ (m : ℕ). result_of c at.moment m at.line (word ∷ words) ≡ Err (At line why)) before read) in
      λ all. rw (same, here) refl
  of_answer word words (Err NoMemory) stands fits same clean read later = absurd stands

  -- by its words
  of_said : (words : List (List ℕ)) → length (concat group) ≤ room → words_of (line_text group) ≡ words → faults at.line group ≡ [] → Later → All (words_say c at words)
  of_said [] fits same clean later =
      nothing fits same clean (behind said.Nothing) (later (record { moment = at.moment; before = at.before; line = at.line + length group }) so_far moment before)
  of_said (word ∷ words) fits same clean later =
      of_answer word words (result_of c at.moment at.before at.line (word ∷ words)) (at_line c at.moment at.before at.line (word ∷ words)) fits same clean refl later

  of_found : (found : List (Fault LexCause)) → length (concat group) ≤ room → faults at.line group ≡ found → Later → All (read_says c at (unless (first_lex_fault found) (words_of (line_text group))))
  of_found [] fits clean later = of_said (words_of (line_text group)) fits refl clean later
  of_found (At line why ∷ found) fits is later = rw is refl
  of_found (NoMemory ∷ found) fits is later = absurd (subst (λ (faults : List (Fault LexCause)). StandsAt (first_lex_fault faults)) is (first_group at.line group))

  -- by its size
  of_length : (size : LineStep) → SaysSize room group size → physical_lines (concat group) ≡ group → Later → All (sized_says c at size group)
  of_length step.Line s own later = subst (λ (read : _). All (read_says c at read)) (sym (line_read at.line group own)) (of_found (faults at.line group) s refl later)
  of_length step.TooLong s own later = s at.line (faults_from (at.line + length group) groups)
  of_length step.TooLarge s own later = let size = length-append (concat group) (bytes_of groups) in omega (arith, s, size)
  of_length step.End s own later = absurd s
  of_length step.Failed s own later = absurd s

pub coming_is : (c : Cluster) (start room : ℕ) (at : Place) (so_far : List ResultLine) (groups : List (List (List ℕ))) → AllOwn groups → at.moment ≡ moment_after start so_far
    → at.before ≡ length so_far → SaysComing c start at.line so_far room groups (coming c 1048576 room at groups)
coming_is c start room at so_far [] own moment before = record { within = omega arith; clean = refl; read = ap Ok (sym (append-nil so_far)) }
coming_is c start room at so_far (group ∷ groups) own moment before =
    of_length c start room at so_far group groups moment before (line_answer room 1048576 group) (size_says room group) own.0
    (λ (to : Place) (more : List ResultLine). coming_is c start (room - length (concat group)) to more groups own.1)
