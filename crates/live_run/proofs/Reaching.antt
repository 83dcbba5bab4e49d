-- What a run over result lines has read and written at each of its ends.
use Rattle.std.proofs.Common.{◌≡◌, ◌≢◌, ◌⊎◌, ◌↔◌, inl, inr, ℕ, ◌-◌, ◌≤◌, Bool, true, false, Option, Some, None, Result, Ok, Err, List, [], ◌∷◌, ◌++◌, is_none, map, option_map, IfSome, length, append_assoc, append-nil, refl, ap, sym, subst, ◌∙◌, arith}
use Rattle.std.proofs.lemmas.Grind.{flat_map-append}
use Rattle.std.proofs.lemmas.List.{append_cancel_right, map-append}
use Rattle.std.proofs.lemmas.Option.{same_Some}
use Rattle.cluster_io.specs.NextLine.{IsUndecided}
use Rattle.cluster_io.specs.Readings.{Reading}
use Rattle.cluster_io.specs.Streams.{Adds, AddsPrefix}
use Rattle.cluster_io.specs.declared.sink.WriteFault.{WriteFault}
use Rattle.cluster_types.specs.declared.cluster.Cluster.{Cluster}
use Rattle.cluster_types.specs.declared.journal.Answer.{Answer}
use Rattle.cluster_types.specs.declared.journal.Event.{Event}
use Rattle.cluster_types.specs.declared.journal.Journal.{Journal}
use Rattle.cluster_types.specs.declared.run.RunLine.{RunLine}
use Rattle.cluster_types.specs.declared.run.RunLine.TheVariants as line
use Rattle.cluster_types.specs.Journals.{moment_of}
use Rattle.cluster_types.specs.Runs.{RunStanding, due, amid, idle, Runs, here, IsAsking, IsBetween, IsOver, IsRunSoFar, IsStoppedRun, IsWholeRun}
use Rattle.cluster_types.specs.Texts.{run_line}
use Rattle.crm_lex.specs.RawLines.{raw_lines}
use Rattle.live_run.specs.AnswersToCome.{Coming, coming, no_more}
use Rattle.live_run.specs.Courses.{SourceState, answers_to_come, in_course, rest_of, starting, stop_of, coming_to, told_by, whole_of, why_stopped}
use Rattle.live_run.specs.SourceFollowed.{AreNear, NoneOrLastSays, SourceFollows, HasBroken, HasQuestionFailed, HasStopped, SourceView, by_line, by_source, bytes_of, results_first, said_by}
use Rattle.live_run.specs.LineSays.{is_last}
use Rattle.live_run.specs.LineCauses.{line_refusal_text}
use Rattle.live_run.specs.Inner.Fronts.{adds_none, front_prefix, prefix_first, short_behind, short_first, whole_prefix}
use Rattle.live_run.proofs.Written.{all_left, all_out, none_left}
use Rattle.live_run.specs.declared.course.Course.{Course}
use Rattle.live_run.specs.declared.course.Course.TheVariants as course
use Rattle.live_run.specs.declared.line_stop.LineStop.{LineStop}
use Rattle.live_run.specs.declared.line_stop.LineStop.TheVariants as why
use Rattle.live_run.specs.Ends.{AsksForMore, EndGets, IsDueEnd, WholeRunGives, run_lines_text}
use Rattle.live_run.specs.RunReached.{HasReadFailed, HasSinkFailed, ReachesEnd, of_held_back, in_run, of_refusal, of_unexpected, results_behind}
use Rattle.live_run.specs.Inner.RunEnds.{EndsLines, end_as}
use Rattle.live_run.specs.declared.live_end.LiveEnd.{LiveEnd}
use Rattle.live_run.specs.declared.live_end.LiveEnd.TheVariants as end
use Rattle.live_run.proofs.Behind.{answer_in}
use Rattle.live_run.proofs.Dues.{begins_due, one_end}
use Rattle.input_reading.specs.declared.results.result_lines.ResultLine.{ResultLine}
use Rattle.graph_exec.specs.Replays.{setting, sight}
use Rattle.live_run.specs.HeldAndWritten.{WritesInPart, GoesOut, Puts, PutsLast, last_text, most_held}
use Rattle.graph_exec.specs.Replays as replays
use Rattle.graph_exec.specs.RunEnds.{in_failure, unexpected, with_all}
use Rattle.run_safety.specs.TwoRuns.{IsFront, at_first}
use Rattle.run_safety.proofs.Between.{ends_between}
use Rattle.live_run.proofs.Given.{CutBy, cut_by, given_by}
use Rattle.run_safety.proofs.Silent.{not_over}
use Rattle.run_safety.proofs.SoFar.{runs_more}

-- what was held back has left, or a front of it
front_of : (text : List ℕ) (old new : Option (List ℕ)) → WritesInPart text [] old new → AddsPrefix text old new
front_of text old new short = subst (λ (t : List ℕ). AddsPrefix t old new) (append-nil text) short.front

module _ (c : Cluster) (journal : Journal) (reading : Reading) where
  abbrev start : SourceState
  start = starting c (moment_of journal.events) reading

  -- the whole run
  whole_by : (coming : Coming) (lines : List RunLine) (left : List Event) → IsWholeRun c journal.promotions (is_none coming.stop) journal.events (Some (answers_to_come coming)) lines left
      → WholeRunGives c journal coming lines
  whole_by coming lines left run = by coming.stop refl
    where
      by : (w : Option LineStop) → coming.stop ≡ w → WholeRunGives c journal coming lines
      by None e = record {
        journal_now = left;
        all = e;
        run = subst (λ z. IsWholeRun c journal.promotions (is_none z) journal.events (Some (answers_to_come coming)) lines left) e run;
      }
      by (Some w) e =
          not_over c journal.promotions journal.events left (Some (answers_to_come coming)) lines tt
          (subst (λ z. IsWholeRun c journal.promotions (is_none z) journal.events (Some (answers_to_come coming)) lines left) e run)

  module _ (before after old new : Option (List ℕ)) (t : SourceState) (was is : Bool) where
    abbrev along : replays.Setting
    along = setting c journal.promotions (whole_of (told_by start before)) true

    abbrev reaches : LiveEnd → Type 0
    reaches how = IfSome before (λ left. ReachesEnd c journal reading left after old new how)

  -- what the writer has come to says what was written
  module _ (Follows : List RunLine → Type 0) (Stopped : List RunLine → Option RunLine → Type 0) (most : ℕ) where
    abbrev Tells : Option (List ℕ) → Option (List ℕ) → List ℕ → Type 0
    Tells old new held = (lines : List RunLine) → Follows lines → GoesOut (run_lines_text c lines) [] held old new

    -- where nothing is to be done, it stands between two transitions
    over_between : (whole : Bool) (at : RunStanding) (rest : Option (List Answer)) → IsOver c journal.promotions whole at rest → IsBetween at
    over_between whole (due k es) rest over = tt
    over_between whole (amid k u since) rest over = absurd over
    over_between whole (idle k es) rest over = tt

    -- the sink fails where the run stands and rests, and no line was asked for since
    rest_cut : (left : List ℕ) (after old new : Option (List ℕ)) (t : SourceState) → SourceFollows start t (Some left) after → (lines : List RunLine) (at : RunStanding)
        → Runs c journal.promotions (is_none (results_behind c journal reading left).stop) (due 1 journal.events) (Some (answers_to_come (results_behind c journal reading left))) lines at
        (rest_of (told_by t after))
        → IsAsking at ⊎ IsBetween at
        → WritesInPart (run_lines_text c lines) [] old new → HasSinkFailed c journal reading left after old new
    rest_cut left after old new t f lines at runs rests cut =
        let g = given_by c journal reading left after t f in
        let coming = results_behind c journal reading left in
        let run = subst (λ (x : Option (List Answer)). Runs c journal.promotions (is_none coming.stop) (due 1 journal.events) (Some (answers_to_come coming)) lines at x) g.rest runs in
        record {
          call = of_held_back (record {
            printed = lines;
            at = at;
            asked_for = record { results = g.given; stop = None };
            behind = g.behind;
            split = g.split;
            run = run;
            waits = rests;
            one_more = inl refl;
          });
          read = g.read;
          cut = cut;
          begins = λ other whole gets.
              front_prefix (run_lines_text c lines) whole old new (begins_due c journal coming at (Some (map answer_in g.behind)) lines other whole run gets)
              (front_of (run_lines_text c lines) old new cut);
        }

    done_reached : (before after old middle new : Option (List ℕ)) (held : List ℕ) (t : SourceState) (was is : Bool) (j : Journal) → Tells old middle held
        → replays.IsRunTold Follows Stopped (along before after old middle t was is) journal.events (sight (rest_of (told_by start before)) was) (sight (rest_of (told_by t after)) is) most j with_all
        → SourceFollows start t before after → (r : Result (Unit {0}) WriteFault) → Puts r held middle new → length held ≤ most_held → reaches before after old new t was is (end_as end.Done r)
    done_reached None after old middle new held t was is j tells w f r e few = tt
    done_reached (Some left) after old middle new held t was is j tells w f r e few = by r e
      where
        all : Coming
        all = results_behind c journal reading left

        runs : Runs c journal.promotions (is_none all.stop) (due 1 journal.events) (Some (answers_to_come all)) w.lines w.ended.run.last (rest_of (told_by t after))
        runs =
            subst (λ (x : Option (List Answer)). Runs c journal.promotions (is_none all.stop) (due 1 journal.events) (Some (answers_to_come all)) w.lines w.ended.run.last x) (sym w.ended.unread)
            w.ended.run.steps

        by : (q : Result (Unit {0}) WriteFault) → Puts q held middle new → ReachesEnd c journal reading left after old new (end_as end.Done q)
        by (Ok done) put = record {
          text = run_lines_text c w.lines;
          gets = record { lines = w.lines; run = whole_by all w.lines j.events w.ended.run; printed = refl };
          added = all_left (run_lines_text c w.lines) held old middle new (tells w.lines w.told) put;
        }
        by (Err fault) put =
            rest_cut left after old new t f w.lines w.ended.run.last runs (inr (over_between (is_none all.stop) w.ended.run.last w.ended.run.behind w.ended.run.over))
            (short_behind (run_lines_text c w.lines) [] held [] old middle new (tells w.lines w.told) (short_first held [] middle new put few))

    -- behind a run that is cut
    unexpected_reached : (before after old middle new : Option (List ℕ)) (held : List ℕ) (t : SourceState) (was is : Bool) (j : Journal) (a : Answer) → Tells old middle held
        → replays.IsRunTold Follows Stopped (along before after old middle t was is) journal.events (sight (rest_of (told_by start before)) was) (sight (rest_of (told_by t after)) is) most j (unexpected a)
        → SourceFollows start t before after → (r : Result (Unit {0}) WriteFault) → PutsLast r (run_line c (line.Unexpected t.line)) held middle new
        → reaches before after old new t was is (end_as end.Unexpected r)
    unexpected_reached None after old middle new held t was is j a tells w f r e = tt
    unexpected_reached (Some left) after old middle new held t was is j a tells w f r e =
        let cut = cut_by c journal reading left after t w.lines j.events a w.ended f in
        by cut r (subst (λ (n : ℕ). PutsLast r (run_line c (line.Unexpected n)) held middle new) cut.line e)
      where
        text_is : (cut : CutBy c journal reading left after t w.lines) → EndGets c journal (results_behind c journal reading left) end.Unexpected (run_lines_text c w.lines ++ run_line c (line.Unexpected cut.result.line))
        text_is cut = record { lines = w.lines; given = cut.given; result = cut.result; run = cut.run; printed = refl }

        by : (cut : CutBy c journal reading left after t w.lines) (q : Result (Unit {0}) WriteFault) → PutsLast q (run_line c (line.Unexpected cut.result.line)) held middle new
            → ReachesEnd c journal reading left after old new (end_as end.Unexpected q)
        by cut (Ok done) put = record {
          text = run_lines_text c w.lines ++ run_line c (line.Unexpected cut.result.line);
          gets = text_is cut;
          added = all_out (run_lines_text c w.lines) held old middle new (tells w.lines w.told) (run_line c (line.Unexpected cut.result.line)) put;
        }
        by cut (Err fault) put =
            let short = short_behind (run_lines_text c w.lines) [] held (run_line c (line.Unexpected cut.result.line)) old middle new (tells w.lines w.told) put in
            record {
              call = of_unexpected (record { printed = w.lines; given = cut.given; result = cut.result; run = cut.run });
              read = cut.read;
              cut = short;
              begins = λ other whole gets.
                  subst (λ (x : List ℕ). AddsPrefix x old new)
                  (one_end c journal (results_behind c journal reading left) end.Unexpected other (run_lines_text c w.lines ++ run_line c (line.Unexpected cut.result.line)) whole (text_is cut) gets).1
                  short.front;
            }

    -- the source failed
    broken_reached : (left : List ℕ) (after old middle new : Option (List ℕ)) (held : List ℕ) (t : SourceState) (was is : Bool) (j : Journal) → Tells old middle held → held ≡ []
        → replays.IsRunTold Follows Stopped (along (Some left) after old middle t was is) journal.events (sight (rest_of (told_by start (Some left))) was) (sight (rest_of (told_by t after)) is) most j in_failure
        → HasBroken start t (Some left) after → new ≡ middle → ReachesEnd c journal reading left after old new end.ReadFault
    broken_reached left after old middle new held t was is j tells none w h same = on after refl h.told
      where
        on : (o : Option (List ℕ)) → o ≡ after → Some (results_behind c journal reading left) ≡ option_map (λ rest. results_first h.given (coming_to t rest)) o
            → HasReadFailed c journal reading left after old new
        on None o e = cc
        on (Some unread) o e =
            let all = same_Some (results_behind c journal reading left) (results_first h.given (coming_to t unread)) e in
            record {
              bytes = h.bytes;
              taken = h.read.taken;
              whole = record {
                lines = h.lines;
                held = t.lines.reading.held;
                unread = unread;
                left_is = sym o;
                parts =
                    let given : left ≡ h.bytes ++ unread
                    = same_Some left (h.bytes ++ unread)
                    (subst (λ (x : Option (List ℕ)). Some left ≡ option_map (λ (rest : List ℕ). h.bytes ++ rest) x) (sym o) h.read.taken) in
                    ap (λ (x : List ℕ). reading.held ++ x) given
                    ∙ (sym (append_assoc reading.held h.bytes unread)
                    ∙ (ap (λ (x : List ℕ). x ++ unread) h.read.parts ∙ append_assoc (bytes_of h.lines) t.lines.reading.held unread));
                whole = (h.read.whole h.not_ended).1;
              };
              no_answer = record {
                unfinished = h.unfinished;
                undecided =
                    let room = h.read.room in
                    let left_room : t.lines.reading.room ≡ reading.room - length (bytes_of h.lines) = omega (arith, room) in
                    subst (λ (n : ℕ). IsUndecided n reading.longest t.lines.reading.held) left_room
                    (subst (λ (n : ℕ). IsUndecided t.lines.reading.room n t.lines.reading.held) h.read.same_size h.undecided);
              };
              ran = record {
                given = h.given;
                said = ap (said_by c start.lines) (sym (append-nil h.lines)) ∙ (h.read.answered []
                    ∙ ap (λ (rs : List ResultLine). record { results = rs; stop = None }) (append-nil h.given));
                behind = (coming_to t unread).results;
                split = ap (λ (x : Coming). x.results) all;
                printed = w.lines;
                journal_now = j.events;
                run = subst (λ (x : Option (List ℕ)). IsRunSoFar c journal.promotions (is_none (results_behind c journal reading left).stop) journal.events
                    (Some (answers_to_come (results_behind c journal reading left))) w.lines j.events (rest_of (told_by t x))) (sym o) w.ended.run;
                none_silent =
                    let said = w.ended.said refl in
                    let behind = answers_to_come (coming_to t unread) in
                    let taken : answers_to_come (results_behind c journal reading left) ≡ said.answers ++ behind
                    = same_Some (answers_to_come (results_behind c journal reading left)) (said.answers ++ behind)
                    (subst (λ (x : Option (List ℕ)). Some (answers_to_come (results_behind c journal reading left)) ≡ option_map (λ xs. said.answers ++ xs) (rest_of (told_by t x))) (sym o)
                    said.taken) in
                    let split : answers_to_come (results_behind c journal reading left) ≡ map answer_in h.given ++ behind
                    = ap (λ (x : Coming). answers_to_come x) all ∙ map-append answer_in h.given (coming_to t unread).results in
                    subst (λ (xs : List Answer). IsRunSoFar c journal.promotions false journal.events (Some xs) w.lines j.events (Some []))
                    (append_cancel_right said.answers (map answer_in h.given) behind (sym taken ∙ split)) said.run;
                added = subst (λ (x : Option (List ℕ)). Adds old (run_lines_text c w.lines) x) (sym same) (none_left (run_lines_text c w.lines) held old middle (tells w.lines w.told) none);
              };
            }

    -- a failed read isn't the last
    no_last : (w : LineStop) → is_last w ≡ true → Some why.ReadFault ≡ Some w → ⊥
    no_last w last e = let same : w ≡ why.ReadFault = cc in let wrong : false ≡ true = ap is_last (sym same) ∙ last in cc

    -- a line stops the reading, so that nothing comes behind it
    stops_here : (t : SourceState) (w : LineStop) (rest : List ℕ) → is_last w ≡ true → stop_of t ≡ Some w → coming_to t rest ≡ no_more (Some w)
    stops_here t w rest last stop = by t.course t.failed stop
      where
        by : (k : Course) (failed : Bool) → why_stopped k failed ≡ Some w
            → in_course k (coming t.cluster t.lines.reading.longest t.lines.reading.room t.lines.at (raw_lines (t.lines.reading.held ++ rest))) ≡ no_more (Some w)
        by (course.Stopped v times) failed e = ap no_more e
        by course.Reading true e = absurd (no_last w last e)
        by course.Reading false e = cc
        by course.Ended true e = absurd (no_last w last e)
        by course.Ended false e = cc

    -- what is written where a line stops the reading
    stopped_by : (left : List ℕ) (after old middle new : Option (List ℕ)) (held : List ℕ) (printed : List RunLine) → GoesOut (run_lines_text c printed) [] held old middle → (given : List ResultLine) (w : LineStop)
        → results_behind c journal reading left ≡ record { results = given; stop = Some w } → (results_behind c journal reading left).stop ≡ Some w
        → AsksForMore c journal (results_behind c journal reading left) printed → (lines : List (List (List ℕ))) → IsFront lines (raw_lines (reading.held ++ left))
        → said_by c start.lines lines ≡ record { results = given; stop = Some w } → NoneOrLastSays c start.lines lines → (bytes : List ℕ) → Some left ≡ option_map (λ (x : List ℕ). bytes ++ x) after
        → AreNear start.lines lines bytes → (how : LiveEnd) → EndsLines held (Some w) how middle new → is_last w ≡ true → ReachesEnd c journal reading left after old new how
    stopped_by left after old middle new held printed added given (why.Refused n cause) all stop more lines first said ends bytes taken near end.Refused put last = record {
      text = run_lines_text c printed ++ line_refusal_text n cause;
      gets = record { lines = printed; line = n; cause = cause; stop = stop; run = more; printed = refl };
      added = all_out (run_lines_text c printed) held old middle new added (line_refusal_text n cause) put;
    }
    stopped_by left after old middle new held printed added given (why.Refused n cause) all stop more lines first said ends bytes taken near end.WriteFault put last = record {
      call = of_refusal (record { printed = printed; line = n; cause = cause; stop = stop; run = more });
      read = inl (record { lines = lines; first = first; said = said ∙ sym all; ends = ends; bytes = bytes; taken = taken; near = near });
      cut = short_behind (run_lines_text c printed) [] held (line_refusal_text n cause) old middle new added put;
      begins = λ other whole gets.
          subst (λ (x : List ℕ). AddsPrefix x old new)
          (one_end c journal (results_behind c journal reading left) end.Refused other (run_lines_text c printed ++ line_refusal_text n cause) whole
          (record { lines = printed; line = n; cause = cause; stop = stop; run = more; printed = refl }) gets).1
          (short_behind (run_lines_text c printed) [] held (line_refusal_text n cause) old middle new added put).front;
    }
    stopped_by left after old middle new held printed added given why.TooLarge all stop more lines first said ends bytes taken near end.TooLarge put last = record {
      text = run_lines_text c printed;
      gets = record { lines = printed; stop = stop; run = more; printed = refl };
      added = all_left (run_lines_text c printed) held old middle new added put;
    }
    stopped_by left after old middle new held printed added given why.TooLarge all stop more lines first said ends bytes taken near end.WriteFault put last =
        let coming = results_behind c journal reading left in
        let short = short_behind (run_lines_text c printed) [] held [] old middle new added put in
        record {
          call = of_held_back (record {
            printed = printed;
            at = more.run.last;
            asked_for = coming;
            behind = [];
            split = sym (append-nil coming.results);
            run = subst (λ (z : Option LineStop). Runs c journal.promotions (is_none z) (due 1 journal.events) (Some (answers_to_come coming)) printed more.run.last (Some [])) (sym stop)
                more.run.steps;
            waits = inl more.run.asking;
            one_more = inr (refl, stop);
          });
          read = inl (record { lines = lines; first = first; said = said ∙ sym all; ends = ends; bytes = bytes; taken = taken; near = near });
          cut = short;
          begins = λ other whole gets.
              subst (λ (x : List ℕ). AddsPrefix x old new)
              (one_end c journal coming end.TooLarge other (run_lines_text c printed) whole (record { lines = printed; stop = stop; run = more; printed = refl }) gets).1
              (front_of (run_lines_text c printed) old new short);
        }
    stopped_by left after old middle new held printed added given why.ReadFault all stop more lines first said ends bytes taken near how put last = let wrong : ⊥ = cc in absurd wrong
    stopped_by left after old middle new held printed added given (why.Refused n cause) all stop more lines first said ends bytes taken near how put last = absurd put
    stopped_by left after old middle new held printed added given why.TooLarge all stop more lines first said ends bytes taken near how put last = absurd put

    stopped_reached : (left : List ℕ) (after old middle new : Option (List ℕ)) (held : List ℕ) (t : SourceState) (was is : Bool) (j : Journal) → Tells old middle held
        → replays.IsRunTold Follows Stopped (along (Some left) after old middle t was is) journal.events (sight (rest_of (told_by start (Some left))) was) (sight (rest_of (told_by t after)) is) most j in_failure
        → HasStopped start t (Some left) after → (how : LiveEnd) → EndsLines held (stop_of t) how middle new → ReachesEnd c journal reading left after old new how
    stopped_reached left after old middle new held t was is j tells w h how e = on after refl h.told
      where
        on : (o : Option (List ℕ)) → o ≡ after → Some (results_behind c journal reading left) ≡ option_map (λ (rest : List ℕ). record { results = h.given; stop = Some h.why }) o
            → ReachesEnd c journal reading left after old new how
        on None o f = cc
        on (Some rest) o f =
            let all : results_behind c journal reading left ≡ record { results = h.given; stop = Some h.why }
            = same_Some (results_behind c journal reading left) (record { results = h.given; stop = Some h.why }) f in
            let stop : (results_behind c journal reading left).stop ≡ Some h.why = ap (λ (x : Coming). x.stop) all in
            let behind : rest_of (told_by t after) ≡ Some []
            = ap (λ (x : Option (List ℕ)). rest_of (told_by t x)) (sym o) ∙ ap (λ (x : Coming). Some (answers_to_come x)) (stops_here t h.why rest h.last h.stop) in
            let more : AsksForMore c journal (results_behind c journal reading left) w.lines
            = record {
              journal_now = j.events;
              run = subst (λ (x : Option (List Answer)). IsRunSoFar c journal.promotions false journal.events (Some (answers_to_come (results_behind c journal reading left))) w.lines j.events x) behind
                  (subst (λ (z : Option LineStop). IsRunSoFar c journal.promotions (is_none z) journal.events (Some (answers_to_come (results_behind c journal reading left))) w.lines j.events
                  (rest_of (told_by t after))) stop w.ended.run);
            } in
            stopped_by left after old middle new held w.lines (tells w.lines w.told) h.given h.why all stop more h.by.lines h.by.first h.by.said (inr h.by.ends) h.by.bytes h.by.taken h.by.near how
            (subst (λ (z : Option LineStop). EndsLines held z how middle new) h.stop e) h.last

    failed_reached : (before after old middle new : Option (List ℕ)) (held : List ℕ) (t : SourceState) (was is : Bool) (j : Journal) → Tells old middle held → (stop_of t ≡ Some why.ReadFault → held ≡ [])
        → replays.IsRunTold Follows Stopped (along before after old middle t was is) journal.events (sight (rest_of (told_by start before)) was) (sight (rest_of (told_by t after)) is) most j in_failure
        → HasBroken start t before after ⊎ HasStopped start t before after → (how : LiveEnd) → EndsLines held (stop_of t) how middle new → reaches before after old new t was is how
    failed_reached None after old middle new held t was is j tells quiet w f how e = tt
    failed_reached (Some left) after old middle new held t was is j tells quiet w (inl h) how e =
        by how (subst (λ (z : Option LineStop). EndsLines held z how middle new) h.why e)
      where
        by : (k : LiveEnd) → EndsLines held (Some why.ReadFault) k middle new → ReachesEnd c journal reading left after old new k
        by end.ReadFault same = broken_reached left after old middle new held t was is j tells (quiet h.why) w h same
        by how put = absurd put
    failed_reached (Some left) after old middle new held t was is j tells quiet w (inr h) how e = stopped_reached left after old middle new held t was is j tells w h how e

    -- the writer stopped the run
    cut_off_reached : (before after old new : Option (List ℕ)) (t : SourceState) (was is : Bool) (j : Journal)
        → ((lines : List RunLine) (at : Option RunLine) → Stopped lines at → WritesInPart (run_lines_text c lines) (last_text c at) old new)
        → replays.IsStopped Follows Stopped (along before after old new t was is) journal.events (sight (rest_of (told_by start before)) was) (sight (rest_of (told_by t after)) is) most j
        ⊎ replays.IsStoppedAsking Follows Stopped (along before after old new t was is) journal.events (sight (rest_of (told_by start before)) was) (sight (rest_of (told_by t after)) is) most j
        → SourceFollows start t before after → reaches before after old new t was is end.WriteFault
    cut_off_reached None after old new t was is j stops w f = tt
    cut_off_reached (Some left) after old new t was is j stops (inr w) f =
        rest_cut left after old new t f w.lines w.run.last w.run.steps (inl w.run.asking) (stops w.lines None w.told)
    cut_off_reached (Some left) after old new t was is j stops (inl w) f =
        let g = given_by c journal reading left after t f in
        let coming = results_behind c journal reading left in
        let run = subst (λ (x : Option (List Answer)). IsStoppedRun c journal.promotions (is_none coming.stop) journal.events (Some (answers_to_come coming)) w.lines w.call w.closing j.events x) g.rest w.run in
        let on = runs_more c journal.promotions (is_none coming.stop) (due 1 journal.events) run.before run.next (Some (answers_to_come coming)) run.middle (Some (map answer_in g.behind)) w.lines w.call
        run.steps run.stopped in
        let told = w.lines ++ w.told.before in
        let text : run_lines_text c (w.lines ++ w.call) ≡ (run_lines_text c told ++ run_line c w.told.at) ++ run_lines_text c w.told.behind
        = ap (run_lines_text c) (ap (λ (ls : List RunLine). w.lines ++ ls) w.told.parts ∙ sym (append_assoc w.lines w.told.before (w.told.at ∷ w.told.behind)))
        ∙ (flat_map-append (run_line c) told (w.told.at ∷ w.told.behind) ∙ sym (append_assoc (run_lines_text c told) (run_line c w.told.at) (run_lines_text c w.told.behind))) in
        let short : WritesInPart (run_lines_text c told) (run_line c w.told.at) old new = stops told (Some w.told.at) w.told.stopped in
        let front : AddsPrefix (run_lines_text c (w.lines ++ w.call)) old new
        = subst (λ (x : List ℕ). AddsPrefix x old new) (sym text)
        (prefix_first (run_lines_text c told ++ run_line c w.told.at) (run_lines_text c w.told.behind) old new short.front) in
        record {
          call = in_run (record {
            printed = w.lines;
            told = w.told.before;
            at = w.told.at;
            untold = w.told.behind;
            closing = w.closing;
            journal_now = j.events;
            given = g.given;
            behind = g.behind;
            split = g.split;
            run = subst (λ (ls : List RunLine). IsStoppedRun c journal.promotions (is_none coming.stop) journal.events (Some (answers_to_come coming)) w.lines ls w.closing j.events
                (Some (map answer_in g.behind))) w.told.parts run;
          });
          read = g.read;
          cut = short;
          begins = λ other whole gets.
              front_prefix (run_lines_text c (w.lines ++ w.call)) whole old new
              (begins_due c journal coming run.next (Some (map answer_in g.behind)) (w.lines ++ w.call) other whole on gets) front;
        }

    -- memory ran out
    between_reached : (before after old middle new : Option (List ℕ)) (held : List ℕ) (t : SourceState) (was is : Bool) → Tells old middle held
        → replays.IsBetweenTwo Follows Stopped (along before after old middle t was is) journal.events (sight (rest_of (told_by start before)) was) (sight (rest_of (told_by t after)) is) most
        → SourceFollows start t before after → (r : Result (Unit {0}) WriteFault) → Puts r held middle new → length held ≤ most_held → reaches before after old new t was is (end_as end.NoMemory r)
    between_reached None after old middle new held t was is tells w f r e few = tt
    between_reached (Some left) after old middle new held t was is tells w f r e few = by r e
      where
        by : (q : Result (Unit {0}) WriteFault) → Puts q held middle new → ReachesEnd c journal reading left after old new (end_as end.NoMemory q)
        by (Ok done) put =
            let added = all_left (run_lines_text c w.lines) held old middle new (tells w.lines w.told) put in
            record {
              printed = w.lines;
              at = w.at;
              behind = rest_of (told_by t after);
              run = w.run;
              between = w.between;
              ends = ends_between c journal.promotions (is_none (results_behind c journal reading left).stop) journal.events w.at (Some (answers_to_come (results_behind c journal reading left)))
                  (rest_of (told_by t after)) w.lines w.run w.between;
              added = added;
              begins = λ other whole gets.
                  front_prefix (run_lines_text c w.lines) whole old new
                  (begins_due c journal (results_behind c journal reading left) w.at (rest_of (told_by t after)) w.lines other whole w.run gets)
                  (whole_prefix (run_lines_text c w.lines) old new added);
            }
        by (Err fault) put =
            rest_cut left after old new t f w.lines w.at w.run (inr w.between)
            (short_behind (run_lines_text c w.lines) [] held [] old middle new (tells w.lines w.told) (short_first held [] middle new put few))

-- there is no memory for the first line: nothing was written
pub nothing_reached : (c : Cluster) (journal : Journal) (reading : Reading) (before after text : Option (List ℕ))
    → IfSome before (λ left. ReachesEnd c journal reading left after text text end.NoMemory)
nothing_reached c journal reading None after text = tt
nothing_reached c journal reading (Some left) after text =
    let coming = results_behind c journal reading left in
    let runs : Runs c journal.promotions (is_none coming.stop) (due 1 journal.events) (Some (answers_to_come coming)) [] (due 1 journal.events) (Some (answers_to_come coming))
    = here (due 1 journal.events) (Some (answers_to_come coming)) in
    record {
      printed = [];
      at = due 1 journal.events;
      behind = Some (answers_to_come coming);
      run = runs;
      between = tt;
      ends = at_first;
      added = adds_none text;
      begins = λ other whole gets.
          front_prefix [] whole text text (begins_due c journal coming (due 1 journal.events) (Some (answers_to_come coming)) [] other whole runs gets)
          (whole_prefix [] text text (adds_none text));
    }

-- which end a run gets, where no count rose and memory sufficed
module _ (c : Cluster) (journal : Journal) (reading : Reading) (after old new : Option (List ℕ)) (Read Wrote : Type 0) where
  pub complete_by : (before : Option (List ℕ)) (how : LiveEnd) → IfSome before (λ left. ReachesEnd c journal reading left after old new how) → (how ≡ end.ReadFault → Read) → (how ≡ end.WriteFault → Wrote)
      → IfSome before (λ left. ¬ Read → ¬ Wrote → how ≢ end.NoMemory → (this : LiveEnd) → (how ≡ this) ↔ IsDueEnd c journal (results_behind c journal reading left) this)
  complete_by None how r a b = tt
  complete_by (Some left) how r a b = λ no_read no_write memory this. by how r a b no_read no_write memory this
    where
      written : (k this : LiveEnd) (text : List ℕ) → EndGets c journal (results_behind c journal reading left) k text → (k ≡ this) ↔ IsDueEnd c journal (results_behind c journal reading left) this
      written k this text gets = (
        λ e. subst (IsDueEnd c journal (results_behind c journal reading left)) e (record { text = text; gets = gets }),
        λ d. (one_end c journal (results_behind c journal reading left) k this text d.text gets d.gets).0,
      )

      by : (k : LiveEnd) → ReachesEnd c journal reading left after old new k → (k ≡ end.ReadFault → Read) → (k ≡ end.WriteFault → Wrote) → ¬ Read → ¬ Wrote → k ≢ end.NoMemory
          → (this : LiveEnd) → (k ≡ this) ↔ IsDueEnd c journal (results_behind c journal reading left) this
      by end.Done r a b no_read no_write memory this = written end.Done this r.text r.gets
      by end.Unexpected r a b no_read no_write memory this = written end.Unexpected this r.text r.gets
      by end.Refused r a b no_read no_write memory this = written end.Refused this r.text r.gets
      by end.TooLarge r a b no_read no_write memory this = written end.TooLarge this r.text r.gets
      by end.ReadFault r a b no_read no_write memory this = absurd (no_read (a refl))
      by end.WriteFault r a b no_read no_write memory this = absurd (no_write (b refl))
      by end.NoMemory r a b no_read no_write memory this = absurd (memory refl)

-- the same, of a source that stands at the beginning
module _ (c : Cluster) (journal : Journal) (reading : Reading) (s t : SourceState) (d : Cluster) (fresh : s ≡ starting c (moment_of journal.events) reading) (names : d ≡ c)
    (before after old middle new : Option (List ℕ)) (held : List ℕ) (was is : Bool) (j : Journal) (Follows : List RunLine → Type 0) (Stopped : List RunLine → Option RunLine → Type 0) (most : ℕ) where
  abbrev pub from : replays.Setting
  from = setting c journal.promotions (whole_of (told_by s before)) true

  abbrev pub TellsBy : Type 0
  TellsBy = (lines : List RunLine) → Follows lines → GoesOut (run_lines_text d lines) [] held old middle

  tells_so : TellsBy → (lines : List RunLine) → Follows lines → GoesOut (run_lines_text c lines) [] held old middle
  tells_so tells lines told = subst (λ (x : Cluster). GoesOut (run_lines_text x lines) [] held old middle) names (tells lines told)

  pub done_from : TellsBy → replays.IsRunTold Follows Stopped from journal.events (sight (rest_of (told_by s before)) was) (sight (rest_of (told_by t after)) is) most j with_all → SourceFollows s t before after
      → (r : Result (Unit {0}) WriteFault) → Puts r held middle new → length held ≤ most_held → IfSome before (λ left. ReachesEnd c journal reading left after old new (end_as end.Done r))
  done_from tells w f r e few = done_reached c journal reading Follows Stopped most before after old middle new held t was is j (tells_so tells) (rw fresh at w) (rw fresh at f) r e few

  pub unexpected_from : (a : Answer) → TellsBy → replays.IsRunTold Follows Stopped from journal.events (sight (rest_of (told_by s before)) was) (sight (rest_of (told_by t after)) is) most j (unexpected a) → SourceFollows s t before after
      → (r : Result (Unit {0}) WriteFault) → PutsLast r (run_line d (line.Unexpected t.line)) held middle new → IfSome before (λ left. ReachesEnd c journal reading left after old new (end_as end.Unexpected r))
  unexpected_from a tells w f r e =
      unexpected_reached c journal reading Follows Stopped most before after old middle new held t was is j a (tells_so tells) (rw fresh at w) (rw fresh at f) r
      (subst (λ (x : Cluster). PutsLast r (run_line x (line.Unexpected t.line)) held middle new) names e)

  pub failed_from : TellsBy → (stop_of t ≡ Some why.ReadFault → held ≡ []) → replays.IsRunTold Follows Stopped from journal.events (sight (rest_of (told_by s before)) was) (sight (rest_of (told_by t after)) is) most j in_failure
      → HasBroken s t before after ⊎ HasStopped s t before after → (how : LiveEnd) → EndsLines held (stop_of t) how middle new → IfSome before (λ left. ReachesEnd c journal reading left after old new how)
  failed_from tells quiet w f how e = failed_reached c journal reading Follows Stopped most before after old middle new held t was is j (tells_so tells) quiet (rw fresh at w) (rw fresh at f) how e

  pub cut_off_from : ((lines : List RunLine) (at : Option RunLine) → Stopped lines at → WritesInPart (run_lines_text d lines) (last_text d at) old new)
      → replays.IsStopped Follows Stopped from journal.events (sight (rest_of (told_by s before)) was) (sight (rest_of (told_by t after)) is) most j
      ⊎ replays.IsStoppedAsking Follows Stopped from journal.events (sight (rest_of (told_by s before)) was) (sight (rest_of (told_by t after)) is) most j → SourceFollows s t before after
      → IfSome before (λ left. ReachesEnd c journal reading left after old new end.WriteFault)
  cut_off_from stops w f =
      cut_off_reached c journal reading Follows Stopped most before after old new t was is j
      (λ lines at told. subst (λ (x : Cluster). WritesInPart (run_lines_text x lines) (last_text x at) old new) names (stops lines at told)) (rw fresh at w) (rw fresh at f)

  pub between_from : TellsBy → replays.IsBetweenTwo Follows Stopped from journal.events (sight (rest_of (told_by s before)) was) (sight (rest_of (told_by t after)) is) most → SourceFollows s t before after
      → (r : Result (Unit {0}) WriteFault) → Puts r held middle new → length held ≤ most_held → IfSome before (λ left. ReachesEnd c journal reading left after old new (end_as end.NoMemory r))
  between_from tells w f r e few = between_reached c journal reading Follows Stopped most before after old middle new held t was is (tells_so tells) (rw fresh at w) (rw fresh at f) r e few

pub failed_kind : (exact : Bool) (v u : SourceView) → HasQuestionFailed exact v u → HasBroken v.state u.state v.left u.left ⊎ HasStopped v.state u.state v.left u.left
failed_kind exact v u (by_source h failed) = inl h
failed_kind exact v u (by_line h counts) = inr h
