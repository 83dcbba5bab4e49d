-- What a run over result lines has written at its end, by what its source of bytes had left at the beginning; and what it has read, when the source or the sink
-- failed (rule of this project).
use Rattle.std.specs.Prelude.{◌≡◌, ◌⊎◌, ℕ, ◌-◌, length, false, Option, Some, None, List, [], ◌∷◌, ◌++◌, is_none, map}
use Rattle.cluster_io.specs.NextLine.{holds_line, IsUndecided}
use Rattle.cluster_io.specs.Readings.{Reading}
use Rattle.cluster_io.specs.Streams.{Adds, AddsPrefix, TakesBytes}
use Rattle.cluster_types.specs.declared.cluster.Cluster.{Cluster}
use Rattle.cluster_types.specs.declared.journal.Answer.{Answer}
use Rattle.cluster_types.specs.declared.journal.Event.{Event}
use Rattle.cluster_types.specs.declared.journal.Journal.{Journal}
use Rattle.cluster_types.specs.declared.run.RunLine.{RunLine}
use Rattle.cluster_types.specs.declared.run.RunLine.TheVariants as line
use Rattle.cluster_types.specs.Journals.{moment_of}
use Rattle.cluster_types.specs.Runs.{RunStanding, due, Runs, IsAsking, IsBetween, IsRunSoFar, IsStoppedRun}
use Rattle.cluster_types.specs.Texts.{run_line}
use Rattle.crm_lex.specs.RawLines.{raw_lines}
use Rattle.live_run.specs.AnswersToCome.{Coming, LineReaderAt, coming_of}
use Rattle.live_run.specs.Courses.{answers_to_come, starting}
use Rattle.live_run.specs.SourceFollowed.{AreNear, NoneOrLastSays, StandWhole, bytes_of, said_by}
use Rattle.live_run.specs.declared.line_stop.LineCause.{LineCause}
use Rattle.live_run.specs.declared.line_stop.LineStop.TheVariants as why
use Rattle.input_reading.specs.declared.results.result_lines.ResultLine.{ResultLine}
use Rattle.run_safety.specs.TwoRuns.{EndsBetween, IsFront}
use Rattle.live_run.specs.LineCauses.{line_refusal_text}
use Rattle.live_run.specs.HeldAndWritten.{WritesInPart}
use Rattle.live_run.specs.Ends.{AsksForMore, EndGets, CutRunGives, run_lines_text}
use Rattle.live_run.specs.declared.live_end.LiveEnd.{LiveEnd}
use Rattle.live_run.specs.declared.live_end.LiveEnd.TheVariants as end

-- the place of the first result line: the moment is that of the journal
abbrev pub at_first_result : Cluster → Journal → Reading → LineReaderAt
at_first_result c journal reading = (starting c (moment_of journal.events) reading).lines

-- what is to come of the result lines behind a head, where so many bytes are left
abbrev pub results_behind : Cluster → Journal → Reading → List ℕ → Coming
results_behind c journal reading left = coming_of c (at_first_result c journal reading) left

-- of a text these logical lines were taken, each with its line end. Behind them some bytes are held, and the source has the others left
pub record HasWholeLinesTaken (text : List ℕ) (left_now : Option (List ℕ)) : Type 0 where
  pub lines : List (List (List ℕ))
  pub held : List ℕ
  pub unread : List ℕ
  pub left_is : left_now ≡ Some unread
  pub parts : text ≡ bytes_of lines ++ (held ++ unread)
  pub whole : StandWhole lines

-- bytes that are held give no answer yet: they hold no whole line, and none that is too long or goes past the limit
pub record GivesNoAnswer (longest room : ℕ) (held : List ℕ) : Type 0 where
  pub unfinished : holds_line held ≡ false
  pub undecided : IsUndecided room longest held

-- of a run over these bytes, of which the source has some left now
module _ (c : Cluster) (journal : Journal) (reading : Reading) (left_then : List ℕ) (left_now : Option (List ℕ)) where
  -- what is to come of its result lines
  abbrev pub lines_to_come : Coming
  lines_to_come = results_behind c journal reading left_then

  -- the lines that say this were asked for, and no more: of the bytes behind the last of them fewer than 4,096 were taken, or no byte at all was
  pub record WasAskedFor (asked : Coming) : Type 0 where
    pub lines : List (List (List ℕ))
    pub first : IsFront lines (raw_lines (reading.held ++ left_then))
    pub said : said_by c (at_first_result c journal reading) lines ≡ asked
    pub ends : NoneOrLastSays c (at_first_result c journal reading) lines
    pub bytes : List ℕ
    pub taken : TakesBytes (Some left_then) bytes left_now
    pub near : AreNear (at_first_result c journal reading) lines bytes

  -- all was asked for, and read: no line of it ended the reading
  pub record WasAllAskedFor (asked : Coming) : Type 0 where
    pub all : lines_to_come ≡ asked
    pub unstopped : asked.stop ≡ None
    pub none_left : left_now ≡ Some []

  -- what was read is what was asked for: the lines that say this, or all
  abbrev pub HasReadAsAsked : Coming → Type 0
  HasReadAsAsked asked = WasAskedFor asked ⊎ WasAllAskedFor asked

  -- a call of the writer amid the run, behind these lines: it is told the lines of one step, one by one, up to this one, and those behind it no more. Nor is it
  -- told the line that ends the transition, which may come right behind the step. The run has taken these answers by then
  pub record CallInRun : Type 0 where
    pub printed : List RunLine
    pub told : List RunLine
    pub at : RunLine
    pub untold : List RunLine
    pub closing : List RunLine
    pub journal_now : List Event
    pub given : List ResultLine
    pub behind : List ResultLine
    pub split : lines_to_come.results ≡ given ++ behind
    pub run : IsStoppedRun c journal.promotions (is_none lines_to_come.stop) journal.events (Some (answers_to_come lines_to_come)) printed (told ++ at ∷ untold) closing journal_now
        (Some (map (λ (r : ResultLine). r.answer) behind))

  -- the call that writes `unexpected LINE` of the answer behind these, which doesn't apply
  pub record CallOfUnexpected : Type 0 where
    pub printed : List RunLine
    pub given : List ResultLine
    pub result : ResultLine
    pub run : CutRunGives c journal lines_to_come printed given result

  -- the call that writes `refused LINE CAUSE`
  pub record CallOfRefusal : Type 0 where
    pub printed : List RunLine
    pub line : ℕ
    pub cause : LineCause
    pub stop : lines_to_come.stop ≡ Some (why.Refused line cause)
    pub run : AsksForMore c journal lines_to_come printed

  -- the call that writes what is held back where the run asks for an answer, or stands between two transitions. These answers were taken by then, and no
  -- line behind them was asked for; or all answers were taken, and the line behind them was asked for too, which is past the limit
  pub record CallOfHeldBack : Type 0 where
    pub printed : List RunLine
    pub at : RunStanding
    pub asked_for : Coming
    pub behind : List ResultLine
    pub split : lines_to_come.results ≡ asked_for.results ++ behind
    pub run : Runs c journal.promotions (is_none lines_to_come.stop) (due 1 journal.events) (Some (answers_to_come lines_to_come)) printed at
        (Some (map (λ (r : ResultLine). r.answer) behind))
    pub waits : IsAsking at ⊎ IsBetween at
    pub one_more : (asked_for.stop ≡ None) ⊎ ((asked_for ≡ lines_to_come) × (lines_to_come.stop ≡ Some why.TooLarge))

  -- one call of the writer, in one of four ways
  pub data WriterCall : Type 0 where
    in_run : CallInRun → WriterCall
    of_held_back : CallOfHeldBack → WriterCall
    of_unexpected : CallOfUnexpected → WriterCall
    of_refusal : CallOfRefusal → WriterCall

  -- the lines that the writer was told before the call
  abbrev pub lines_before_call : WriterCall → List RunLine
  lines_before_call (in_run call) = call.printed ++ call.told
  lines_before_call (of_held_back call) = call.printed
  lines_before_call (of_unexpected call) = call.printed
  lines_before_call (of_refusal call) = call.printed

  -- what was asked for by the time of the call
  abbrev pub asked_by_call : WriterCall → Coming
  asked_by_call (in_run call) = record { results = call.given; stop = None }
  asked_by_call (of_held_back call) = call.asked_for
  asked_by_call (of_unexpected call) = record { results = call.given ++ call.result ∷ []; stop = None }
  asked_by_call (of_refusal call) = lines_to_come

  -- what it adds to the lines before it
  abbrev pub text_of_call : WriterCall → List ℕ
  text_of_call (in_run call) = run_line c call.at
  text_of_call (of_held_back call) = []
  text_of_call (of_unexpected call) = run_line c (line.Unexpected call.result.line)
  text_of_call (of_refusal call) = line_refusal_text call.line call.cause

  -- and of what a sink held before and holds now
  module _ (written_then written_now : Option (List ℕ)) where
    -- the text that is due with this end was written
    pub record HasWritten (how : LiveEnd) : Type 0 where
      pub text : List ℕ
      pub gets : EndGets c journal lines_to_come how text
      pub added : Adds written_then text written_now

    -- the run took exactly the answers of these logical lines, and asks for one more. No action has ended silently. The lines of the run were written
    pub record IsRunOverLines (lines : List (List (List ℕ))) : Type 0 where
      pub given : List ResultLine
      pub said : said_by c (at_first_result c journal reading) lines ≡ record { results = given; stop = None }
      pub behind : List ResultLine
      pub split : lines_to_come.results ≡ given ++ behind
      pub printed : List RunLine
      pub journal_now : List Event
      pub run : IsRunSoFar c journal.promotions (is_none lines_to_come.stop) journal.events (Some (answers_to_come lines_to_come)) printed journal_now
          (Some (map (λ (r : ResultLine). r.answer) behind))
      pub none_silent : IsRunSoFar c journal.promotions false journal.events (Some (map (λ (r : ResultLine). r.answer) given)) printed journal_now (Some [])
      pub added : Adds written_then (run_lines_text c printed) written_now

    -- the source failed, behind some bytes that it gave. Of the bytes that were held and these some lines were taken whole, and the run went over those lines;
    -- the bytes behind them give no answer yet
    pub record HasReadFailed : Type 0 where
      pub bytes : List ℕ
      pub taken : TakesBytes (Some left_then) bytes left_now
      pub whole : HasWholeLinesTaken (reading.held ++ left_then) left_now
      pub no_answer : GivesNoAnswer reading.longest (reading.room - length (bytes_of whole.lines)) whole.held
      pub ran : IsRunOverLines whole.lines

    -- the sink failed in one call: a front was written of the lines before it and of what it adds to these. Of the lines before it at most 65,536 bytes are
    -- missing. No line was asked for after that call. What was written is a front of the text that is due
    pub record HasSinkFailed : Type 0 where
      pub call : WriterCall
      pub read : HasReadAsAsked (asked_by_call call)
      pub cut : WritesInPart (run_lines_text c (lines_before_call call)) (text_of_call call) written_then written_now
      pub begins : (how : LiveEnd) (whole : List ℕ) → EndGets c journal lines_to_come how whole → AddsPrefix whole written_then written_now

    -- memory ran out between two transitions: the lines up to there were written, none or ones that end with `complete K`, `aborted K` or an answer that came
    -- while nothing was to be done. What was written is a front of the text that is due with each end (`whole`)
    pub record HasNoMemory : Type 0 where
      pub printed : List RunLine
      pub at : RunStanding
      pub behind : Option (List Answer)
      pub run : Runs c journal.promotions (is_none lines_to_come.stop) (due 1 journal.events) (Some (answers_to_come lines_to_come)) printed at behind
      pub between : IsBetween at
      pub ends : EndsBetween journal.events at printed
      pub added : Adds written_then (run_lines_text c printed) written_now
      pub begins : (how : LiveEnd) (whole : List ℕ) → EndGets c journal lines_to_come how whole → AddsPrefix whole written_then written_now

    -- what each end says: of a failed read or write what was read and written, and of any other end what was written
    abbrev pub ReachesEnd : LiveEnd → Type 0
    ReachesEnd end.ReadFault = HasReadFailed
    ReachesEnd end.WriteFault = HasSinkFailed
    ReachesEnd end.NoMemory = HasNoMemory
    ReachesEnd how = HasWritten how
