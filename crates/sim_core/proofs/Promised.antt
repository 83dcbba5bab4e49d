-- The parts of the promise of the word `replay`, joined.
use Rattle.std.proofs.Common.{◌≡◌, inl, inr, ℕ, IfSome, Option, Some, List, [], ◌++◌, take, is_none, append-nil, append_assoc, refl, ap, sym, ◌∙◌, subst}
use Rattle.std.proofs.lemmas.Grind.{flat_map-append}
use Rattle.std.proofs.lemmas.Option.{IfSome_then}
use Rattle.cluster_io.specs.Readings.{Reading}
use Rattle.cluster_io.specs.Streams.{Adds}
use Rattle.cluster_types.specs.declared.cluster.Cluster.{Cluster}
use Rattle.cluster_types.specs.declared.journal.Answer.{Answer}
use Rattle.cluster_types.specs.declared.journal.Event.{Event}
use Rattle.cluster_types.specs.declared.journal.Promotion.{Promotion}
use Rattle.cluster_types.specs.declared.run.RunLine.{RunLine}
use Rattle.cluster_types.specs.Runs.{RunStanding, due, Runs}
use Rattle.cluster_types.specs.Texts.{run_line}
use Rattle.cluster_types.specs.Valid.{IsValid}
use Rattle.crm_lex.specs.RawLines.{raw_lines}
use Rattle.input_reading.proofs.ValidHead.{cluster_valid, journal_at_rest}
use Rattle.input_reading.specs.declared.input.reading.Head.{Head}
use Rattle.input_reading.specs.Causes.{refusal_text}
use Rattle.live_run.proofs.Dues.{begins_due, one_end}
use Rattle.live_run.proofs.NoFault.{coming_no_fault}
use Rattle.live_run.specs.Inner.Fronts.{front_prefix, whole_prefix}
use Rattle.live_run.specs.AnswersToCome.{Coming}
use Rattle.live_run.specs.Courses.{answers_to_come}
use Rattle.live_run.specs.declared.live_end.LiveEnd.{LiveEnd}
use Rattle.live_run.specs.declared.live_end.LiveEnd.TheVariants as end
use Rattle.live_run.specs.Ends.{EndGets, run_lines_text}
use Rattle.live_run.specs.RunReached.{HasNoMemory, HasReadFailed, HasSinkFailed, WriterCall, of_held_back, in_run, of_unexpected, of_refusal, at_first_result, lines_before_call, text_of_call, results_behind}
use Rattle.plan_laws.proofs.LawfulTable.{lawful}
use Rattle.plan_laws.proofs.OnePlan.{one_list, one_placed}
use Rattle.planner.proofs.SomePlan.{actions, goals, is_plan}
use Rattle.run_safety.proofs.SafeRuns.{safe_run}
use Rattle.written_runs.proofs.SafeLines.{safe_lines}
use Rattle.sim_core.specs.declared.status.Status.{Status}
use Rattle.sim_core.specs.declared.status.Status.TheVariants.{Done, NoMemory, Usage, ReadFault, WriteFault, Refused, Unexpected, TooLarge, NotLawful}
use Rattle.sim_core.specs.declared.words.Command.{Command}
use Rattle.sim_core.specs.declared.words.Command.TheVariants.{Replay}
use Rattle.sim_core.specs.Answers.{IsWritten, WordAnswers}
use Rattle.sim_core.specs.Headline.{HasOnePlan, HasPrinted, HasWrittenFront, IsOfHead, IsOneSafeRun, IsSafeAllTheWay, IsSafeOutput, IsTextOfOneSafeRun, WritesASafeRun}
use Rattle.sim_core.specs.LiveAnswers.{HasWrittenReplay, SaysLive, amid_head, behind_head, of_head, of_run, at_first, between_two}
use Rattle.sim_core.specs.Replay.{IsHeadRead, IsReplayOutput, IsTextOfRun, coming_behind}
use Rattle.sim_core.specs.Commands.{live, intake}
use Rattle.sim_core.proofs.SameComing.{same_coming}
use Rattle.sim_core.proofs.SomeEnd.{HasEnd, some_end}
use Rattle.sim_core.proofs.WrittenFronts.{cut_at}

has_one_plan : (c : Cluster) (promotions : List Promotion) → IsValid c → (es : List Event) → HasOnePlan c promotions es
has_one_plan c promotions valid es = record {
  placed = goals c valid es promotions;
  actions = actions c valid es promotions;
  plan = is_plan c valid es promotions;
  lawful = lawful c es promotions (goals c valid es promotions) valid (is_plan c valid es promotions).goals;
  one_placed = λ other more is. one_placed c es promotions (goals c valid es promotions) other (actions c valid es promotions) more (is_plan c valid es promotions) is;
  one_list = λ other more is. one_list c es promotions (goals c valid es promotions) other (actions c valid es promotions) more (is_plan c valid es promotions) is;
}

-- the run of a head that is read is safe, whatever comes behind it
module _ (input bytes : List ℕ) (head : Head) (next room : ℕ) (begun : IsHeadRead input bytes head next room) where
  pub safe_all_the_way : (coming : Coming) → IsSafeAllTheWay head coming
  safe_all_the_way coming =
      let c = head.cluster in
      let promotions = head.journal.promotions in
      let first = head.journal.events in
      let given = Some (answers_to_come coming) in
      let valid = cluster_valid bytes head begun.says in
      let rests = journal_at_rest bytes head begun.says in
      let safe = safe_run c promotions (is_none coming.stop) valid first given rests in
      record {
        valid = valid;
        plans = has_one_plan c promotions valid;
        safe = safe;
        by_lines = λ lines at behind runs. safe_lines c promotions (is_none coming.stop) first given rests.1 safe at behind lines runs;
      }

  one_safe_run : (coming : Coming) (how : LiveEnd) (text : List ℕ) → EndGets head.cluster head.journal coming how text → IsOneSafeRun head coming how text
  one_safe_run coming how text gets = record {
    gets = gets;
    one = λ other also is. one_end head.cluster head.journal coming how other text also gets is;
    safe = safe_all_the_way coming;
  }

no_more : (xs : List ℕ) (before after : Option (List ℕ)) → Adds before xs after → Adds before (xs ++ []) after
no_more xs before after added = subst (λ (t : List ℕ). Adds before t after) (sym (append-nil xs)) added

module _ (input : List ℕ) where
  text_safe : (how : LiveEnd) (text : List ℕ) → IsTextOfRun (λ c journal coming. EndGets c journal coming how) input text → IsTextOfOneSafeRun how input text
  text_safe how text out = record {
    bytes = out.bytes;
    head = out.head;
    next = out.next;
    room = out.room;
    begun = out.begun;
    holds = one_safe_run input out.bytes out.head out.next out.room out.begun (coming_behind input out.bytes out.head out.next out.room) how text out.says;
  }

  pub output_safe : (status : Status) (text : List ℕ) → IsReplayOutput input status text → IsSafeOutput input status text
  output_safe Done text out = text_safe end.Done text out
  output_safe Unexpected text out = text_safe end.Unexpected text out
  output_safe Refused text (inl fault) = inl fault
  output_safe Refused text (inr out) = inr (text_safe end.Refused text out)
  output_safe TooLarge text (inl large) = inl large
  output_safe TooLarge text (inr out) = inr (text_safe end.TooLarge text out)
  output_safe _ text out = absurd out

  module _ (left before after : Option (List ℕ)) where
    written_safe : (status : Status) → HasWrittenReplay input left before after status → IsWritten (IsSafeOutput input) status before after
    written_safe status w = record { text = w.text; due = output_safe status w.text w.due; added = w.added }

    -- behind the head
    module _ (bytes : List ℕ) (head : Head) (reading : Reading) (unread : List ℕ) (begun : IsHeadRead input bytes head reading.next reading.room) where
      abbrev all : Coming
      all = results_behind head.cluster head.journal reading unread

      -- what is said of all that is to come there is said of what the input has behind its head
      of_head_now : (Holds : Head → Coming → Type 0) → all ≡ coming_behind input bytes head reading.next reading.room → Holds head all → IsOfHead input Holds
      of_head_now Holds same holds = record {
        bytes = bytes;
        head = head;
        next = reading.next;
        room = reading.room;
        begun = begun;
        holds = subst (λ (coming : Coming). Holds head coming) same holds;
      }

      safe_now : IsSafeAllTheWay head all
      safe_now = safe_all_the_way input bytes head reading.next reading.room begun all

      ends_now : HasEnd head.cluster head.journal all
      ends_now =
          let lines = at_first_result head.cluster head.journal reading in
          some_end head.cluster head.journal all safe_now.valid
          (coming_no_fault head.cluster lines.reading.longest lines.reading.room lines.at (raw_lines (lines.reading.held ++ unread)))

      broken_off : HasReadFailed head.cluster head.journal reading unread left before after → HasWrittenFront head all [] before after
      broken_off b = record {
        lines = b.ran.printed;
        at = b.ran.run.last;
        behind = _;
        so_far = b.ran.run.steps;
        added = no_more (run_lines_text head.cluster b.ran.printed) before after b.ran.added;
        ends = ends_now;
        begins = λ how text gets. front_prefix (run_lines_text head.cluster b.ran.printed) text before after
            (begins_due head.cluster head.journal all b.ran.run.last _ b.ran.printed how text b.ran.run.steps gets)
            (whole_prefix (run_lines_text head.cluster b.ran.printed) before after b.ran.added);
        safe = safe_now;
      }

      without_memory : HasNoMemory head.cluster head.journal reading unread left before after → HasWrittenFront head all [] before after
      without_memory m = record {
        lines = m.printed;
        at = m.at;
        behind = m.behind;
        so_far = m.run;
        added = no_more (run_lines_text head.cluster m.printed) before after m.added;
        ends = ends_now;
        begins = m.begins;
        safe = safe_now;
      }

      -- a text is that of the lines up to where the run stands, and a last text behind them
      record StandsBefore (text : List ℕ) : Type 0 where
        lines : List RunLine
        at : RunStanding
        behind : Option (List Answer)
        printed : HasPrinted head all lines at behind
        last : List ℕ
        parts : text ≡ run_lines_text head.cluster lines ++ last

      stands_before : (call : WriterCall head.cluster head.journal reading unread left)
          → StandsBefore (run_lines_text head.cluster (lines_before_call head.cluster head.journal reading unread left call)
          ++ text_of_call head.cluster head.journal reading unread left call)
      stands_before (in_run call) = record {
        lines = call.printed;
        at = call.run.before;
        behind = call.run.middle;
        printed = call.run.steps;
        last = run_lines_text head.cluster call.told ++ run_line head.cluster call.at;
        parts = ap (λ (t : List ℕ). t ++ run_line head.cluster call.at) (flat_map-append (run_line head.cluster) call.printed call.told)
            ∙ append_assoc (run_lines_text head.cluster call.printed) (run_lines_text head.cluster call.told) (run_line head.cluster call.at);
      }
      stands_before (of_held_back call) = record { lines = call.printed; at = call.at; behind = _; printed = call.run; last = []; parts = refl }
      stands_before (of_unexpected call) = record {
        lines = call.printed;
        at = call.run.run.last;
        behind = call.run.run.unread;
        printed = call.run.run.steps;
        last = _;
        parts = refl;
      }
      stands_before (of_refusal call) = record {
        lines = call.printed;
        at = call.run.run.last;
        behind = Some [];
        printed = subst (λ z. Runs head.cluster head.journal.promotions (is_none z) (due 1 head.journal.events) (Some (answers_to_come all)) call.printed call.run.run.last (Some []))
            (sym call.stop) call.run.run.steps;
        last = _;
        parts = refl;
      }

      cut_off : HasSinkFailed head.cluster head.journal reading unread left before after → (part : List ℕ) × HasWrittenFront head all part before after
      cut_off cut =
          let stands = stands_before cut.call in
          let front = cut.cut.front in
          let cut_off = cut_at head.cluster head.journal.promotions (is_none all.stop) (due 1 head.journal.events) stands.at (Some (answers_to_come all)) stands.behind stands.lines stands.printed
          stands.last front.count in (
            cut_off.part,
            record {
              lines = cut_off.lines;
              at = cut_off.stands;
              behind = cut_off.behind;
              so_far = cut_off.runs;
              added = subst (λ (t : List ℕ). Adds before t after) (ap (take front.count) stands.parts ∙ cut_off.parts) front.added;
              ends = ends_now;
              begins = cut.begins;
              safe = safe_now;
            },
          )

    pub writes_safe : (status : Status) → SaysLive input left before after status → WritesASafeRun input before after status
    writes_safe Done says = written_safe Done says.written
    writes_safe Unexpected says = written_safe Unexpected says
    writes_safe Refused says = written_safe Refused says
    writes_safe TooLarge says = written_safe TooLarge says
    writes_safe Usage says = absurd says
    writes_safe NotLawful says = absurd says
    writes_safe ReadFault (amid_head amid same) = inl same
    writes_safe ReadFault (behind_head b) =
        inr (of_head_now b.bytes b.head b.reading b.unread b.begun (λ head coming. HasWrittenFront head coming [] before after)
        (same_coming input b.bytes b.unread b.head b.reading b.longest b.parts) (broken_off b.bytes b.head b.reading b.unread b.begun b.became))
    writes_safe NoMemory (at_first same) = inl same
    writes_safe NoMemory (between_two b) =
        inr (of_head_now b.bytes b.head b.reading b.unread b.begun (λ head coming. HasWrittenFront head coming [] before after)
        (same_coming input b.bytes b.unread b.head b.reading b.longest b.parts) (without_memory b.bytes b.head b.reading b.unread b.begun b.became))
    writes_safe WriteFault (of_head cut) =
        inl (refusal_text cut.line cut.why, record { line = cut.line; why = cut.why; fault = cut.fault; printed = refl }, cut.front)
    writes_safe WriteFault (of_run b) =
        inr (of_head_now b.bytes b.head b.reading b.unread b.begun (λ head coming. (part : List ℕ) × HasWrittenFront head coming part before after)
        (same_coming input b.bytes b.unread b.head b.reading b.longest b.parts) (cut_off b.bytes b.head b.reading b.unread b.begun b.became))

-- what the answer to a word that reads line by line says, where its input is told
pub promise_kept : (word : Command) (told left before after : Option (List ℕ)) (status : Status) → WordAnswers word told left before after status → intake word ≡ live
    → IfSome told (λ input. WritesASafeRun input before after status)
promise_kept Replay told left before after status answers is = IfSome_then told answers (λ input says. writes_safe input left before after status says)
promise_kept _ told left before after status answers is = absurd cc
