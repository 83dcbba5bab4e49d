-- What the word `replay` promises of the lines that it writes, whatever status it ends with, put together (Pacemaker Administration, "Transitions";
-- Pacemaker Explained, constraints; that there is one run is a rule of this project).
use Rattle.std.specs.Prelude.{◌≡◌, ◌⊎◌, ℕ, Option, Some, List, [], ◌++◌, is_none}
use Rattle.cluster_io.specs.Streams.{Adds, AddsPrefix}
use Rattle.cluster_types.specs.declared.cluster.Cluster.{Cluster}
use Rattle.cluster_types.specs.declared.journal.Action.{Action}
use Rattle.cluster_types.specs.declared.journal.Answer.{Answer}
use Rattle.cluster_types.specs.declared.journal.Event.{Event}
use Rattle.cluster_types.specs.declared.journal.Promotion.{Promotion}
use Rattle.cluster_types.specs.declared.placement.Placed.{Placed}
use Rattle.cluster_types.specs.declared.run.RunLine.{RunLine}
use Rattle.cluster_types.specs.LawfulTables.{IsLawful}
use Rattle.cluster_types.specs.Plans.{IsPlan}
use Rattle.cluster_types.specs.Runs.{RunStanding, due, Runs}
use Rattle.cluster_types.specs.Safety.{IsSafeRun}
use Rattle.cluster_types.specs.Tables.{targets_of}
use Rattle.cluster_types.specs.Valid.{IsValid}
use Rattle.input_reading.specs.declared.input.reading.Head.{Head}
use Rattle.live_run.specs.AnswersToCome.{Coming}
use Rattle.live_run.specs.Courses.{answers_to_come}
use Rattle.live_run.specs.declared.live_end.LiveEnd.{LiveEnd}
use Rattle.live_run.specs.declared.live_end.LiveEnd.TheVariants as end
use Rattle.live_run.specs.Ends.{EndGets, IsDueEnd, run_lines_text}
use Rattle.sim_core.specs.declared.status.Status.{Status}
use Rattle.sim_core.specs.declared.status.Status.TheVariants.{Done, NoMemory, Usage, ReadFault, WriteFault, Refused, Unexpected, TooLarge, NotLawful}
use Rattle.sim_core.specs.Answers.{IsWritten}
use Rattle.sim_core.specs.Outputs.{IsRefusal}
use Rattle.sim_core.specs.Replay.{IsHeadRead, IsHeadFault, IsHeadTooLarge, coming_behind}
use Rattle.written_runs.specs.OverLines.{AreLinesSafe}

-- for a journal there is one plan, and its targets obey the mandatory rules. That each decision is the best that those before it left is part of
-- `IsPlan`
pub record HasOnePlan (c : Cluster) (promotions : List Promotion) (es : List Event) : Type 0 where
  pub placed : Placed
  pub actions : List Action
  pub plan : IsPlan c es promotions placed actions
  pub lawful : IsLawful c es (targets_of placed.table)
  pub one_placed : (other : Placed) (more : List Action) → IsPlan c es promotions other more → placed ≡ other
  pub one_list : (other : Placed) (more : List Action) → IsPlan c es promotions other more → actions ≡ more

-- the run of a head, from its first journal on, over what is to come behind it
module _ (head : Head) (coming : Coming) where
  -- it has printed these lines where it stands
  abbrev pub HasPrinted : List RunLine → RunStanding → Option (List Answer) → Type 0
  HasPrinted lines at behind =
      Runs head.cluster head.journal.promotions (is_none coming.stop) (due 1 head.journal.events) (Some (answers_to_come coming)) lines at behind

  -- it is safe wherever it stands: each journal has one plan; no action begins before all that must precede it have succeeded, no
  -- start or promote makes a copy too many or a forbidden neighbour of whatever may still run; and each complete transition ends in its targets. And as far as
  -- it goes, its lines are safe by themselves
  pub record IsSafeAllTheWay : Type 0 where
    pub valid : IsValid head.cluster
    pub plans : (es : List Event) → HasOnePlan head.cluster head.journal.promotions es
    pub safe : IsSafeRun head.cluster head.journal.promotions (is_none coming.stop) head.journal.events (Some (answers_to_come coming))
    pub by_lines : (lines : List RunLine) (at : RunStanding) (behind : Option (List Answer)) → HasPrinted lines at behind
        → AreLinesSafe head.cluster head.journal.events lines

  -- it ends so, with this text, and in no other way
  pub record IsOneSafeRun (how : LiveEnd) (text : List ℕ) : Type 0 where
    pub gets : EndGets head.cluster head.journal coming how text
    pub one : (other : LiveEnd) (also : List ℕ) → EndGets head.cluster head.journal coming other also → (how ≡ other) × (text ≡ also)
    pub safe : IsSafeAllTheWay

  -- a front of its text was written: its lines up to where it stands, and a part of what comes behind them. There is such a text: the run gets an end
  pub record HasWrittenFront (part : List ℕ) (before after : Option (List ℕ)) : Type 0 where
    pub lines : List RunLine
    pub at : RunStanding
    pub behind : Option (List Answer)
    pub so_far : HasPrinted lines at behind
    pub added : Adds before (run_lines_text head.cluster lines ++ part) after
    pub ends : (how : LiveEnd) × IsDueEnd head.cluster head.journal coming how
    pub begins : (how : LiveEnd) (text : List ℕ) → EndGets head.cluster head.journal coming how text → AddsPrefix text before after
    pub safe : IsSafeAllTheWay

-- this is so of the head of the input, and what is to come behind it: the lines from the number `next` on, of which `room` bytes lie within the limit of an input
pub record IsOfHead (input : List ℕ) (Holds : Head → Coming → Type 0) : Type 0 where
  pub bytes : List ℕ
  pub head : Head
  pub next : ℕ
  pub room : ℕ
  pub begun : IsHeadRead input bytes head next room
  pub holds : Holds head (coming_behind input bytes head next room)

-- the text is that of the one run of the input, which ends so and is safe
abbrev pub IsTextOfOneSafeRun : LiveEnd → List ℕ → List ℕ → Type 0
IsTextOfOneSafeRun how input text = IsOfHead input (λ head coming. IsOneSafeRun head coming how text)

-- with each status, the text that the input gets is that of its one run, which is safe. With 0 it is that of the whole run; with 6 and 5 that of the run up to
-- where it ends early, and the line that says so; with 7 that of the run up to the limit. Where the head isn't read there is no run: with 5 the text is then the
-- fault of the head, and with 7 nothing
abbrev pub IsSafeOutput : List ℕ → Status → List ℕ → Type 0
IsSafeOutput input Done text = IsTextOfOneSafeRun end.Done input text
IsSafeOutput input Unexpected text = IsTextOfOneSafeRun end.Unexpected input text
IsSafeOutput input Refused text = IsRefusal (IsHeadFault input) text ⊎ IsTextOfOneSafeRun end.Refused input text
IsSafeOutput input TooLarge text = IsHeadTooLarge input text ⊎ IsTextOfOneSafeRun end.TooLarge input text
IsSafeOutput input _ text = ⊥

-- what a sink holds before and after
module _ (input : List ℕ) (before after : Option (List ℕ)) where
  -- whole lines of the run were written, or nothing
  abbrev pub WritesLinesOfSafeRun : Type 0
  WritesLinesOfSafeRun = (after ≡ before) ⊎ IsOfHead input (λ head coming. HasWrittenFront head coming [] before after)

  -- behind them a part of what comes next was written; or, where the head has a fault, a part of the line that names it
  abbrev pub WritesPartOfSafeRun : Type 0
  WritesPartOfSafeRun =
      ((text : List ℕ) × IsRefusal (IsHeadFault input) text × AddsPrefix text before after)
      ⊎ IsOfHead input (λ head coming. (part : List ℕ) × HasWrittenFront head coming part before after)

  -- the promise of `replay`, for each status: the lines that it has written are those of the one run of the input, or a front of them, and that run is safe
  abbrev pub WritesASafeRun : Status → Type 0
  WritesASafeRun Done = IsWritten (IsSafeOutput input) Done before after
  WritesASafeRun NoMemory = WritesLinesOfSafeRun
  WritesASafeRun Usage = ⊥
  WritesASafeRun ReadFault = WritesLinesOfSafeRun
  WritesASafeRun WriteFault = WritesPartOfSafeRun
  WritesASafeRun Refused = IsWritten (IsSafeOutput input) Refused before after
  WritesASafeRun Unexpected = IsWritten (IsSafeOutput input) Unexpected before after
  WritesASafeRun TooLarge = IsWritten (IsSafeOutput input) TooLarge before after
  WritesASafeRun NotLawful = ⊥
