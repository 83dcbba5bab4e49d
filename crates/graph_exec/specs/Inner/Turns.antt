-- One transition of a replay, and what comes right after it. No public clause cites this module (rule of this project).
use Rattle.std.specs.Prelude.{◌≡◌, ◌≤◌, ◌⊎◌, ℕ, ◌+◌, Bool, true, false, Option, Some, None, Result, Ok, Err, List, ◌++◌}
use Rattle.cluster_types.specs.declared.cluster.Cluster.{Cluster}
use Rattle.cluster_types.specs.declared.journal.Answer.{Answer}
use Rattle.cluster_types.specs.declared.journal.Event.{Event}
use Rattle.cluster_types.specs.declared.journal.Journal.{Journal}
use Rattle.cluster_types.specs.declared.journal.Promotion.{Promotion}
use Rattle.cluster_types.specs.declared.placement.Placed.{Placed}
use Rattle.cluster_types.specs.declared.plan.Plan.{Plan}
use Rattle.cluster_types.specs.declared.run.RunLine.{RunLine}
use Rattle.cluster_types.specs.Runs.{RunStanding, due, idle, Runs, RunsOn, IsAsking, IsBetween, IsCutAt, IsOver, journal_at}
use Rattle.cluster_types.specs.Plans.{CarriesOut}
use Rattle.cluster_types.specs.UnpackedStates.{states_of}
use Rattle.run_safety.specs.TwoRuns.{transition_number_at}
use Rattle.graph_exec.specs.LastWords.{LastWord, none_failed}
use Rattle.graph_exec.specs.KnownJournals.{KnownJournalOf}
use Rattle.graph_exec.specs.Promises.{IsGraphPlanned}
use Rattle.graph_exec.specs.Executors.{ExecutorOf, fresh_on}
use Rattle.graph_exec.specs.SourceDuties.{TakesAnswers}
use Rattle.graph_exec.specs.WatcherLines.{ReasonsHaveNames, StopsAmong}
use Rattle.graph_exec.specs.declared.run.planning.Planned.{Planned}
use Rattle.graph_exec.specs.declared.run.stop.ReplayStop.{ReplayStop}
use Rattle.graph_exec.specs.declared.run.stop.ReplayStop.TheVariants as stop
use Rattle.graph_exec.specs.Replays.{Setting, AnswersView, replay_heard, replay_word}
use Rattle.graph_exec.specs.declared.transition.watcher.Heard.{Heard}
use Rattle.graph_exec.specs.declared.transition.watcher.Heard.TheVariants as heard

-- the journal that is handed back where a run stands
abbrev pub journal_back : Setting → RunStanding → Journal
journal_back s at = record { events = journal_at at; promotions = s.promotions }

-- a journal without what it tells
abbrev pub plain_of : KnownJournalOf → Journal
plain_of j = record { events = j.events; promotions = j.promotions }

-- the journal that a transition leaves, without what it tells
abbrev pub left_of : ExecutorOf → Journal
left_of r = record { events = r.planned_at ++ r.since; promotions = r.promotions }

-- the run from a standing on prints these lines up to another, and each of its answers was said: they are those that were taken, where the answers to come
-- are told
pub record IsSaid (s : Setting) (from at : RunStanding) (lines : List RunLine) (rest left : Option (List Answer)) : Type 0 where
  pub answers : List Answer
  pub runs : (more : List Answer) → Runs s.cluster s.promotions false from (Some (answers ++ more)) lines at (Some more)
  pub taken : TakesAnswers rest answers left

module _ (Follows : List RunLine → Type 0) (s : Setting) (from : RunStanding) (old new : AnswersView) where
  -- the run went on to here, and its lines were told. While a steady source isn't over, each of its answers was said
  pub record HasComeTo (at : RunStanding) : Type 0 where
    pub lines : List RunLine
    pub runs : Runs s.cluster s.promotions s.whole from old.rest lines at new.rest
    pub told : Follows lines
    pub said : s.steady ≡ true → new.over ≡ false → IsSaid s from at lines old.rest new.rest

  -- the same, where the journal is kept with what it tells
  pub record CameTo (at : List Event → RunStanding) (journal : KnownJournalOf) : Type 0 where
    pub cluster_stays : journal.cluster ≡ s.cluster
    pub promotions_stay : journal.promotions ≡ s.promotions
    pub came : HasComeTo (at journal.events)

-- how such a part ends the run. No transition behind that of this number has begun
module _ (Follows : List RunLine → Type 0) (s : Setting) (from : RunStanding) (old new : AnswersView) (number : ℕ) where
  pub record EndsWhole (journal : Journal) : Type 0 where
    pub last : RunStanding
    pub lines : List RunLine
    pub runs : Runs s.cluster s.promotions s.whole from old.rest lines last new.rest
    pub told : Follows lines
    pub over : IsOver s.cluster s.promotions s.whole last new.rest
    pub leaves : journal ≡ journal_back s last
    pub few : transition_number_at last ≤ number

  pub record RunEndsCut (journal : Journal) (given : Answer) : Type 0 where
    pub last : RunStanding
    pub unread : Option (List Answer)
    pub lines : List RunLine
    pub runs : Runs s.cluster s.promotions s.whole from old.rest lines last unread
    pub told : Follows lines
    pub cut : IsCutAt s.cluster s.promotions s.whole last unread given new.rest
    pub leaves : journal ≡ journal_back s last
    pub few : transition_number_at last ≤ number

  pub record EndsBroken (journal : Journal) : Type 0 where
    pub last : RunStanding
    pub lines : List RunLine
    pub runs : Runs s.cluster s.promotions s.whole from old.rest lines last new.rest
    pub told : Follows lines
    pub asking : IsAsking last
    pub said : s.steady ≡ true → IsSaid s from last lines old.rest new.rest
    pub not_over : s.steady ≡ true → old.over ≡ false
    pub leaves : journal ≡ journal_back s last
    pub few : transition_number_at last ≤ number

  pub record EndsStopped (Stopped : List RunLine → Option RunLine → Type 0) (journal : Journal) : Type 0 where
    pub before : RunStanding
    pub next : RunStanding
    pub middle : Option (List Answer)
    pub lines : List RunLine
    pub call : List RunLine
    pub runs : Runs s.cluster s.promotions s.whole from old.rest lines before middle
    pub step : RunsOn s.cluster s.promotions s.whole before middle call next new.rest
    pub told : StopsAmong (λ passed at. Stopped (lines ++ passed) (Some at)) call
    pub leaves : journal ≡ journal_back s next
    pub few : transition_number_at before ≤ number

  pub record EndsStoppedAsking (Stopped : List RunLine → Option RunLine → Type 0) (journal : Journal) : Type 0 where
    pub last : RunStanding
    pub lines : List RunLine
    pub runs : Runs s.cluster s.promotions s.whole from old.rest lines last new.rest
    pub told : Stopped lines None
    pub asking : IsAsking last
    pub leaves : journal ≡ journal_back s last
    pub few : transition_number_at last ≤ number

  pub record RunEndsBetween : Type 0 where
    pub at : RunStanding
    pub lines : List RunLine
    pub runs : Runs s.cluster s.promotions s.whole from old.rest lines at new.rest
    pub told : Follows lines
    pub between : IsBetween at
    pub few : transition_number_at at ≤ number

  -- how it ended on the way
  abbrev pub RunEndsAs : (List RunLine → Option RunLine → Type 0) → Result Journal (ReplayStop Journal) → Type 0
  RunEndsAs Stopped (Ok journal) = EndsWhole journal
  RunEndsAs Stopped (Err (stop.Unexpected journal given)) = RunEndsCut journal given
  RunEndsAs Stopped (Err (stop.SourceFault journal)) = EndsBroken journal
  RunEndsAs Stopped (Err (stop.Stopped journal)) = EndsStopped Stopped journal ⊎ EndsStoppedAsking Stopped journal
  RunEndsAs Stopped (Err (stop.Most journal)) = ⊥
  RunEndsAs Stopped (Err stop.NoMemory) = RunEndsBetween

-- the transition that is planned for a journal, of which nothing has begun
pub record IsReady (journal : KnownJournalOf) (p : Planned) : Type 0 where
  pub fresh : p.executor ≡ fresh_on journal p.executor.graph
  pub plan : IsGraphPlanned p.executor p.placed
  pub names : ReasonsHaveNames p.placed

-- for each journal that tells the states that a plan was made for, its graph carries it out
abbrev pub Serves : Cluster → Plan → Type 0
Serves c plan =
    (es : List Event) (promotions : List Promotion) → plan.states ≡ states_of c es promotions → CarriesOut c es promotions plan.placed plan.graph

-- a plan that is being carried out serves again
abbrev pub ServesAgain : Cluster → Planned → Type 0
ServesAgain c p = Serves c (record { states = p.states; rights = p.rights; placed = p.placed; graph = p.executor.graph })

-- its graph carries out a plan
pub record HasPlannedGraph (r : ExecutorOf) : Type 0 where
  pub placed : Placed
  pub planned : IsGraphPlanned r placed

-- where a run stands behind a transition, by whether it is complete
abbrev pub closed_at : ℕ → Bool → (List Event → RunStanding)
closed_at number true = idle number
closed_at number false = due (number + 1)

-- the last word of the source in a part of a run, and what the watcher said at last: the run goes on, or ends so
abbrev pub part_word : {T : Type 0} → Result T (Result Journal (ReplayStop Journal)) → LastWord
part_word (Ok made) = none_failed
part_word (Err ended) = replay_word ended

abbrev pub part_heard : {T : Type 0} → Result T (Result Journal (ReplayStop Journal)) → Heard
part_heard (Ok made) = heard.Go
part_heard (Err ended) = replay_heard ended
