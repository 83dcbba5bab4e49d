-- What a replay makes: a run from a journal on, of which a watcher is told the lines (Pacemaker Administration, "Transitions"; when a run ends is a
-- rule of this project).
use Rattle.std.specs.Prelude.{◌≡◌, ◌≤◌, ◌⊎◌, ◌++◌, ℕ, Bool, Option, Some, None, Result, Ok, Err, List}
use Rattle.cluster_types.specs.declared.cluster.Cluster.{Cluster}
use Rattle.cluster_types.specs.declared.journal.Action.{Action}
use Rattle.cluster_types.specs.declared.journal.Answer.{Answer}
use Rattle.cluster_types.specs.declared.journal.Event.{Event}
use Rattle.cluster_types.specs.declared.journal.Journal.{Journal}
use Rattle.cluster_types.specs.declared.journal.Promotion.{Promotion}
use Rattle.cluster_types.specs.declared.run.RunLine.{RunLine}
use Rattle.cluster_types.specs.Journals.{Orderly}
use Rattle.cluster_types.specs.Runs.{RunStanding, due, Runs, IsBetween, IsRunSoFar, IsStoppedRun}
use Rattle.graph_exec.specs.LastWords.{LastWord, none_failed, run_word}
use Rattle.graph_exec.specs.RunEnds.{EndOfRun, EndsSo, at_most, in_failure, unexpected, with_all}
use Rattle.graph_exec.specs.WatcherLines.{RunView, StopsAmong, transitions_in, view_between}
use Rattle.graph_exec.specs.declared.transition.watcher.Heard.{Heard}
use Rattle.graph_exec.specs.declared.transition.watcher.Heard.TheVariants as heard
use Rattle.graph_exec.specs.declared.run.stop.ReplayStop.{ReplayStop}
use Rattle.graph_exec.specs.declared.run.stop.ReplayStop.TheVariants as stop

-- what is the same all along a run: the cluster, the promotion scores of the status, whether the answers to come are known to be all, and whether the source
-- never fails once it has nothing more to say
pub record Setting : Type 0 where
  pub cluster : Cluster
  pub promotions : List Promotion
  pub whole : Bool
  pub steady : Bool

abbrev pub setting : Cluster → List Promotion → Bool → Bool → Setting
setting c promotions whole steady = record { cluster = c; promotions = promotions; whole = whole; steady = steady }

-- the source at a moment: the answers to come, and whether the source never fails from now on. No public definition reads the second: it is what one part of
-- a run hands on to the next, so that a source that fails is known to have failed in no part before (specs/Inner/Turns.antt)
pub record AnswersView : Type 0 where
  pub rest : Option (List Answer)
  pub over : Bool

abbrev pub sight : Option (List Answer) → Bool → AnswersView
sight rest over = record { rest = rest; over = over }

-- what the watcher has come to, of some lines: it went on by them, or stopped behind them, at a line or as the source was about to be asked. So many transitions
-- were allowed, and no more have begun, however the run ended
module _ (Follows : List RunLine → Type 0) (Stopped : List RunLine → Option RunLine → Type 0) (s : Setting) (es : List Event) (old new : AnswersView) (most : ℕ) where
  -- the run ended so, and each of its lines was told
  pub record IsRunTold (journal : Journal) (end : EndOfRun) : Type 0 where
    pub lines : List RunLine
    pub ended : EndsSo s.cluster s.promotions s.whole s.steady es old.rest new.rest lines journal.events end
    pub told : Follows lines
    pub few : transitions_in lines ≤ most

  -- the run was made up to where the watcher stopped: at a line of its last call, each line before which was told
  pub record IsStopped (journal : Journal) : Type 0 where
    pub lines : List RunLine
    pub call : List RunLine
    pub closing : List RunLine
    pub run : IsStoppedRun s.cluster s.promotions s.whole es old.rest lines call closing journal.events new.rest
    pub told : StopsAmong (λ before at. Stopped (lines ++ before) (Some at)) call
    pub few : transitions_in (lines ++ call) ≤ most

  -- the run was made up to where an answer is asked for, and the watcher stopped before that: each line up to there was told
  pub record IsStoppedAsking (journal : Journal) : Type 0 where
    pub lines : List RunLine
    pub run : IsRunSoFar s.cluster s.promotions s.whole es old.rest lines journal.events new.rest
    pub told : Stopped lines None
    pub few : transitions_in lines ≤ most

  -- the run was made up to where it is in no transition, and each line up to there was told
  pub record IsBetweenTwo : Type 0 where
    pub lines : List RunLine
    pub at : RunStanding
    pub run : Runs s.cluster s.promotions s.whole (due 1 es) old.rest lines at new.rest
    pub between : IsBetween at
    pub told : Follows lines
    pub few : transitions_in lines ≤ most

  -- which run was made, and what the watcher was told of it, by how it ended
  abbrev pub ReplaysAs : Result Journal (ReplayStop Journal) → Type 0
  ReplaysAs (Ok journal) = IsRunTold journal with_all
  ReplaysAs (Err (stop.Unexpected journal given)) = IsRunTold journal (unexpected given)
  ReplaysAs (Err (stop.SourceFault journal)) = IsRunTold journal in_failure
  ReplaysAs (Err (stop.Stopped journal)) = IsStopped journal ⊎ IsStoppedAsking journal
  ReplaysAs (Err (stop.Most journal)) = IsRunTold journal (at_most most)
  ReplaysAs (Err stop.NoMemory) = IsBetweenTwo

-- the fact holds of what is handed back: the journal, or the run that is kept. Out of memory, nothing is
abbrev pub OfMade : {T : Type 0} → (T → Type 0) → Result T (ReplayStop T) → Type 0
OfMade P (Ok made) = P made
OfMade P (Err (stop.Unexpected made given)) = P made
OfMade P (Err (stop.SourceFault made)) = P made
OfMade P (Err (stop.Stopped made)) = P made
OfMade P (Err (stop.Most made)) = P made
OfMade P (Err stop.NoMemory) = Unit {0}

-- the journal is in order and has the promotion scores of the first
pub record IsJournalKept (promotions : List Promotion) (journal : Journal) : Type 0 where
  pub in_order : Orderly journal.events
  pub promotions_stay : journal.promotions ≡ promotions

-- the source agrees with the journal
abbrev pub AgreesWith : (Cluster → List Event → ℕ → Type 0) → Cluster → Journal → Type 0
AgreesWith agrees c journal = agrees c journal.events 0

-- the watcher has been shown this journal, and said this at last. A plan may have been under way
pub record IsShownTo (Shown : Heard → RunView → Type 0) (c : Cluster) (promotions : List Promotion) (said : Heard) (es : List Event) : Type 0 where
  pub plan : Option (List Action)
  pub shown_last : Shown said (record { cluster = c; promotions = promotions; plan = plan; events = es })

-- the watcher has been shown the journal that is handed back, by how the run ended. At the end of a transition no plan is under way any more
abbrev pub IsShownEnd : (Heard → RunView → Type 0) → Cluster → List Promotion → Result Journal (ReplayStop Journal) → Type 0
IsShownEnd Shown c promotions (Ok journal) = Shown heard.Go (view_between c promotions journal.events)
IsShownEnd Shown c promotions (Err (stop.Unexpected journal given)) = IsShownTo Shown c promotions heard.Go journal.events
IsShownEnd Shown c promotions (Err (stop.SourceFault journal)) = IsShownTo Shown c promotions heard.Go journal.events
IsShownEnd Shown c promotions (Err (stop.Stopped journal)) = IsShownTo Shown c promotions heard.Stop journal.events
IsShownEnd Shown c promotions (Err (stop.Most journal)) = Shown heard.Go (view_between c promotions journal.events)
IsShownEnd Shown c promotions (Err stop.NoMemory) = Unit {0}

-- where the source has failed as it waited for what comes next, the watcher held nothing back
abbrev pub IsQuietInFault : Type 0 → Type 0 → Result Journal (ReplayStop Journal) → Type 0
IsQuietInFault broke quiet (Err (stop.SourceFault journal)) = broke → quiet
IsQuietInFault broke quiet _ = Unit {0}

-- no answer came that doesn't apply
abbrev pub IsReplayExpected : {T : Type 0} → Result T (ReplayStop T) → Type 0
IsReplayExpected (Err (stop.Unexpected made given)) = ⊥
IsReplayExpected _ = Unit {0}

-- the last word of the source of a run. Out of memory no question failed
abbrev pub replay_word : Result Journal (ReplayStop Journal) → LastWord
replay_word end = run_word none_failed end

-- what the watcher said at last: it went on each time, or has stopped the run
abbrev pub replay_heard : Result Journal (ReplayStop Journal) → Heard
replay_heard (Ok journal) = heard.Go
replay_heard (Err (stop.Unexpected journal given)) = heard.Go
replay_heard (Err (stop.SourceFault journal)) = heard.Go
replay_heard (Err (stop.Stopped journal)) = heard.Stop
replay_heard (Err (stop.Most journal)) = heard.Go
replay_heard (Err stop.NoMemory) = heard.Go
