-- What a watcher was told of a transition, from one moment of it to another, and what it was shown (rule of this project).
use Rattle.std.specs.Prelude.{◌≡◌, ◌⊎◌, ◌++◌, ◌∷◌, Bool, Option, Some, None, List, []}
use Rattle.std.specs.List.{flat_map}
use Rattle.cluster_types.specs.declared.journal.Answer.{Answer}
use Rattle.cluster_types.specs.declared.journal.Event.{Event}
use Rattle.cluster_types.specs.declared.run.RunLine.{RunLine}
use Rattle.cluster_types.specs.Journals.{in_flight_by_begin}
use Rattle.cluster_types.specs.Steps.{IsWaiting, StepsOn}
use Rattle.cluster_types.specs.Texts.{event_lines}
use Rattle.graph_exec.specs.declared.transition.ends.End.{End}
use Rattle.graph_exec.specs.declared.transition.ends.End.TheVariants as plain
use Rattle.graph_exec.specs.declared.transition.ends.WatchedEnd.{WatchedEnd}
use Rattle.graph_exec.specs.declared.transition.ends.WatchedEnd.TheVariants as how
use Rattle.graph_exec.specs.declared.transition.watcher.Heard.{Heard}
use Rattle.graph_exec.specs.declared.transition.watcher.Heard.TheVariants as heard
use Rattle.graph_exec.specs.Executors.{ExecutorOf, Went, transition_in, later}
use Rattle.graph_exec.specs.WatcherLines.{RunView, view_amid}

-- the end of a transition that no watcher stopped
abbrev pub watched : End → WatchedEnd
watched plain.Complete = how.Complete
watched (plain.Aborted event) = how.Aborted event
watched (plain.Unexpected given) = how.Unexpected given
watched plain.SourceFault = how.SourceFault

-- what the watcher said at last
abbrev pub heard_at : WatchedEnd → Heard
heard_at how.Stopped = heard.Stop
heard_at _ = heard.Go

-- the watcher went on by the lines of all that has happened from one moment to the other
pub record AreLinesTold (Follows : List RunLine → Type 0) (old new : ExecutorOf) : Type 0 where
  pub events : List Event
  pub happened : new.since ≡ old.since ++ events
  pub told : Follows (flat_map event_lines events)

-- the watcher stopped at the line of the last step, behind the lines of all steps before it
pub record IsWatcherCutOff (Stopped : List RunLine → Option RunLine → Type 0) (whole : Bool) (old new : ExecutorOf) (rest left : Option (List Answer)) : Type 0 where
  pub at : ExecutorOf
  pub middle : Option (List Answer)
  pub before : List Event
  pub events : List Event
  pub line : RunLine
  pub went : Went whole old at rest middle
  pub happened : at.since ≡ old.since ++ before
  pub step : StepsOn (transition_in at) whole at.since middle events left
  pub last : new ≡ later at events
  pub line_is : flat_map event_lines events ≡ line ∷ []
  pub stopped : Stopped (flat_map event_lines before) (Some line)

-- or as the source was about to be asked, behind the lines of all that has happened
pub record IsWatcherCutOffAsking (Stopped : List RunLine → Option RunLine → Type 0) (old new : ExecutorOf) : Type 0 where
  pub waiting : IsWaiting (transition_in new) new.since
  pub told : AreLinesTold (λ lines. Stopped lines None) old new

-- what the watcher was told, by what it said at last: it went on; or it stopped, at the line of the last step or as the source was about to be asked
abbrev pub IsToldUpTo : (List RunLine → Type 0) → (List RunLine → Option RunLine → Type 0) → Bool → ExecutorOf → ExecutorOf → Option (List Answer) → Option (List Answer) → Heard → Type 0
IsToldUpTo Follows Stopped whole old new rest left heard.Go = AreLinesTold Follows old new
IsToldUpTo Follows Stopped whole old new rest left heard.Stop = IsWatcherCutOff Stopped whole old new rest left ⊎ IsWatcherCutOffAsking Stopped old new

-- where the source has failed as it waited for what comes next, the watcher held nothing back
abbrev pub IsQuietAt : Type 0 → Type 0 → WatchedEnd → Type 0
IsQuietAt broke quiet how.SourceFault = broke → quiet
IsQuietAt broke quiet _ = Unit {0}

-- a transition as a watcher is shown it
abbrev pub view_of : ExecutorOf → RunView
view_of r = view_amid r.cluster r.promotions r.graph.actions (r.planned_at ++ r.since)

-- nothing was in flight when the transition was planned, and the watcher has been shown all of it
pub record IsShownAll (Shown : RunView → Type 0) (r : ExecutorOf) : Type 0 where
  pub idle : in_flight_by_begin r.planned_at ≡ []
  pub shown_now : Shown (view_of r)
