-- What one round of a transition makes. No public clause cites this module (rule of this project).
use Rattle.std.specs.Prelude.{◌≡◌, ◌+◌, ◌-◌, ◌<◌, ℕ, Bool, not, Option, Some, None, Result, Ok, Err, List, [], ◌∷◌, ◌++◌, count_by}
use Rattle.std.specs.List.{flat_map}
use Rattle.cluster_types.specs.declared.cluster.Cluster.{Cluster}
use Rattle.cluster_types.specs.declared.journal.Action.{Action}
use Rattle.cluster_types.specs.declared.journal.Answer.{Answer}
use Rattle.cluster_types.specs.declared.journal.Event.{Event}
use Rattle.cluster_types.specs.declared.journal.Event.TheVariants.{Begin}
use Rattle.cluster_types.specs.declared.run.RunLine.TheVariants as line
use Rattle.cluster_types.specs.AnswersThatApply.{most_from_outside}
use Rattle.cluster_types.specs.Sources.{Says}
use Rattle.cluster_types.specs.Steps.{Applies, IsWaiting, StepsOn, answer_events, has_begun, has_number_ended, numbers, count_from_outside}
use Rattle.cluster_types.specs.Texts.{event_lines}
use Rattle.graph_exec.specs.declared.transition.ends.WatchedEnd.{WatchedEnd}
use Rattle.graph_exec.specs.declared.transition.ends.WatchedEnd.TheVariants as how
use Rattle.graph_exec.specs.declared.transition.outcomes.Outcomes.{Ghosts as OutcomesOf}
use Rattle.graph_exec.specs.declared.transition.watcher.Heard.{Heard}
use Rattle.graph_exec.specs.declared.transition.watcher.Heard.TheVariants as says
use Rattle.graph_exec.specs.Questions.{answers_entered}
use Rattle.graph_exec.specs.LastWords.{LastWord, none_failed, transition_word}
use Rattle.graph_exec.specs.Executors.{ExecutorOf, BeginsNow, IsAnswerRefused, Went, transition_in, later}
use Rattle.graph_exec.specs.WatchedTransitions.{heard_at}

-- how many actions may begin yet, how many may end, and how often an answer may be taken
abbrev pub begins_left : ExecutorOf → ℕ
begins_left r = count_by (λ k. not (has_begun (transition_in r) r.since k)) (numbers (transition_in r))

abbrev pub ends_left : ExecutorOf → ℕ
ends_left r = count_by (λ k. not (has_number_ended (transition_in r) r.since k)) (numbers (transition_in r))

abbrev pub asks_left : ExecutorOf → ℕ
asks_left r = ends_left r + (most_from_outside - count_from_outside (transition_in r) r.since)

-- some action begins: of those that may, the one of lowest number
pub record Began (old new : ExecutorOf) : Type 0 where
  pub number : ℕ
  pub now : BeginsNow old new number

-- the source was told of this begin: it has come so from an earlier moment, and with each journal with which it agreed then it agrees now, with the begin in it
module _ {A : Type 0} (s : OutcomesOf A) where
  pub record IsBeginTold (now : A) (number : ℕ) (action : Action) : Type 0 where
    pub before : A
    pub follows : s.follows before now
    pub agrees : (c : Cluster) (es : List Event) (taken : ℕ) → s.agrees before c es taken → s.agrees now c (es ++ Begin number action ∷ []) taken

-- an answer was taken, or an action ended silently, as if this had been answered
pub record Answered (whole : Bool) (old new : ExecutorOf) (rest left : Option (List Answer)) (given : Answer) : Type 0 where
  pub events : List Event
  pub step : StepsOn (transition_in old) whole old.since rest events left
  pub goes_on : new ≡ later old events
  pub adds : events ≡ answer_events (transition_in old) old.since given
  pub applies : Applies (transition_in old) old.since given
  pub lines : flat_map event_lines events ≡ line.Taken given ∷ []
  pub fewer : asks_left new < asks_left old

-- it went on, an answer fewer may be taken, and one has entered the events
pub record Advanced (whole : Bool) (old new : ExecutorOf) (rest left : Option (List Answer)) : Type 0 where
  pub went : Went whole old new rest left
  pub fewer : asks_left new < asks_left old
  pub entered : answers_entered new.since ≡ answers_entered old.since + 1

-- the answer doesn't apply
pub record IsUnexpected (whole : Bool) (old new : ExecutorOf) (rest left : Option (List Answer)) (given : Answer) : Type 0 where
  pub waiting : IsWaiting (transition_in old) old.since
  pub said : Says whole rest (Some given) left
  pub refused : IsAnswerRefused old new given

-- the source failed
pub record HasSourceFailed (old new : ExecutorOf) (rest left : Option (List Answer)) : Type 0 where
  pub waiting : IsWaiting (transition_in old) old.since
  pub same : new ≡ old
  pub left_is : left ≡ rest

-- the last word of the source: of a question, and of a round
abbrev pub asked_word : {T : Type 0} → Result T WatchedEnd → LastWord
asked_word (Ok given) = none_failed
asked_word (Err end) = transition_word end

abbrev pub round_word : Option WatchedEnd → LastWord
round_word None = none_failed
round_word (Some end) = transition_word end

-- what the watcher said at last
abbrev pub heard_in : Option WatchedEnd → Heard
heard_in (Some end) = heard_at end
heard_in None = says.Go

-- why no answer was taken
abbrev pub StopsAs : Bool → ExecutorOf → ExecutorOf → Option (List Answer) → Option (List Answer) → WatchedEnd → Type 0
StopsAs whole old new rest left (how.Unexpected given) = IsUnexpected whole old new rest left given
StopsAs whole old new rest left how.SourceFault = HasSourceFailed old new rest left
StopsAs whole old new rest left _ = ⊥
