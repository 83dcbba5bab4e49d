-- What a transition makes of a source of outcomes, by how it ended (rule of this project).
use Rattle.std.specs.Prelude.{◌≡◌, ◌++◌, ℕ, Bool, true, false, Option, Some, List, [], find}
use Rattle.cluster_types.specs.declared.cluster.Cluster.{Cluster}
use Rattle.cluster_types.specs.declared.journal.Answer.{Answer}
use Rattle.cluster_types.specs.declared.journal.Event.{Event}
use Rattle.cluster_types.specs.AnswersThatApply.{applies_after}
use Rattle.cluster_types.specs.Journals.{in_flight_by_begin}
use Rattle.cluster_types.specs.Sources.{Says}
use Rattle.cluster_types.specs.Steps.{HasEnded, IsWaiting, aborts, all_succeeded, in_flight_by_number, has_aborted, count_from_outside}
use Rattle.graph_exec.specs.declared.transition.ends.WatchedEnd.{WatchedEnd}
use Rattle.graph_exec.specs.declared.transition.ends.WatchedEnd.TheVariants as how
use Rattle.graph_exec.specs.Executors.{ExecutorOf, Went, transition_in}
use Rattle.graph_exec.specs.SourceDuties.{TakesAnswers}

-- it has ended: each action has succeeded, and nothing aborted
pub record IsComplete (r : ExecutorOf) : Type 0 where
  pub ended : HasEnded (transition_in r) r.since
  pub unaborted : has_aborted (transition_in r) r.since ≡ false
  pub succeeded : all_succeeded (transition_in r) r.since ≡ true

-- it has ended, and this was the first event that aborted it
pub record IsAborted (r : ExecutorOf) (first : Event) : Type 0 where
  pub ended : HasEnded (transition_in r) r.since
  pub first_is : find (aborts r.cluster) r.since ≡ Some first

-- an answer was asked for, and this one doesn't apply
pub record IsCutBy (r : ExecutorOf) (given : Answer) : Type 0 where
  pub waiting : IsWaiting (transition_in r) r.since
  pub refused : applies_after r.cluster (r.planned_at ++ r.since) (in_flight_by_number (transition_in r) r.since) (count_from_outside (transition_in r) r.since) given ≡ false

-- how it stands, by how it ended. Where a watcher stopped it, nothing is said here
abbrev pub EndsAs : ExecutorOf → WatchedEnd → Type 0
EndsAs r how.Complete = IsComplete r
EndsAs r (how.Aborted event) = IsAborted r event
EndsAs r (how.Unexpected given) = IsCutBy r given
EndsAs r how.SourceFault = IsWaiting (transition_in r) r.since
EndsAs r how.Stopped = Unit {0}

-- it went on by steps, and behind them this answer was said
pub record WentBeforeSaid (whole : Bool) (old new : ExecutorOf) (rest left : Option (List Answer)) (given : Answer) : Type 0 where
  pub before : Option (List Answer)
  pub went : Went whole old new rest before
  pub said : Says whole before (Some given) left

-- how it went on, by how it ended: where an answer doesn't apply, that was said behind the steps
abbrev pub WentByEnd : Bool → ExecutorOf → ExecutorOf → Option (List Answer) → Option (List Answer) → WatchedEnd → Type 0
WentByEnd whole old new rest left (how.Unexpected given) = WentBeforeSaid whole old new rest left given
WentByEnd whole old new rest left _ = Went whole old new rest left

-- nothing was in flight when the transition was planned, and the source agrees with what has happened
pub record Accords (agrees : Cluster → List Event → ℕ → Type 0) (r : ExecutorOf) : Type 0 where
  pub idle : in_flight_by_begin r.planned_at ≡ []
  pub agrees_now : agrees r.cluster (r.planned_at ++ r.since) (count_from_outside (transition_in r) r.since)

-- it has ended by itself: complete, or aborted
abbrev pub EndedByItself : WatchedEnd → Type 0
EndedByItself how.Complete = Unit {0}
EndedByItself (how.Aborted event) = Unit {0}
EndedByItself _ = ⊥

-- no answer came that doesn't apply
abbrev pub IsExpected : WatchedEnd → Type 0
IsExpected (how.Unexpected given) = ⊥
IsExpected _ = Unit {0}

-- it went on by the steps of some answers, and no action ended silently. Where the answers to come are told, they are those that were taken
pub record WentAsSaid (old new : ExecutorOf) (rest left : Option (List Answer)) : Type 0 where
  pub answers : List Answer
  pub went : Went false old new (Some answers) (Some [])
  pub taken : TakesAnswers rest answers left

-- what a steady source has said. Where it failed it wasn't over before, and where it isn't over now: no action has ended silently, and the steps took just the
-- answers that it gave
pub record HasSaidAll (old new : ExecutorOf) (rest left : Option (List Answer)) (over over_now : Bool) (end : WatchedEnd) : Type 0 where
  pub failed : end ≡ how.SourceFault → WentAsSaid old new rest left
  pub not_over : end ≡ how.SourceFault → over ≡ false
  pub to_end : over_now ≡ false → EndedByItself end → WentAsSaid old new rest left
