-- A run that is kept: its transitions, each with the plan for the journal up to it, their places in the journal, and how they ended (Pacemaker
-- Administration, "Transitions"; when a run ends is a rule of this project).
use Rattle.std.specs.Prelude.{◌≡◌, ◌≤◌, ℕ, Bool, true, false, Option, Result, Ok, Err, List, length, take}
use Rattle.std.specs.List.{AllByRecursion}
use Rattle.cluster_types.specs.declared.cluster.Cluster.{Cluster}
use Rattle.cluster_types.specs.declared.journal.Action.{Action}
use Rattle.cluster_types.specs.declared.journal.Answer.{Answer}
use Rattle.cluster_types.specs.declared.journal.Event.{Event}
use Rattle.cluster_types.specs.declared.journal.Promotion.{Promotion}
use Rattle.cluster_types.specs.declared.placement.Placed.{Placed}
use Rattle.cluster_types.specs.declared.run.Passed.{Passed}
use Rattle.cluster_types.specs.declared.run.PassedEnd.{PassedEnd}
use Rattle.cluster_types.specs.declared.run.PassedEnd.TheVariants.{Complete, Aborted, Cut}
use Rattle.cluster_types.specs.declared.run.Run.{Run}
use Rattle.cluster_types.specs.Plans.{IsPlan, transition_of}
use Rattle.cluster_types.specs.Steps.{Transition, HasEnded, IsWaiting, has_aborted}
use Rattle.cluster_types.specs.Texts.{PassedFits, between, run_lines}
use Rattle.graph_exec.specs.LastWords.{LastWord, run_word, word_open}
use Rattle.graph_exec.specs.RunEnds.{EndOfRun, EndsSo, at_most, in_failure, unexpected, with_all}
use Rattle.graph_exec.specs.declared.run.stop.ReplayStop.{ReplayStop}
use Rattle.graph_exec.specs.declared.run.stop.ReplayStop.TheVariants as stop

-- how a transition stands after these events: it has ended and nothing aborted, or it has ended aborted; or it is cut where it waits for an answer
abbrev pub StandsSo : Transition → List Event → PassedEnd → Type 0
StandsSo t since Complete = HasEnded t since × (has_aborted t since ≡ false)
StandsSo t since Aborted = HasEnded t since × (has_aborted t since ≡ true)
StandsSo t since Cut = IsWaiting t since

module _ (c : Cluster) (promotions : List Promotion) where
  -- what is kept of a transition is what was planned for the journal up to its first event, and how it stands after its last
  pub record IsPassedOfPlan (es : List Event) (p : Passed) : Type 0 where
    pub placed : Placed
    pub actions : List Action
    pub plan : IsPlan c (take p.begins_at es) promotions placed actions
    pub pins : p.pins ≡ placed.pins
    pub table : p.table ≡ placed.table
    pub reasons : p.none ≡ placed.none
    pub stands : StandsSo (transition_of c (take p.begins_at es) actions) (between p.begins_at p.ends_at es) p.end
    pub fits : PassedFits c es p

  -- each transition that is kept is that of its plan, and there are no more of them than were allowed
  pub record KeepsPlans (most : ℕ) (run : Run) : Type 0 where
    pub each : AllByRecursion (IsPassedOfPlan run.journal.events) run.passed
    pub few : length run.passed ≤ most

  module _ (whole steady : Bool) (es : List Event) (rest left : Option (List Answer)) where
    -- the run ended so, and it is kept
    abbrev pub IsRunKept : Run → EndOfRun → Type 0
    IsRunKept run end = EndsSo c promotions whole steady es rest left (run_lines c run) run.journal.events end

    -- what is kept, by how the run ended, where so many transitions were allowed. No watcher stops it
    abbrev pub KeepsAs : ℕ → Result Run (ReplayStop Run) → Type 0
    KeepsAs most (Ok run) = IsRunKept run with_all
    KeepsAs most (Err (stop.Unexpected run given)) = IsRunKept run (unexpected given)
    KeepsAs most (Err (stop.SourceFault run)) = IsRunKept run in_failure
    KeepsAs most (Err (stop.Stopped run)) = ⊥
    KeepsAs most (Err (stop.Most run)) = IsRunKept run (at_most most)
    KeepsAs most (Err stop.NoMemory) = Unit {0}

-- the last word of the source of a run that is kept. Out of memory it isn't told
abbrev pub kept_run_word : {T : Type 0} → Result T (ReplayStop T) → LastWord
kept_run_word end = run_word word_open end
