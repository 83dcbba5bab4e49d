-- What an auditor has come to, which compares the lines of a run with written ones (rule of this project). No public clause cites this module.
use Rattle.std.specs.Prelude.{◌≡◌, ◌≢◌, ◌≤◌, Bool, true, false, Option, Some, None, List, [], ◌++◌, length, take, filter, slice_get}
use Rattle.std.specs.List.{flat_map}
use Rattle.cluster_types.specs.declared.cluster.Cluster.{Cluster}
use Rattle.cluster_types.specs.declared.journal.Event.{Event}
use Rattle.cluster_types.specs.declared.run.RunLine.{RunLine}
use Rattle.cluster_types.specs.declared.run.RunLine.TheVariants as line
use Rattle.cluster_types.specs.Texts.{event_lines}
use Rattle.graph_exec.specs.declared.transition.watcher.Heard.{Heard}
use Rattle.graph_exec.specs.declared.transition.watcher.Heard.TheVariants as heard
use Rattle.graph_exec.specs.WatcherLines.{RunView}
use Rattle.sim_core.specs.declared.auditor.Auditor.{Auditor}
use Rattle.sim_core.specs.LawfulRuns.{clause_of, said}

-- the cluster of the run, and the written lines
abbrev pub audited_cluster : Auditor → Cluster
audited_cluster a = a.cluster.now

abbrev pub audited_lines : Auditor → List RunLine
audited_lines a = said a.lines.now

-- a line that an event prints: a begin, or an answer
abbrev pub is_event_line : RunLine → Bool
is_event_line (line.Begin k action) = true
is_event_line (line.Taken given) = true
is_event_line _ = false

-- the begins and answers that it has passed are the lines of the events behind some first ones, but for these
pub record ShowsEvents (a : Auditor) (es : List Event) (but : List RunLine) : Type 0 where
  pub first : List Event
  pub events : List Event
  pub parts : es ≡ first ++ events
  pub lines_are : flat_map event_lines events ≡ filter is_event_line (take a.place (audited_lines a)) ++ but

-- where it stopped, the line of the last event may be another
pub record ShowsButLast (a : Auditor) (es : List Event) : Type 0 where
  pub last : List RunLine
  pub shows : ShowsEvents a es last

-- what it has been shown: an auditor that was told no line yet has been shown each journal
abbrev pub ShowsRun : Auditor → Heard → RunView → Type 0
ShowsRun a heard.Go v = ShowsEvents a v.events []
ShowsRun a heard.Stop v = ShowsButLast a v.events

-- it was told these lines, which are the next of the written ones
pub record PassesLines (old new : Auditor) (lines : List RunLine) : Type 0 where
  pub cluster_stays : audited_cluster new ≡ audited_cluster old
  pub lines_stay : new.lines.now ≡ old.lines.now
  pub within : old.place ≤ length (audited_lines old) → new.place ≤ length (audited_lines new)
  pub passed : take new.place (audited_lines new) ≡ take old.place (audited_lines old) ++ lines

-- behind them it was told this line, and has stopped: the next of the written ones, if any, is another. It keeps what kind of line was due
pub record StopsAtLine (old new : Auditor) (lines : List RunLine) (at : RunLine) : Type 0 where
  pub passes : PassesLines old new lines
  pub different : slice_get (audited_lines new) new.place ≢ Some at
  pub due_is : new.due ≡ Some (clause_of at)

-- it has stopped so where it was told a line. Before a question to the source it always goes on
abbrev pub HasSaidStop : Auditor → Auditor → List RunLine → Option RunLine → Type 0
HasSaidStop old new lines (Some at) = StopsAtLine old new lines at
HasSaidStop old new lines None = ⊥
