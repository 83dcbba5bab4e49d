-- How often a source of outcomes is asked, by the answers that enter the journal (rule of this project).
use Rattle.std.specs.Prelude.{◌≤◌, ◌+◌, ℕ, Bool, true, false, Result, Ok, Err, List, count_by}
use Rattle.std.specs.List.{flat_map}
use Rattle.cluster_types.specs.declared.journal.Event.{Event}
use Rattle.cluster_types.specs.declared.journal.Journal.{Journal}
use Rattle.cluster_types.specs.declared.run.Run.{Run}
use Rattle.cluster_types.specs.declared.run.RunLine.{RunLine}
use Rattle.cluster_types.specs.declared.run.RunLine.TheVariants as line
use Rattle.cluster_types.specs.Texts.{event_lines}
use Rattle.graph_exec.specs.declared.run.stop.ReplayStop.{ReplayStop}
use Rattle.graph_exec.specs.declared.run.stop.ReplayStop.TheVariants as stop
use Rattle.graph_exec.specs.declared.transition.ends.WatchedEnd.{WatchedEnd}
use Rattle.graph_exec.specs.declared.transition.ends.WatchedEnd.TheVariants as how

-- the line says that an answer was taken. A silent end has one too
abbrev pub is_answer_line : RunLine → Bool
is_answer_line (line.Taken given) = true
is_answer_line _ = false

-- how many lines of answers these events have, silent ends among them. Of a journal that grew in a run the difference says how many answers entered it
abbrev pub answers_entered : List Event → ℕ
answers_entered es = count_by is_answer_line (flat_map event_lines es)

-- from one journal to a later one the source was asked no more often than answers entered it, but for so many questions beside
pub record AskedBeside (beside before now : ℕ) (es es_now : List Event) : Type 0 where
  pub few : now + answers_entered es ≤ before + answers_entered es_now + beside

-- how many questions of a transition entered no answer: the last one, where an answer doesn't apply or the source failed
abbrev pub questions_beside : WatchedEnd → ℕ
questions_beside (how.Unexpected given) = 1
questions_beside how.SourceFault = 1
questions_beside _ = 0

-- the events of what is handed back
abbrev pub events_left : Journal → List Event
events_left journal = journal.events

abbrev pub events_kept : Run → List Event
events_kept run = run.journal.events

-- how often a source was asked in a run, by how that ended: the last question entered no answer where nothing more was said while nothing was to be done, where
-- an answer doesn't apply, and where the source failed. Out of memory, nothing is handed back
module _ {T : Type 0} (events : T → List Event) (before now : ℕ) (es : List Event) where
  abbrev pub AskedByEnd : Result T (ReplayStop T) → Type 0
  AskedByEnd (Ok made) = AskedBeside 1 before now es (events made)
  AskedByEnd (Err (stop.Unexpected made given)) = AskedBeside 1 before now es (events made)
  AskedByEnd (Err (stop.SourceFault made)) = AskedBeside 1 before now es (events made)
  AskedByEnd (Err (stop.Stopped made)) = AskedBeside 0 before now es (events made)
  AskedByEnd (Err (stop.Most made)) = AskedBeside 0 before now es (events made)
  AskedByEnd (Err stop.NoMemory) = Unit {0}
