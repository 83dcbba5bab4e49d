-- What lasts of sources and watchers, by how a run ends.
use Rattle.graph_exec.specs.declared.run.stop.ReplayStop.{ReplayStop}
use Rattle.graph_exec.specs.declared.run.stop.ReplayStop.TheVariants as stop
use Rattle.cluster_types.specs.declared.journal.Answer.{Answer}
use Rattle.cluster_types.specs.declared.journal.Journal.{Journal}
use Rattle.cluster_types.specs.declared.run.Passed.{Passed}
use Rattle.std.specs.Prelude.{Bool, Option, Result, Ok, Err, List}
use Rattle.graph_exec.specs.declared.transition.outcomes.Outcomes.{Ghosts as OutcomesOf}
use Rattle.graph_exec.specs.declared.transition.watcher.Heard.TheVariants as heard
use Rattle.graph_exec.specs.declared.transition.watcher.Watcher.{Ghosts as WatcherOf}
use Rattle.graph_exec.specs.Inner.KeptTransitions.{IsUnanswered, kept_end}
use Rattle.graph_exec.specs.KnownJournals.{KnownJournalOf}
use Rattle.graph_exec.specs.KeptRuns.{kept_run_word}
use Rattle.graph_exec.specs.LastWords.{none_failed, SourceLasts, WatcherLasts}
use Rattle.graph_exec.specs.Replays.{replay_heard, replay_word}
use Rattle.graph_exec.proofs.Lasts.{source_open}

-- a watcher that isn't told goes on
pub watcher_unanswered : {B : Type 0} (v : WatcherOf B) (old new : B) (whole : Bool) (j : KnownJournalOf) (rest left : Option (List Answer)) (over : Bool)
    (end : Result Journal (ReplayStop Journal)) → IsUnanswered whole j rest left over end → WatcherLasts v old new heard.Go → WatcherLasts v old new (replay_heard end)
watcher_unanswered v old new whole j rest left over (Ok journal) w a = a
watcher_unanswered v old new whole j rest left over (Err (stop.Unexpected journal given)) w a = a
watcher_unanswered v old new whole j rest left over (Err (stop.SourceFault journal)) w a = a
watcher_unanswered v old new whole j rest left over (Err (stop.Stopped journal)) w a = absurd w
watcher_unanswered v old new whole j rest left over (Err (stop.Most journal)) w a = absurd w
watcher_unanswered v old new whole j rest left over (Err stop.NoMemory) w a = a

-- the last word where the run is kept
module _ {A : Type 0} (s : OutcomesOf A) (old new : A) where
  pub source_keeping : (end : Result Journal (ReplayStop Journal)) → SourceLasts s old new (replay_word end) → SourceLasts s old new (kept_run_word end)
  source_keeping (Ok journal) a = a
  source_keeping (Err (stop.Unexpected journal given)) a = a
  source_keeping (Err (stop.SourceFault journal)) a = a
  source_keeping (Err (stop.Stopped journal)) a = a
  source_keeping (Err (stop.Most journal)) a = a
  source_keeping (Err stop.NoMemory) a = source_open s old new none_failed a

  pub source_kept : (passed : List Passed) (end : Result Journal (ReplayStop Journal)) → SourceLasts s old new (kept_run_word end) → SourceLasts s old new (kept_run_word (kept_end passed end))
  source_kept passed (Ok journal) a = a
  source_kept passed (Err (stop.Unexpected journal given)) a = a
  source_kept passed (Err (stop.SourceFault journal)) a = a
  source_kept passed (Err (stop.Stopped journal)) a = a
  source_kept passed (Err (stop.Most journal)) a = a
  source_kept passed (Err stop.NoMemory) a = a
