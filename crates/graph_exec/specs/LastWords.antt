-- What lasts of a source of answers and of a watcher, and what a source has come to (rule of this project).
use Rattle.std.specs.Prelude.{◌≡◌, ◌≤◌, ℕ, true, Result, Ok, Err}
use Rattle.cluster_io.specs.Streams.{Rose}
use Rattle.cluster_types.specs.declared.cluster.Cluster.{Cluster}
use Rattle.graph_exec.specs.declared.run.stop.ReplayStop.{ReplayStop}
use Rattle.graph_exec.specs.declared.run.stop.ReplayStop.TheVariants as stop
use Rattle.graph_exec.specs.declared.transition.ends.WatchedEnd.{WatchedEnd}
use Rattle.graph_exec.specs.declared.transition.ends.WatchedEnd.TheVariants as how
use Rattle.graph_exec.specs.declared.transition.outcomes.Next.{Next}
use Rattle.graph_exec.specs.declared.transition.outcomes.Next.TheVariants as next
use Rattle.graph_exec.specs.declared.transition.outcomes.Outcomes.{Ghosts as OutcomesOf}
use Rattle.graph_exec.specs.declared.transition.watcher.Heard.{Heard}
use Rattle.graph_exec.specs.declared.transition.watcher.Heard.TheVariants as says
use Rattle.graph_exec.specs.declared.transition.watcher.Watcher.{Ghosts as WatcherOf}

-- the last word of a source: none of its questions failed, this was said last, or neither is told
pub data LastWord : Type 0 where
  none_failed : LastWord
  word_is : Next → LastWord
  word_open : LastWord

-- where an answer doesn't apply or the source failed, that was said last; else no question failed
abbrev pub transition_word : WatchedEnd → LastWord
transition_word (how.Unexpected given) = word_is (next.Answer given)
transition_word how.SourceFault = word_is next.Failed
transition_word _ = none_failed

-- the last word of the source of a run, by how the run ended: nothing more, an answer that doesn't apply or a failure was said last; else no question failed.
-- What is told out of memory stands beside
abbrev pub run_word : {T : Type 0} → LastWord → Result T (ReplayStop T) → LastWord
run_word out_of_memory (Ok made) = word_is next.Silent
run_word out_of_memory (Err (stop.Unexpected made given)) = word_is (next.Answer given)
run_word out_of_memory (Err (stop.SourceFault made)) = word_is next.Failed
run_word out_of_memory (Err (stop.Stopped made)) = none_failed
run_word out_of_memory (Err (stop.Most made)) = none_failed
run_word out_of_memory (Err stop.NoMemory) = out_of_memory

-- the source failed only where its count of faults rose
abbrev pub IsFailureCounted : ℕ → ℕ → LastWord → Type 0
IsFailureCounted faults faults_now (word_is next.Failed) = Rose faults faults_now
IsFailureCounted faults faults_now _ = Unit {0}

-- the watcher stopped only where its count of stops did
abbrev pub IsStopCounted : ℕ → ℕ → Heard → Type 0
IsStopCounted stops stops_now says.Go = Unit {0}
IsStopCounted stops stops_now says.Stop = Rose stops stops_now

module _ {A : Type 0} (s : OutcomesOf A) (old new : A) where
  -- what the source has come to, by its last word: it followed, or has said this; or nothing is told
  abbrev pub HasSourceCome : LastWord → Type 0
  HasSourceCome none_failed = s.follows old new
  HasSourceCome (word_is brought) = s.said old new brought
  HasSourceCome word_open = Unit {0}

  -- what lasts of a source, and what it has come to by its last word
  pub record SourceLasts (word : LastWord) : Type 0 where
    pub whole : s.whole new ≡ s.whole old
    pub count : s.faults old ≤ s.faults new
    pub answered : s.answered old ≤ s.answered new
    pub cause : IsFailureCounted (s.faults old) (s.faults new) word
    pub careful : s.careful new ≡ s.careful old
    pub steady : s.steady new ≡ s.steady old
    pub over : s.steady old ≡ true → s.over old ≡ true → s.over new ≡ true
    pub came : HasSourceCome word

module _ {B : Type 0} (v : WatcherOf B) (old new : B) where
  -- what lasts of a watcher, by what it said at last
  pub record WatcherLasts (heard : Heard) : Type 0 where
    pub same_lines : (c : Cluster) → v.is_of old c → v.is_of new c
    pub stops : v.stops old ≤ v.stops new
    pub cause : IsStopCounted (v.stops old) (v.stops new) heard
