-- What lasts of sources and watchers, put together.
use Rattle.std.proofs.Common.{arith, ◌≡◌, ◌≢◌, ◌≤◌, ℕ, Bool, true, Option, List, refl, ◌∙◌}
use Rattle.cluster_io.specs.Streams.{Rose}
use Rattle.cluster_types.specs.declared.cluster.Cluster.{Cluster}
use Rattle.cluster_types.specs.declared.journal.Answer.{Answer}
use Rattle.graph_exec.specs.declared.transition.ends.WatchedEnd.{WatchedEnd}
use Rattle.graph_exec.specs.declared.transition.ends.WatchedEnd.TheVariants as how
use Rattle.graph_exec.specs.declared.transition.outcomes.Next.{Next}
use Rattle.graph_exec.specs.declared.transition.outcomes.Next.TheVariants as next
use Rattle.graph_exec.specs.declared.transition.outcomes.Outcomes.{Ghosts as OutcomesOf}
use Rattle.graph_exec.specs.declared.transition.watcher.Heard.{Heard}
use Rattle.graph_exec.specs.declared.transition.watcher.Heard.TheVariants as heard
use Rattle.graph_exec.specs.declared.transition.watcher.Watcher.{Ghosts as WatcherOf}
use Rattle.graph_exec.specs.Counts.{CountsAnswer}
use Rattle.graph_exec.specs.LastWords.{LastWord, none_failed, word_is, word_open, HasSourceCome, IsFailureCounted, IsStopCounted, SourceLasts, WatcherLasts, transition_word}
use Rattle.graph_exec.specs.Inner.Rounds.{StopsAs}
use Rattle.graph_exec.specs.Executors.{ExecutorOf}
use Rattle.graph_exec.specs.SourceDuties.{IsOverBy}
use Rattle.graph_exec.specs.Transitions.{EndedByItself}
use Rattle.graph_exec.specs.WatchedTransitions.{heard_at}

-- a count that rose later rose since
pub rose_since : (before middle now : ℕ) → before ≤ middle → Rose middle now → Rose before now
rose_since before middle now more rose = omega (arith, more, rose)

failure_since : (before middle now : ℕ) → before ≤ middle → (word : LastWord) → IsFailureCounted middle now word → IsFailureCounted before now word
failure_since before middle now more none_failed h = tt
failure_since before middle now more (word_is (next.Answer given)) h = tt
failure_since before middle now more (word_is next.Silent) h = tt
failure_since before middle now more (word_is next.Failed) h = rose_since before middle now more h
failure_since before middle now more word_open h = tt

stop_since : (before middle now : ℕ) → before ≤ middle → (said : Heard) → IsStopCounted middle now said → IsStopCounted before now said
stop_since before middle now more heard.Go h = tt
stop_since before middle now more heard.Stop h = rose_since before middle now more h

failure_said : (before now : ℕ) (brought : Next) → (brought ≡ next.Failed → Rose before now) → IsFailureCounted before now (word_is brought)
failure_said before now (next.Answer given) h = tt
failure_said before now next.Silent h = tt
failure_said before now next.Failed h = h refl

stop_said : (before now : ℕ) (said : Heard) → (said ≡ heard.Stop → Rose before now) → IsStopCounted before now said
stop_said before now heard.Go h = tt
stop_said before now heard.Stop h = h refl

over_asked : (steady before after : Bool) (brought : Next) → IsOverBy steady before after brought → steady ≡ true → before ≡ true → after ≡ true
over_asked steady before after (next.Answer given) h always was = h was
over_asked steady before after next.Silent h always was = h always
over_asked steady before after next.Failed h always was = let f : ⊥ = cc in absurd f

-- no question lets the count of answers fall
never_fewer : (brought : Next) (before now : ℕ) → CountsAnswer brought before now → before ≤ now
never_fewer (next.Answer given) before now c = c.never_falls
never_fewer next.Silent before now c = omega (arith, c)
never_fewer next.Failed before now c = omega (arith, c)

module _ {A : Type 0} (s : OutcomesOf A) where
  pub source_same : ((a : A) → s.follows a a) → (a : A) → SourceLasts s a a none_failed
  source_same itself a = record {
    whole = refl;
    count = omega arith;
    answered = omega arith;
    cause = tt;
    careful = refl;
    steady = refl;
    over = λ always h. h;
    came = itself a;
  }

  -- behind what came before
  module _ (from_before : (first middle last : A) → s.follows first middle → s.follows middle last → s.follows first last)
      (said_later : (first middle last : A) (brought : Next) → s.follows first middle → s.said middle last brought → s.said first last brought) (first middle last : A) where
    came_then : (word : LastWord) → s.follows first middle → HasSourceCome s middle last word → HasSourceCome s first last word
    came_then none_failed f h = from_before first middle last f h
    came_then (word_is brought) f h = said_later first middle last brought f h
    came_then word_open f h = tt

    pub source_then : (word : LastWord) → SourceLasts s first middle none_failed → SourceLasts s middle last word → SourceLasts s first last word
    source_then word a b =
        let was = a.count in
        let now = b.count in
        let answered_before = a.answered in
        let answered_now = b.answered in
        record {
          whole = b.whole ∙ a.whole;
          count = omega arith;
          answered = omega arith;
          cause = failure_since _ _ _ was word b.cause;
          careful = b.careful ∙ a.careful;
          steady = b.steady ∙ a.steady;
          over = λ always h. b.over (a.steady ∙ always) (a.over always h);
          came = came_then word a.came b.came;
        }

  module _ (old new : A) where
    -- the source is told
    pub source_told : s.whole new ≡ s.whole old → s.faults old ≤ s.faults new → s.answered new ≡ s.answered old → s.careful new ≡ s.careful old → s.steady new ≡ s.steady old → s.over new ≡ s.over old
        → s.follows old new → SourceLasts s old new none_failed
    source_told whole count answered careful steady over follows = record {
      whole = whole;
      count = count;
      answered = omega (arith, answered);
      cause = tt;
      careful = careful;
      steady = steady;
      over = λ always h. over ∙ h;
      came = follows;
    }

    -- it is asked
    pub source_asked : (brought : Next) → s.whole new ≡ s.whole old → s.faults old ≤ s.faults new → (brought ≡ next.Failed → Rose (s.faults old) (s.faults new))
        → CountsAnswer brought (s.answered old) (s.answered new) → s.careful new ≡ s.careful old → s.steady new ≡ s.steady old → IsOverBy (s.steady old) (s.over old) (s.over new) brought → s.said old new brought
        → SourceLasts s old new (word_is brought)
    source_asked brought whole count cause answered careful steady over said = record {
      whole = whole;
      count = count;
      answered = never_fewer brought _ _ answered;
      cause = failure_said _ _ brought cause;
      careful = careful;
      steady = steady;
      over = λ always was. over_asked (s.steady old) (s.over old) (s.over new) brought over always was;
      came = said;
    }

    -- and the question didn't fail
    pub source_on : ((first last : A) (brought : Next) → brought ≢ next.Failed → s.said first last brought → s.follows first last) → (brought : Next) → brought ≢ next.Failed
        → SourceLasts s old new (word_is brought) → SourceLasts s old new none_failed
    source_on from_said brought unfailed a = record {
      whole = a.whole;
      count = a.count;
      answered = a.answered;
      cause = tt;
      careful = a.careful;
      steady = a.steady;
      over = a.over;
      came = from_said old new brought unfailed a.came;
    }

    -- its last word isn't told
    pub source_open : (word : LastWord) → SourceLasts s old new word → SourceLasts s old new word_open
    source_open word a = record {
      whole = a.whole;
      count = a.count;
      answered = a.answered;
      cause = tt;
      careful = a.careful;
      steady = a.steady;
      over = a.over;
      came = tt;
    }

    -- nothing more was to be done
    pub source_done : (end : WatchedEnd) → EndedByItself end → SourceLasts s old new none_failed → SourceLasts s old new (transition_word end)
    source_done how.Complete d a = a
    source_done (how.Aborted event) d a = a
    source_done (how.Unexpected given) d a = absurd d
    source_done how.SourceFault d a = absurd d
    source_done how.Stopped d a = absurd d

module _ {B : Type 0} (v : WatcherOf B) where
  pub watcher_same : (w : B) → WatcherLasts v w w heard.Go
  watcher_same w = record { same_lines = λ c h. h; stops = omega arith; cause = tt }

  pub watcher_then : (first middle last : B) (said : Heard) → WatcherLasts v first middle heard.Go → WatcherLasts v middle last said → WatcherLasts v first last said
  watcher_then first middle last said a b =
      let was = a.stops in
      let now = b.stops in
      record { same_lines = λ c h. b.same_lines c (a.same_lines c h); stops = omega arith; cause = stop_since _ _ _ was said b.cause }

  module _ (old new : B) where
    pub watcher_told : (said : Heard) → ((c : Cluster) → v.is_of old c → v.is_of new c) → v.stops old ≤ v.stops new
        → (said ≡ heard.Stop → Rose (v.stops old) (v.stops new)) → WatcherLasts v old new said
    watcher_told said same count cause = record { same_lines = same; stops = count; cause = stop_said _ _ said cause }

    -- nothing more was to be done
    pub watcher_done : (end : WatchedEnd) → EndedByItself end → WatcherLasts v old new heard.Go → WatcherLasts v old new (heard_at end)
    watcher_done how.Complete d a = a
    watcher_done (how.Aborted event) d a = a
    watcher_done (how.Unexpected given) d a = absurd d
    watcher_done how.SourceFault d a = absurd d
    watcher_done how.Stopped d a = absurd d

    -- no answer was taken
    module _ (whole : Bool) (was now : ExecutorOf) (rest left : Option (List Answer)) where
      pub watcher_untold : (end : WatchedEnd) → StopsAs whole was now rest left end → WatcherLasts v old new heard.Go → WatcherLasts v old new (heard_at end)
      watcher_untold how.Complete d a = a
      watcher_untold (how.Aborted event) d a = a
      watcher_untold (how.Unexpected given) d a = a
      watcher_untold how.SourceFault d a = a
      watcher_untold how.Stopped d a = absurd d
