-- How often a source of outcomes was asked, and how many answers it has given (rule of this project).
use Rattle.std.specs.Prelude.{◌≡◌, ◌≤◌, ◌+◌, ◌-◌, ◌^◌, ℕ, true, false, min, Result, Err}
use Rattle.cluster_io.specs.Streams.{Rose}
use Rattle.cluster_types.specs.declared.journal.Journal.{Journal}
use Rattle.cluster_types.specs.Steps.{has_aborted}
use Rattle.graph_exec.specs.declared.run.stop.ReplayStop.{ReplayStop}
use Rattle.graph_exec.specs.declared.run.stop.ReplayStop.TheVariants as stop
use Rattle.graph_exec.specs.declared.transition.outcomes.Next.{Next}
use Rattle.graph_exec.specs.declared.transition.outcomes.Next.TheVariants as next
use Rattle.graph_exec.specs.Executors.{ExecutorOf, transition_in}

-- a count has risen by one, or stands at the last value of its counter
pub record RoseByOne (before now : ℕ) : Type 0 where
  pub never_falls : before ≤ now
  pub by_one : now ≤ before + 1
  pub rose : Rose before now

-- what a question leaves of the count of answers, by what it brought: an answer alone raises it
abbrev pub CountsAnswer : Next → ℕ → ℕ → Type 0
CountsAnswer (next.Answer given) before now = RoseByOne before now
CountsAnswer next.Silent before now = now ≡ before
CountsAnswer next.Failed before now = now ≡ before

-- a count has risen by so many at least, or stands at the last value of its counter
abbrev pub RoseBy : ℕ → ℕ → ℕ → Type 0
RoseBy times before now = min (before + times) (2 ^ 64 - 1) ≤ now

-- from one moment of a transition to another: where nothing had aborted it and something has now, an answer was given since
pub record IsAbortAnswered (old new : ExecutorOf) (before now : ℕ) : Type 0 where
  pub given : has_aborted (transition_in old) old.since ≡ false → has_aborted (transition_in new) new.since ≡ true → Rose before now

-- where as many transitions were made as are allowed, at least as many answers were given
abbrev pub AreMostAnswered : ℕ → ℕ → ℕ → Result Journal (ReplayStop Journal) → Type 0
AreMostAnswered most before now (Err (stop.Most journal)) = RoseBy most before now
AreMostAnswered most before now _ = Unit {0}
