-- What aborts a transition comes with an answer.
use Rattle.std.proofs.Common.{arith, ◌≡◌, ◌≤◌, ◌+◌, ◌||◌, ℕ, Bool, true, false, Option, Result, Ok, Err, List, [], ◌∷◌, refl, sym, ◌∙◌}
use Rattle.std.specs.List.{list_any}
use Rattle.std.proofs.lemmas.List.Folds.{list_any-append}
use Rattle.lemmas.proofs.Booleans.{first_passes}
use Rattle.cluster_io.specs.Streams.{Rose}
use Rattle.cluster_types.specs.declared.journal.Answer.{Answer}
use Rattle.cluster_types.specs.declared.journal.Event.{Event}
use Rattle.cluster_types.specs.declared.journal.Event.TheVariants.{Begin}
use Rattle.cluster_types.specs.declared.journal.Journal.{Journal}
use Rattle.cluster_types.specs.declared.run.RunLine.{RunLine}
use Rattle.cluster_types.specs.Runs.{RunStanding}
use Rattle.cluster_types.specs.Steps.{aborts, has_aborted}
use Rattle.run_safety.proofs.Silent.{silent_aborts_nothing}
use Rattle.graph_exec.specs.declared.run.stop.ReplayStop.{ReplayStop}
use Rattle.graph_exec.specs.declared.run.stop.ReplayStop.TheVariants as stop
use Rattle.graph_exec.specs.Counts.{AreMostAnswered, IsAbortAnswered, RoseBy}
use Rattle.graph_exec.specs.Inner.Rounds.{Began}
use Rattle.graph_exec.specs.Inner.ExecutorFields.{EndedSilently}
use Rattle.graph_exec.specs.Inner.Turns.{RunEndsAs}
use Rattle.graph_exec.specs.Replays.{Setting, AnswersView}
use Rattle.graph_exec.specs.Executors.{ExecutorOf, transition_in, later}

-- where nothing happened, or nothing that aborts
pub none_aborted : (r : ExecutorOf) (before now : ℕ) → IsAbortAnswered r r before now
none_aborted r before now = record { given = λ calm aborted. let f : ⊥ = cc in absurd f }

module _ (old new : ExecutorOf) (before now : ℕ) where
  pub none_aborts : (events : List Event) → new ≡ later old events → list_any (aborts old.cluster) events ≡ false → IsAbortAnswered old new before now
  none_aborts events on none = record {
    given = λ calm aborted.
        let among : (list_any (aborts old.cluster) old.since || list_any (aborts old.cluster) events) ≡ true
        = sym (list_any-append (aborts old.cluster) old.since events) ∙ (rw on at aborted) in
        (none_aborted old before now).given calm (first_passes (has_aborted (transition_in old) old.since) (list_any (aborts old.cluster) events) among none);
  }

  pub begin_aborted : Began old new → IsAbortAnswered old new before now
  begin_aborted b = none_aborts (Begin b.number b.now.action ∷ []) b.now.goes_on refl

  pub silent_aborted : (given : Answer) → EndedSilently old new given → IsAbortAnswered old new before now
  silent_aborted given s = none_aborts _ s.goes_on (silent_aborts_nothing (transition_in old) old.since s.number s.action s.ends.action)

-- from one moment over another to a third
module _ (first middle last : ExecutorOf) (a b c : ℕ) (no_fewer : a ≤ b) (no_fewer_then : b ≤ c) where
  pub aborted_then : IsAbortAnswered first middle a b → IsAbortAnswered middle last b c → IsAbortAnswered first last a c
  aborted_then before later = record { given = λ calm aborted. by calm aborted (has_aborted (transition_in middle) middle.since) refl }
    where
      by : has_aborted (transition_in first) first.since ≡ false → has_aborted (transition_in last) last.since ≡ true → (t : Bool) → has_aborted (transition_in middle) middle.since ≡ t → Rose a c
      by calm aborted true e = let rose : Rose a b = before.given calm e in omega (arith, rose, no_fewer_then)
      by calm aborted false e = let rose : Rose b c = later.given e aborted in omega (arith, rose, no_fewer)

-- over two moments
module _ (first middle next last : ExecutorOf) (a b c d : ℕ) (no_fewer : a ≤ b) (no_fewer_then : b ≤ c) (no_fewer_last : c ≤ d) where
  pub aborted_on : IsAbortAnswered first middle a b → IsAbortAnswered middle next b c → IsAbortAnswered next last c d → IsAbortAnswered first last a d
  aborted_on before between later =
      aborted_then first next last a c d (omega (arith, no_fewer, no_fewer_then)) no_fewer_last (aborted_then first middle next a b c no_fewer no_fewer_then before between) later

-- as many answers as transitions
pub none_answered : (before : ℕ) → RoseBy 0 before before
none_answered before = omega arith

pub one_more_answered : (times before middle now : ℕ) → RoseBy times before middle → Rose middle now → RoseBy (times + 1) before now
one_more_answered times before middle now so_far rose = omega (arith, so_far, rose)

-- a run that ends on the way hasn't made as many transitions as are allowed
module _ (Follows : List RunLine → Type 0) (s : Setting) (from : RunStanding) (old new : AnswersView) (number : ℕ) (Stopped : List RunLine → Option RunLine → Type 0) where
  pub not_most : (ended : Result Journal (ReplayStop Journal)) (most before now : ℕ) → RunEndsAs Follows s from old new number Stopped ended → AreMostAnswered most before now ended
  not_most (Ok journal) most before now e = tt
  not_most (Err (stop.Unexpected journal given)) most before now e = tt
  not_most (Err (stop.SourceFault journal)) most before now e = tt
  not_most (Err (stop.Stopped journal)) most before now e = tt
  not_most (Err (stop.Most journal)) most before now e = absurd e
  not_most (Err stop.NoMemory) most before now e = tt
