-- How many answers enter a journal, and how often a source is asked for them.
use Rattle.std.proofs.Common.{arith, ◌≡◌, ◌≤◌, ◌+◌, ℕ, Bool, Option, List, [], ◌∷◌, ◌++◌, count_by, ap, ◌∙◌}
use Rattle.std.specs.List.{flat_map}
use Rattle.std.proofs.lemmas.Grind.{flat_map-append}
use Rattle.lemmas.proofs.Counts.{count-append}
use Rattle.cluster_types.specs.declared.journal.Answer.{Answer}
use Rattle.cluster_types.specs.declared.journal.Event.{Event}
use Rattle.cluster_types.specs.declared.run.RunLine.{RunLine}
use Rattle.cluster_types.specs.declared.run.RunLine.TheVariants as line
use Rattle.cluster_types.specs.Steps.{Transition, GoesBySteps, here, one_more}
use Rattle.cluster_types.specs.Texts.{event_lines}
use Rattle.graph_exec.specs.declared.transition.ends.WatchedEnd.{WatchedEnd}
use Rattle.graph_exec.specs.declared.transition.ends.WatchedEnd.TheVariants as how
use Rattle.graph_exec.specs.Questions.{AskedBeside, answers_entered, questions_beside, is_answer_line}
use Rattle.graph_exec.specs.Executors.{ExecutorOf, Went, transition_in}
use Rattle.graph_exec.specs.Inner.Rounds.{Advanced, StopsAs}
use Rattle.graph_exec.specs.Transitions.{EndedByItself}

abbrev told_in : List RunLine → ℕ
told_in lines = count_by is_answer_line lines

pub entered-append : (es more : List Event) → answers_entered (es ++ more) ≡ answers_entered es + answers_entered more
entered-append es more = ap told_in (flat_map-append event_lines es more) ∙ count-append is_answer_line (flat_map event_lines es) (flat_map event_lines more)

-- an answer has one line
pub entered_one : (es more : List Event) (given : Answer) → flat_map event_lines more ≡ line.Taken given ∷ [] → answers_entered (es ++ more) ≡ answers_entered es + 1
entered_one es more given is =
    let one : answers_entered more ≡ 1 = ap told_in is in
    let all = entered-append es more in
    omega (arith, one, all)

-- none is taken away
pub goes_entered : (t : Transition) (whole : Bool) (since later : List Event) (rest left : Option (List Answer)) → GoesBySteps t whole since rest later left
    → answers_entered since ≤ answers_entered later
goes_entered t whole since _ rest _ (here _ _) = omega arith
goes_entered t whole since later rest left (one_more _ events _ _ middle _ step more) =
    let first = entered-append since events in
    let others = goes_entered t whole (since ++ events) later middle left more in
    omega (arith, first, others)

-- nothing is asked
pub asks_nothing : (before : ℕ) (es : List Event) → AskedBeside 0 before before es es
asks_nothing before es = record { few = omega arith }

-- from one journal over another to a third
pub asks_then : (beside before middle now : ℕ) (es between later : List Event) → AskedBeside 0 before middle es between → AskedBeside beside middle now between later
    → AskedBeside beside before now es later
asks_then beside before middle now es between later a b = let first = a.few in let more = b.few in record { few = omega (arith, first, more) }

-- in a transition
module _ (whole : Bool) (old new : ExecutorOf) (rest left : Option (List Answer)) (before now : ℕ) where
  -- some actions began
  pub asks_none : Went whole old new rest left → now ≡ before → AskedBeside 0 before now old.since new.since
  asks_none w same = let more = goes_entered (transition_in old) whole old.since new.since rest left w.steps in record { few = omega (arith, more, same) }

  -- an answer was entered
  pub asks_one : Advanced whole old new rest left → now ≤ before + 1 → AskedBeside 0 before now old.since new.since
  asks_one a few = let entered = a.entered in record { few = omega (arith, entered, few) }

  asks_in_vain : new ≡ old → now ≤ before + 1 → AskedBeside 1 before now old.since new.since
  asks_in_vain same few =
      let entered : answers_entered new.since ≡ answers_entered old.since = ap (λ (r : ExecutorOf). answers_entered r.since) same in
      record { few = omega (arith, entered, few) }

  -- none was
  pub asks_last : (end : WatchedEnd) → StopsAs whole old new rest left end → now ≤ before + 1 → AskedBeside (questions_beside end) before now old.since new.since
  asks_last how.Complete s few = absurd s
  asks_last (how.Aborted event) s few = absurd s
  asks_last (how.Unexpected given) s few = asks_in_vain s.refused.same few
  asks_last how.SourceFault s few = asks_in_vain s.same few
  asks_last how.Stopped s few = absurd s

-- nothing more was to be done
module _ (before now : ℕ) (es later : List Event) where
  pub asks_done : (end : WatchedEnd) → EndedByItself end → AskedBeside 0 before now es later → AskedBeside (questions_beside end) before now es later
  asks_done how.Complete d a = a
  asks_done (how.Aborted event) d a = a
  asks_done (how.Unexpected given) d a = absurd d
  asks_done how.SourceFault d a = absurd d
  asks_done how.Stopped d a = absurd d
