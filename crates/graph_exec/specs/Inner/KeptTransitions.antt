-- A run that is kept, transition by transition. No public clause cites this module (rule of this project).
use Rattle.std.specs.Prelude.{◌≡◌, ◌+◌, ◌++◌, Bool, true, false, Option, Some, None, Result, Ok, Err, List, [], length}
use Rattle.std.specs.List.{AllByRecursion}
use Rattle.cluster_types.specs.declared.journal.Answer.{Answer}
use Rattle.cluster_types.specs.declared.journal.Event.{Event}
use Rattle.cluster_types.specs.declared.journal.Journal.{Journal}
use Rattle.cluster_types.specs.declared.run.Passed.{Passed}
use Rattle.cluster_types.specs.declared.run.PassedEnd.{PassedEnd}
use Rattle.cluster_types.specs.declared.run.PassedEnd.TheVariants as passed_as
use Rattle.cluster_types.specs.declared.run.Run.{Run}
use Rattle.cluster_types.specs.Runs.{RunStanding, due, Runs, IsAsking, IsCutAt, IsOver, journal_at}
use Rattle.cluster_types.specs.Sources.{Says}
use Rattle.cluster_types.specs.Steps.{Applies, answer_events, idling}
use Rattle.cluster_types.specs.Texts.{all_passed_lines}
use Rattle.graph_exec.specs.declared.transition.ends.End.{End}
use Rattle.graph_exec.specs.declared.transition.ends.End.TheVariants as end
use Rattle.graph_exec.specs.LastWords.{LastWord, none_failed}
use Rattle.graph_exec.specs.KnownJournals.{KnownJournalOf}
use Rattle.graph_exec.specs.declared.run.stop.ReplayStop.{ReplayStop}
use Rattle.graph_exec.specs.declared.run.stop.ReplayStop.TheVariants as stop
use Rattle.graph_exec.specs.KeptRuns.{IsPassedOfPlan, kept_run_word}
use Rattle.graph_exec.specs.Replays.{Setting}
use Rattle.graph_exec.specs.Inner.Turns.{IsSaid, journal_back, plain_of}

abbrev pub with_journal : List Passed → Journal → Run
with_journal passed journal = record { passed = passed; journal = journal }

-- as the end of a run of which these transitions are kept
abbrev pub kept_end : List Passed → Result Journal (ReplayStop Journal) → Result Run (ReplayStop Run)
kept_end passed (Ok journal) = Ok (with_journal passed journal)
kept_end passed (Err (stop.Unexpected journal given)) = Err (stop.Unexpected (with_journal passed journal) given)
kept_end passed (Err (stop.SourceFault journal)) = Err (stop.SourceFault (with_journal passed journal))
kept_end passed (Err (stop.Stopped journal)) = Err (stop.Stopped (with_journal passed journal))
kept_end passed (Err (stop.Most journal)) = Err (stop.Most (with_journal passed journal))
kept_end passed (Err stop.NoMemory) = Err stop.NoMemory

-- how a transition ended, as it is kept
abbrev pub passed_end : End → PassedEnd
passed_end end.Complete = passed_as.Complete
passed_end (end.Aborted event) = passed_as.Aborted
passed_end (end.Unexpected given) = passed_as.Cut
passed_end end.SourceFault = passed_as.Cut

-- another journal of the same cluster, with the same promotion scores
pub record StaysOf (j later : KnownJournalOf) : Type 0 where
  pub cluster_stays : later.cluster ≡ j.cluster
  pub promotions_stay : later.promotions ≡ j.promotions

-- the last word of the source of a transition that is kept. Out of memory it isn't told
abbrev pub keeping_word : {T : Type 0} → Result T (Result Journal (ReplayStop Journal)) → LastWord
keeping_word (Ok later) = none_failed
keeping_word (Err end) = kept_run_word end

-- the answer applies while nothing is to be done, and what it adds is in the journal
pub record TookIdle (old new : KnownJournalOf) (given : Answer) : Type 0 where
  pub applies : Applies (idling old.cluster old.events) [] given
  pub goes_on : new ≡ record { cluster = old.cluster; events = old.events ++ answer_events (idling old.cluster old.events) [] given; promotions = old.promotions }

-- the answer doesn't apply while nothing is to be done, and the journal is the same
pub record IsRefusedIdle (old new : KnownJournalOf) (given : Answer) : Type 0 where
  pub refused : ¬ Applies (idling old.cluster old.events) [] given
  pub same : new ≡ old

-- what comes of a question while nothing is to be done
module _ (whole : Bool) (j : KnownJournalOf) (rest left : Option (List Answer)) where
  -- an answer that applies came, and is entered
  pub record IsAnswered (given : Answer) (next : KnownJournalOf) : Type 0 where
    pub said : Says whole rest (Some given) left
    pub took : TookIdle j next given

  pub record IsSilent (journal : Journal) : Type 0 where
    pub said : Says whole rest None left
    pub leaves : journal ≡ plain_of j

  pub record IsIdleRefused (journal : Journal) (given : Answer) : Type 0 where
    pub said : Says whole rest (Some given) left
    pub back : KnownJournalOf
    pub refused : IsRefusedIdle j back given
    pub leaves : journal ≡ plain_of back

  pub record HasIdleFailed (over : Bool) (journal : Journal) : Type 0 where
    pub left_is : left ≡ rest
    pub not_over : over ≡ false
    pub leaves : journal ≡ plain_of j

  abbrev pub IsUnanswered : Bool → Result Journal (ReplayStop Journal) → Type 0
  IsUnanswered over (Ok journal) = IsSilent journal
  IsUnanswered over (Err (stop.Unexpected journal given)) = IsIdleRefused journal given
  IsUnanswered over (Err (stop.SourceFault journal)) = HasIdleFailed over journal
  IsUnanswered over (Err (stop.Stopped journal)) = ⊥
  IsUnanswered over (Err (stop.Most journal)) = ⊥
  IsUnanswered over (Err stop.NoMemory) = left ≡ rest

module _ (s : Setting) (es : List Event) (first : Option (List Answer)) where
  -- the run was made up to here, with these answers left to come, and its lines are those of the transitions that are kept. While a steady source isn't
  -- over, each of its answers was said
  pub record KeepsPassed (rest : Option (List Answer)) (over : Bool) (passed : List Passed) (at : RunStanding) : Type 0 where
    pub runs : Runs s.cluster s.promotions s.whole (due 1 es) first (all_passed_lines s.cluster (journal_at at) 1 passed) at rest
    pub said : s.steady ≡ true → over ≡ false → IsSaid s (due 1 es) at (all_passed_lines s.cluster (journal_at at) 1 passed) first rest
    pub each : AllByRecursion (IsPassedOfPlan s.cluster s.promotions (journal_at at)) passed

  -- so it was kept up to where the next transition is due
  abbrev pub KeepsTo : Option (List Answer) → Bool → List Passed → KnownJournalOf → Type 0
  KeepsTo rest over passed j = KeepsPassed rest over passed (due (1 + length passed) j.events)

  module _ (left : Option (List Answer)) (passed : List Passed) (journal : Journal) where
    pub record KeepsWhole : Type 0 where
      pub last : RunStanding
      pub keeps : KeepsPassed left true passed last
      pub over : IsOver s.cluster s.promotions s.whole last left
      pub leaves : journal ≡ journal_back s last

    pub record KeepsCut (given : Answer) : Type 0 where
      pub last : RunStanding
      pub unread : Option (List Answer)
      pub keeps : KeepsPassed unread true passed last
      pub cut : IsCutAt s.cluster s.promotions s.whole last unread given left
      pub leaves : journal ≡ journal_back s last

    pub record KeepsSoFar : Type 0 where
      pub last : RunStanding
      pub keeps : KeepsPassed left false passed last
      pub asking : IsAsking last
      pub leaves : journal ≡ journal_back s last

  -- how it ended on the way
  abbrev pub KeepsEnd : Option (List Answer) → List Passed → Result Journal (ReplayStop Journal) → Type 0
  KeepsEnd left passed (Ok journal) = KeepsWhole left passed journal
  KeepsEnd left passed (Err (stop.Unexpected journal given)) = KeepsCut left passed journal given
  KeepsEnd left passed (Err (stop.SourceFault journal)) = KeepsSoFar left passed journal
  KeepsEnd left passed (Err (stop.Stopped journal)) = ⊥
  KeepsEnd left passed (Err (stop.Most journal)) = ⊥
  KeepsEnd left passed (Err stop.NoMemory) = Unit {0}
