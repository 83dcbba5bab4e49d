-- How the run of a journal over some answers ends (rule of this project).
use Rattle.std.specs.Prelude.{Bool, true, false, Option, Some, List, []}
use Rattle.cluster_types.specs.declared.cluster.Cluster.{Cluster}
use Rattle.cluster_types.specs.declared.journal.Answer.{Answer}
use Rattle.cluster_types.specs.declared.journal.Event.{Event}
use Rattle.cluster_types.specs.declared.journal.Promotion.{Promotion}
use Rattle.cluster_types.specs.declared.run.RunLine.{RunLine}
use Rattle.cluster_types.specs.Runs.{IsCutRun, IsRunSoFar, IsWholeRun}

module _ (c : Cluster) (promotions : List Promotion) (es : List Event) (answers : List Answer) where
  -- there is a whole run of these answers
  pub record HasWholeRun : Type 0 where
    pub lines : List RunLine
    pub journal_now : List Event
    pub run : IsWholeRun c promotions true es (Some answers) lines journal_now

  -- there is a run that takes them all, and asks for one more
  pub record HasRunSoFar : Type 0 where
    pub lines : List RunLine
    pub journal_now : List Event
    pub run : IsRunSoFar c promotions false es (Some answers) lines journal_now (Some [])

  -- there is a run that is cut by one of them, which doesn't apply. `whole` says that the answers are known to be all
  pub record HasCutRun (whole : Bool) : Type 0 where
    pub lines : List RunLine
    pub journal_now : List Event
    pub given : Answer
    pub behind : Option (List Answer)
    pub run : IsCutRun c promotions whole es (Some answers) lines journal_now given behind
