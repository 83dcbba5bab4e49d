-- How a run ends: what its lines and the journal that it leaves are then, whoever is told of them or keeps them (Pacemaker Administration, "Transitions";
-- when a run ends is a rule of this project).
use Rattle.std.specs.Prelude.{◌≡◌, ℕ, Bool, true, false, Option, Some, List, []}
use Rattle.cluster_types.specs.declared.cluster.Cluster.{Cluster}
use Rattle.cluster_types.specs.declared.journal.Answer.{Answer}
use Rattle.cluster_types.specs.declared.journal.Event.{Event}
use Rattle.cluster_types.specs.declared.journal.Promotion.{Promotion}
use Rattle.cluster_types.specs.declared.run.RunLine.{RunLine}
use Rattle.cluster_types.specs.Runs.{IsCutRun, IsRunSoFar, IsRunUpTo, IsWholeRun}
use Rattle.graph_exec.specs.SourceDuties.{TakesAnswers}

-- the end of a run: all is done, an answer doesn't apply, the source failed, or so many transitions were made
pub data EndOfRun : Type 0 where
  with_all : EndOfRun
  unexpected : (given : Answer) → EndOfRun
  in_failure : EndOfRun
  at_most : (most : ℕ) → EndOfRun

-- of a run from a journal on, with these answers to come at its beginning and at its end, which has these lines and leaves this journal
module _ (c : Cluster) (promotions : List Promotion) (whole steady : Bool) (es : List Event) (rest left : Option (List Answer)) (lines : List RunLine) (journal : List Event) where
  -- the whole run was made, and all answers that were to come were taken
  pub record EndsWithAll : Type 0 where
    pub run : IsWholeRun c promotions whole es rest lines journal
    pub unread : left ≡ run.behind

  -- the run up to a step at which an answer is asked for is that of these answers, each of which was said: they are those that were taken, where the answers
  -- to come are told
  pub record IsRunOfAnswers : Type 0 where
    pub answers : List Answer
    pub taken : TakesAnswers rest answers left
    pub run : IsRunSoFar c promotions false es (Some answers) lines journal (Some [])

  -- the source failed where an answer was asked for. A steady source has let no action end silently
  pub record EndsInFailure : Type 0 where
    pub run : IsRunSoFar c promotions whole es rest lines journal left
    pub said : steady ≡ true → IsRunOfAnswers

  -- each end
  abbrev pub EndsSo : EndOfRun → Type 0
  EndsSo with_all = EndsWithAll
  EndsSo (unexpected given) = IsCutRun c promotions whole es rest lines journal given left
  EndsSo in_failure = EndsInFailure
  EndsSo (at_most most) = IsRunUpTo c promotions whole most es rest lines journal left
