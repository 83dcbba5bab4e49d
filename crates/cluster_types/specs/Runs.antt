-- The run: transition after transition, each with the plan for the journal so far, until all is done and nothing more is said (Pacemaker
-- Administration, "Transitions"; that a run ends so is a rule of this project).
use Rattle.std.specs.Prelude.{◌≡◌, ℕ, ◌+◌, Bool, true, false, Option, Some, None, ⊤, List, [], ◌∷◌, ◌++◌}
use Rattle.std.specs.List.{flat_map}
use Rattle.cluster_types.specs.declared.cluster.Cluster.{Cluster}
use Rattle.cluster_types.specs.declared.journal.Action.{Action}
use Rattle.cluster_types.specs.declared.journal.Answer.{Answer}
use Rattle.cluster_types.specs.declared.journal.Event.{Event}
use Rattle.cluster_types.specs.declared.journal.Promotion.{Promotion}
use Rattle.cluster_types.specs.declared.placement.Placed.{Placed}
use Rattle.cluster_types.specs.declared.run.RunLine.{RunLine}
use Rattle.cluster_types.specs.declared.run.RunLine.TheVariants as line
use Rattle.cluster_types.specs.Plans.{IsPlan, transition_of}
use Rattle.cluster_types.specs.Sources.{Says}
use Rattle.cluster_types.specs.Steps.{Transition, StepsOn, Applies, IsWaiting, HasEnded, journal, has_aborted, answer_events, idling}
use Rattle.cluster_types.specs.Tables.{targets_of}
use Rattle.cluster_types.specs.Texts.{event_lines, target_lines}

-- where a run stands: the transition of a number, from 1, is due after a journal; it is under way, with the events since it was planned; or it
-- is complete, and nothing is to be done
pub data RunStanding : Type 0 where
  due : (number : ℕ) (es : List Event) → RunStanding
  amid : (number : ℕ) (t : Transition) (since : List Event) → RunStanding
  idle : (number : ℕ) (es : List Event) → RunStanding

-- the journal where a run stands
abbrev pub journal_at : RunStanding → List Event
journal_at (due number es) = es
journal_at (amid number t since) = journal t since
journal_at (idle number es) = es

-- here an answer is asked for
abbrev pub IsAsking : RunStanding → Type 0
IsAsking (due k es) = ⊥
IsAsking (amid k t since) = IsWaiting t since
IsAsking (idle k es) = ⊤

-- the answer applies here
abbrev pub AppliesAt : Cluster → RunStanding → Answer → Type 0
AppliesAt c (due k es) given = ⊥
AppliesAt c (amid k t since) given = Applies t since given
AppliesAt c (idle k es) given = Applies (idling c es) [] given

-- in no transition: the next, or the first, is due, or nothing is to be done
abbrev pub IsBetween : RunStanding → Type 0
IsBetween (due k es) = ⊤
IsBetween (amid k t since) = ⊥
IsBetween (idle k es) = ⊤

-- at most the line that ends a transition: it isn't printed yet, whether the transition has ended or not; or the transition has ended, and it is printed
pub data EndsByLine : RunStanding → List RunLine → RunStanding → Type 0 where
  not_yet : (at : RunStanding) → EndsByLine at [] at
  complete : (k : ℕ) (t : Transition) (since : List Event) → HasEnded t since → has_aborted t since ≡ false
      → EndsByLine (amid k t since) (line.Complete k ∷ []) (idle k (journal t since))
  aborted : (k : ℕ) (t : Transition) (since : List Event) → HasEnded t since → has_aborted t since ≡ true
      → EndsByLine (amid k t since) (line.Aborted k ∷ []) (due (k + 1) (journal t since))

-- of a cluster with its promotion scores. Where the answers to come are told, `whole` says that they are all (see `Says`); None is where they aren't
module _ (c : Cluster) (promotions : List Promotion) (whole : Bool) where
  -- one step of a run: from where it stands and the answers to come, the lines that it prints, to where it stands then and the answers that are left
  pub data RunsOn : RunStanding → Option (List Answer) → List RunLine → RunStanding → Option (List Answer) → Type 0 where
    -- the transition that is due is planned
    plans : (k : ℕ) (es : List Event) (rest : Option (List Answer)) (placed : Placed) (actions : List Action) → IsPlan c es promotions placed actions
        → RunsOn (due k es) rest (line.Transition k ∷ target_lines c placed.pins (targets_of placed.table) placed.none)
        (amid k (transition_of c es actions) []) rest
    -- it goes a step
    goes : (k : ℕ) (t : Transition) (since events : List Event) (rest left : Option (List Answer)) → StepsOn t whole since rest events left
        → RunsOn (amid k t since) rest (flat_map event_lines events) (amid k t (since ++ events)) left
    -- it ends, and nothing aborted
    completes : (k : ℕ) (t : Transition) (since : List Event) (rest : Option (List Answer)) → HasEnded t since → has_aborted t since ≡ false
        → RunsOn (amid k t since) rest (line.Complete k ∷ []) (idle k (journal t since)) rest
    -- it ends aborted, and the next is due
    aborts : (k : ℕ) (t : Transition) (since : List Event) (rest : Option (List Answer)) → HasEnded t since → has_aborted t since ≡ true
        → RunsOn (amid k t since) rest (line.Aborted k ∷ []) (due (k + 1) (journal t since)) rest
    -- an answer comes while nothing is to be done, and the next is due
    answers : (k : ℕ) (es : List Event) (rest left : Option (List Answer)) (given : Answer) → Says whole rest (Some given) left
        → Applies (idling c es) [] given
        → RunsOn (idle k es) rest (line.Taken given ∷ []) (due (k + 1) (es ++ answer_events (idling c es) [] given)) left

  -- step by step, with all lines that are printed on the way
  pub data Runs : RunStanding → Option (List Answer) → List RunLine → RunStanding → Option (List Answer) → Type 0 where
    here : (at : RunStanding) (rest : Option (List Answer)) → Runs at rest [] at rest
    one_more : (at next later : RunStanding) (rest middle left : Option (List Answer)) (lines more : List RunLine) → RunsOn at rest lines next middle
        → Runs next middle more later left → Runs at rest (lines ++ more) later left

  -- the run is over: nothing is to be done, and nothing more is said
  abbrev pub IsOver : RunStanding → Option (List Answer) → Type 0
  IsOver (idle k es) rest = Says whole rest None rest
  IsOver _ rest = ⊥

  -- the run is cut: an answer is asked for, and the one that comes doesn't apply
  pub record IsCutAt (at : RunStanding) (rest : Option (List Answer)) (given : Answer) (left : Option (List Answer)) : Type 0 where
    pub asking : IsAsking at
    pub said : Says whole rest (Some given) left
    pub refused : ¬ AppliesAt c at given

  -- the whole run from a journal on, of these answers: its lines, and the journal that it leaves. Where the answers are told, all of them were taken
  pub record IsWholeRun (es : List Event) (rest : Option (List Answer)) (lines : List RunLine) (journal_now : List Event) : Type 0 where
    pub last : RunStanding
    pub behind : Option (List Answer)
    pub steps : Runs (due 1 es) rest lines last behind
    pub over : IsOver last behind
    pub leaves : journal_now ≡ journal_at last

  -- the run from a journal on up to a step at which an answer is asked for: its lines, the journal there, and the answers that weren't taken. So while
  -- some are left, no action has ended silently
  pub record IsRunSoFar (es : List Event) (rest : Option (List Answer)) (lines : List RunLine) (journal_now : List Event) (behind : Option (List Answer)) : Type 0 where
    pub last : RunStanding
    pub steps : Runs (due 1 es) rest lines last behind
    pub asking : IsAsking last
    pub leaves : journal_now ≡ journal_at last

  -- the run from a journal on, cut by the answer that doesn't apply: its lines up to there, the journal that it leaves, and the answers behind it
  pub record IsCutRun (es : List Event) (rest : Option (List Answer)) (lines : List RunLine) (journal_now : List Event) (given : Answer) (behind : Option (List Answer)) : Type 0 where
    pub last : RunStanding
    pub unread : Option (List Answer)
    pub steps : Runs (due 1 es) rest lines last unread
    pub cut : IsCutAt last unread given behind
    pub leaves : journal_now ≡ journal_at last

  -- the run from a journal on up to where the transition after so many is due: its lines, the journal there, and the answers behind it
  abbrev pub IsRunUpTo : ℕ → List Event → Option (List Answer) → List RunLine → List Event → Option (List Answer) → Type 0
  IsRunUpTo most es rest lines journal_now behind = Runs (due 1 es) rest lines (due (most + 1) journal_now) behind

  -- the run from a journal on, as one may stop it to whom it tells its lines: those told before, those of one step more, and at most the line that ends the
  -- transition right after that step; the journal that it leaves, and the answers behind it
  pub record IsStoppedRun (es : List Event) (rest : Option (List Answer)) (told call closing : List RunLine) (journal_now : List Event) (behind : Option (List Answer)) : Type 0 where
    pub before : RunStanding
    pub next : RunStanding
    pub last : RunStanding
    pub middle : Option (List Answer)
    pub steps : Runs (due 1 es) rest told before middle
    pub stopped : RunsOn before middle call next behind
    pub closes : EndsByLine next closing last
    pub leaves : journal_now ≡ journal_at last
