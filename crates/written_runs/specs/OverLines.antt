-- What the lines of a run tell by themselves, and what is promised of them: for whoever reads the lines, and no definition of a run. Only the
-- last record speaks of runs: it ties the journal that the lines tell to that of the run (rules of this project).
use Rattle.std.specs.Prelude.{◌≡◌, ℕ, Bool, true, Option, IfSome, List, [], ◌∷◌, ◌++◌, Contains}
use Rattle.cluster_types.specs.declared.cluster.Cluster.{Cluster}
use Rattle.cluster_types.specs.declared.journal.Action.{Action}
use Rattle.cluster_types.specs.declared.journal.Answer.{Answer}
use Rattle.cluster_types.specs.declared.journal.Event.{Event}
use Rattle.cluster_types.specs.declared.journal.Event.TheVariants.{Begin}
use Rattle.cluster_types.specs.declared.journal.Promotion.{Promotion}
use Rattle.cluster_types.specs.declared.leaf.Op.TheVariants as op
use Rattle.cluster_types.specs.declared.rules.Colocation.{Colocation}
use Rattle.cluster_types.specs.declared.run.RunLine.{RunLine}
use Rattle.cluster_types.specs.declared.run.RunLine.TheVariants as line
use Rattle.cluster_types.specs.AnswersThatApply.{added_by}
use Rattle.cluster_types.specs.Choice.{is_separation}
use Rattle.cluster_types.specs.Journals.{AreInFlightByNumber}
use Rattle.cluster_types.specs.Precedence.{op_cell}
use Rattle.cluster_types.specs.Runs.{RunStanding, due, Runs, journal_at}
use Rattle.cluster_types.specs.Safety.{HasItsLeafAlone, MayBePromotedOnFewOthers, MayRunOnFewOthers, OtherIsAway}

-- from this journal on some lines tell what happened, up to that later journal: a line `begin` tells that its action begins, and a line
-- of an answer what the answer adds, by what is in flight. The other lines tell nothing that happened
abbrev pub LinesTell : Cluster → List Event → List RunLine → List Event → Type 0
LinesTell c es [] later = later ≡ es
LinesTell c es (line.Begin k a ∷ lines) later = LinesTell c (es ++ Begin k a ∷ []) lines later
LinesTell c es (line.Taken given ∷ lines) later =
    (flight : List (ℕ × Action)) × AreInFlightByNumber es flight × LinesTell c (es ++ added_by c es flight given) lines later
LinesTell c es (_ ∷ lines) later = LinesTell c es lines later

-- before each line `begin` this holds, of the lines before it and its action
abbrev pub BeforeEachBegin : (List RunLine → Action → Type 0) → List RunLine → Type 0
BeforeEachBegin holds lines = (before after : List RunLine) (k : ℕ) (a : Action) → lines ≡ before ++ line.Begin k a ∷ after → holds before a

-- by a first journal and the lines behind it
module _ (c : Cluster) (first : List Event) where
  -- this holds of the journal that some lines tell
  pub record IsToldBy (lines : List RunLine) (Holds : List Event → Type 0) : Type 0 where
    pub journal : List Event
    pub told : LinesTell c first lines journal
    pub holds : Holds journal

  -- what is promised before a line `begin` of an action, by a journal that the lines before it tell (`journals_that_lines_tell_are_unique`)
  pub record IsSafeBegin (before : List RunLine) (a : Action) : Type 0 where
    pub copies_at_start : IfSome (op_cell op.Start a) (λ at. IsToldBy before (MayRunOnFewOthers c at))
    pub copies_at_promote : IfSome (op_cell op.Promote a) (λ at. IsToldBy before (MayRunOnFewOthers c at))
    pub promoted_copies : IfSome (op_cell op.Promote a) (λ at. IsToldBy before (MayBePromotedOnFewOthers c at))
    pub alone : IsToldBy before (HasItsLeafAlone c a)
    pub apart : IsToldBy before (λ es. (col : Colocation) → Contains c.colocations col → is_separation col ≡ true
        → OtherIsAway c a col.dependent col.dependent_role col.primary col.primary_role es
        × OtherIsAway c a col.primary col.primary_role col.dependent col.dependent_role es)

  -- before each line `begin K start LEAF NODE` or `begin K promote LEAF NODE` the leaf may run on fewer other nodes than it has copies, and where it is
  -- promoted, be so on fewer than it has promoted copies. Before `begin K migrate_to LEAF SOURCE TARGET` it may run on the source alone, and before
  -- `migrate_from` on source and target alone. No leaf gets a role beside one from which it must be apart and that may have its own there
  abbrev pub AreLinesSafe : List RunLine → Type 0
  AreLinesSafe lines = BeforeEachBegin IsSafeBegin lines

-- the journal that some lines tell is one that the run had on its way to where it stands, from the first journal on
pub record LinesTellOfTheWay (c : Cluster) (promotions : List Promotion) (whole : Bool) (first : List Event) (rest : Option (List Answer)) (at : RunStanding) (left : Option (List Answer))
    (lines : List RunLine) : Type 0 where
  pub place : RunStanding
  pub behind : Option (List Answer)
  pub printed : List RunLine
  pub more : List RunLine
  pub runs : Runs c promotions whole (due 1 first) rest printed place behind
  pub goes_on : Runs c promotions whole place behind more at left
  pub told : LinesTell c first lines (journal_at place)
