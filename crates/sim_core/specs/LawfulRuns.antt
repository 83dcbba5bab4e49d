-- When the lines of a written run are those of the run of their own answers, and which line is the first that isn't (rule of this project).
use Rattle.std.specs.Prelude.{◌≡◌, ◌≢◌, ◌⊎◌, ℕ, ◌<◌, ◌≤◌, true, Option, Some, List, [], ◌∷◌, length, map, take, slice_get}
use Rattle.std.specs.List.{flat_map}
use Rattle.std.specs.Option.{option_map_or}
use Rattle.cluster_types.specs.declared.cluster.Cluster.{Cluster}
use Rattle.cluster_types.specs.declared.journal.Answer.{Answer}
use Rattle.cluster_types.specs.declared.journal.Event.{Event}
use Rattle.cluster_types.specs.declared.journal.Journal.{Journal}
use Rattle.cluster_types.specs.declared.run.RunLine.{RunLine}
use Rattle.cluster_types.specs.declared.run.RunLine.TheVariants as line
use Rattle.cluster_types.specs.Runs.{RunStanding, due, Runs, IsCutRun, IsWholeRun}
use Rattle.input_reading.specs.declared.run.text.RunTextLine.{RunTextLine}
use Rattle.sim_core.specs.declared.verdict.Clause.{Clause}
use Rattle.sim_core.specs.declared.verdict.Clause.TheVariants as clause
use Rattle.sim_core.specs.declared.verdict.Verdict.{Verdict}
use Rattle.sim_core.specs.declared.verdict.Verdict.TheVariants.{Yes, No}

-- the answers among some lines, in their order
abbrev pub answer_in : RunLine → List Answer
answer_in (line.Taken given) = given ∷ []
answer_in _ = []

abbrev pub answers_of_lines : List RunLine → List Answer
answers_of_lines lines = flat_map answer_in lines

-- what kind of line is due where a run prints this one
abbrev pub clause_of : RunLine → Clause
clause_of (line.Transition k) = clause.Transition
clause_of (line.Pinned r pin) = clause.Targets
clause_of (line.Goal r n target) = clause.Targets
clause_of (line.Lacking r reason) = clause.Targets
clause_of (line.Begin k action) = clause.Begin
clause_of (line.Complete k) = clause.Close
clause_of (line.Aborted k) = clause.Close
clause_of _ = clause.Answer

-- what some written lines say
abbrev pub said : List RunTextLine → List RunLine
said lines = map (λ (l : RunTextLine). l.what) lines

-- of the lines of a written run, from a journal on
module _ (c : Cluster) (journal : Journal) (lines : List RunLine) where
  -- the whole run of their answers prints these lines, and leaves this journal
  abbrev pub IsWholeRunOfLines : List RunLine → List Event → Type 0
  IsWholeRunOfLines printed left = IsWholeRun c journal.promotions true journal.events (Some (answers_of_lines lines)) printed left

  -- the run of their answers prints these lines, leaves this journal, and is cut by an answer that doesn't apply
  abbrev pub IsCutRunOfLines : List RunLine → List Event → Answer → Option (List Answer) → Type 0
  IsCutRunOfLines printed left given behind = IsCutRun c journal.promotions true journal.events (Some (answers_of_lines lines)) printed left given behind

  -- the run of their answers prints these lines so far
  pub record IsPrintedSoFar (printed : List RunLine) : Type 0 where
    pub at : RunStanding
    pub behind : Option (List Answer)
    pub runs : Runs c journal.promotions true (due 1 journal.events) (Some (answers_of_lines lines)) printed at behind

  -- they are lawful: they are the lines of the whole run of their answers
  pub record IsLawfulRun : Type 0 where
    pub left : List Event
    pub whole : IsWholeRunOfLines lines left

  -- the run prints another line at this place than they have there, if any, and up to there the same
  pub record PrintsAnother (place : ℕ) (kind : Clause) : Type 0 where
    pub printed : List RunLine
    pub so_far : IsPrintedSoFar printed
    pub due : RunLine
    pub due_there : slice_get printed place ≡ Some due
    pub kind_is : kind ≡ clause_of due
    pub within : place ≤ length lines
    pub same : take place printed ≡ take place lines
    pub different : slice_get lines place ≢ Some due

  -- up to this place they have the lines that the run prints, and there it is cut, or it is over and they go on
  pub record IsUndue (place : ℕ) : Type 0 where
    pub printed : List RunLine
    pub left : List Event
    pub within : place ≤ length lines
    pub same : printed ≡ take place lines
    pub ends : (IsWholeRunOfLines printed left × (place < length lines)) ⊎ ((given : Answer) × (behind : Option (List Answer)) × IsCutRunOfLines printed left given behind)

  -- the first line that isn't the due one stands at this place, and this kind is due there
  pub data IsFaultyPlace (place : ℕ) : Clause → Type 0 where
    other : (kind : Clause) → PrintsAnother place kind → IsFaultyPlace place kind
    undue : IsUndue place → IsFaultyPlace place clause.Answer

-- the number of the line at a place of a written run; behind its last line, this one
abbrev pub line_number_at : List RunTextLine → ℕ → ℕ → ℕ
line_number_at lines place after = option_map_or (λ (l : RunTextLine). l.line) (slice_get lines place) after

-- a line is at fault, and the first that is has this number
pub record IsFaultyLine (c : Cluster) (journal : Journal) (lines : List RunTextLine) (after number : ℕ) (kind : Clause) : Type 0 where
  pub place : ℕ
  pub fault : IsFaultyPlace c journal (said lines) place kind
  pub number_is : number ≡ line_number_at lines place after

-- what a verdict says
abbrev pub Judges : Cluster → Journal → List RunTextLine → ℕ → Verdict → Type 0
Judges c journal lines after Yes = IsLawfulRun c journal (said lines)
Judges c journal lines after (No number kind) = IsFaultyLine c journal lines after number kind
