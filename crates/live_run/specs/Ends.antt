-- How a run over result lines ends, and what it prints, by all that is to come of them (Pacemaker Administration, "Transitions"; the rest is a rule of
-- this project).
use Rattle.std.specs.Prelude.{◌≡◌, ℕ, true, false, Some, None, List, [], ◌∷◌, ◌++◌, is_none, map}
use Rattle.std.specs.List.{flat_map}
use Rattle.cluster_types.specs.declared.cluster.Cluster.{Cluster}
use Rattle.cluster_types.specs.declared.journal.Event.{Event}
use Rattle.cluster_types.specs.declared.journal.Journal.{Journal}
use Rattle.cluster_types.specs.declared.run.RunLine.{RunLine}
use Rattle.cluster_types.specs.declared.run.RunLine.TheVariants as line
use Rattle.cluster_types.specs.Runs.{IsCutRun, IsRunSoFar, IsWholeRun}
use Rattle.cluster_types.specs.Texts.{run_line}
use Rattle.live_run.specs.AnswersToCome.{Coming}
use Rattle.live_run.specs.Courses.{answers_to_come}
use Rattle.live_run.specs.declared.line_stop.LineCause.{LineCause}
use Rattle.live_run.specs.declared.line_stop.LineStop.TheVariants as why
use Rattle.live_run.specs.LineCauses.{line_refusal_text}
use Rattle.input_reading.specs.declared.results.result_lines.ResultLine.{ResultLine}
use Rattle.live_run.specs.declared.live_end.LiveEnd.{LiveEnd}
use Rattle.live_run.specs.declared.live_end.LiveEnd.TheVariants.{Done, Unexpected, Refused, TooLarge}

-- the text of some lines of a run
abbrev pub run_lines_text : Cluster → List RunLine → List ℕ
run_lines_text c lines = flat_map (run_line c) lines

-- the run of a journal of a cluster, over the answers that are to come. They are all, where no line is refused or goes past the limit of bytes
module _ (c : Cluster) (journal : Journal) (coming : Coming) where
  -- the whole run prints these lines
  pub record WholeRunGives (lines : List RunLine) : Type 0 where
    pub journal_now : List Event
    pub all : coming.stop ≡ None
    pub run : IsWholeRun c journal.promotions true journal.events (Some (answers_to_come coming)) lines journal_now

  -- the run prints these lines, takes these answers, and is cut by the next, which doesn't apply
  pub record CutRunGives (lines : List RunLine) (given : List ResultLine) (result : ResultLine) : Type 0 where
    pub journal_now : List Event
    pub behind : List ResultLine
    pub parts : coming.results ≡ given ++ result ∷ behind
    pub run : IsCutRun c journal.promotions (is_none coming.stop) journal.events (Some (answers_to_come coming)) lines journal_now result.answer
        (Some (map (λ (r : ResultLine). r.answer) behind))

  -- the run prints these lines, takes all answers, and asks for one more
  pub record AsksForMore (lines : List RunLine) : Type 0 where
    pub journal_now : List Event
    pub run : IsRunSoFar c journal.promotions false journal.events (Some (answers_to_come coming)) lines journal_now (Some [])

  -- the text of a run that is whole
  pub record IsWholeText (text : List ℕ) : Type 0 where
    pub lines : List RunLine
    pub run : WholeRunGives lines
    pub printed : text ≡ run_lines_text c lines

  -- the text of a run that is cut: behind its lines stands `unexpected LINE`
  pub record IsCutText (text : List ℕ) : Type 0 where
    pub lines : List RunLine
    pub given : List ResultLine
    pub result : ResultLine
    pub run : CutRunGives lines given result
    pub printed : text ≡ run_lines_text c lines ++ run_line c (line.Unexpected result.line)

  -- the text of a run that asks for a line that is refused: behind its lines stands `refused LINE CAUSE`
  pub record IsRefusedText (text : List ℕ) : Type 0 where
    pub lines : List RunLine
    pub line : ℕ
    pub cause : LineCause
    pub stop : coming.stop ≡ Some (why.Refused line cause)
    pub run : AsksForMore lines
    pub printed : text ≡ run_lines_text c lines ++ line_refusal_text line cause

  -- the text of a run that asks for a line that goes past the limit of bytes
  pub record IsBoundedText (text : List ℕ) : Type 0 where
    pub lines : List RunLine
    pub stop : coming.stop ≡ Some why.TooLarge
    pub run : AsksForMore lines
    pub printed : text ≡ run_lines_text c lines

  -- the run gets this end and this text. The other ends say that memory, a read or a write failed, and no run gets them
  abbrev pub EndGets : LiveEnd → List ℕ → Type 0
  EndGets Done text = IsWholeText text
  EndGets Unexpected text = IsCutText text
  EndGets Refused text = IsRefusedText text
  EndGets TooLarge text = IsBoundedText text
  EndGets _ text = ⊥

  -- the run gets this end
  pub record IsDueEnd (end : LiveEnd) : Type 0 where
    pub text : List ℕ
    pub gets : EndGets end text
