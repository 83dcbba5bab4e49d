-- What `replay` writes is read again (rule of this project).
use Rattle.std.specs.Prelude.{ℕ, List, [], ◌∷◌, ◌++◌}
use Rattle.cluster_types.specs.declared.cluster.Cluster.{Cluster}
use Rattle.cluster_types.specs.declared.journal.Journal.{Journal}
use Rattle.cluster_types.specs.declared.run.RunLine.TheVariants as line
use Rattle.input_reading.specs.PrintedLines.{ReadsAgain}
use Rattle.live_run.specs.AnswersToCome.{Coming}
use Rattle.live_run.specs.Ends.{IsCutText, IsWholeText}
use Rattle.sim_core.specs.Replay.{IsTextOfRun}

-- the text is that of a whole run, and is read as the lines of that run
pub record IsWholeTextAgain (c : Cluster) (journal : Journal) (come : Coming) (text : List ℕ) : Type 0 where
  pub written : IsWholeText c journal come text
  pub again : ReadsAgain c written.lines

-- the text is that of a run that is cut, and is read as the lines of that run, with the line `unexpected LINE` behind them
pub record IsCutTextAgain (c : Cluster) (journal : Journal) (come : Coming) (text : List ℕ) : Type 0 where
  pub written : IsCutText c journal come text
  pub again : ReadsAgain c (written.lines ++ line.Unexpected written.result.line ∷ [])

-- so it is for the run of an input
abbrev pub IsWholeRunReadAgain : List ℕ → List ℕ → Type 0
IsWholeRunReadAgain input text = IsTextOfRun IsWholeTextAgain input text

abbrev pub IsCutRunReadAgain : List ℕ → List ℕ → Type 0
IsCutRunReadAgain input text = IsTextOfRun IsCutTextAgain input text
