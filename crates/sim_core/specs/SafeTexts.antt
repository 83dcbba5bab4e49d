-- What is promised of the runs that the words `world` and `gen` make (Pacemaker Administration, "Transitions"; simulated clusters, generated cases and their
-- texts are rules of this project).
use Rattle.std.specs.Prelude.{◌≡◌, ℕ, true, Some, None, List, ◌++◌}
use Rattle.cluster_types.specs.declared.run.RunLine.{RunLine}
use Rattle.cluster_types.specs.Safety.{IsSafeRun}
use Rattle.cluster_types.specs.Texts.{run_lines}
use Rattle.input_reading.specs.declared.input.reading.Input.{Input}
use Rattle.simulated.specs.RunsWithin.{IsLivedWithin}
use Rattle.sim_core.specs.GenSummary.{IsSummaryText, answers_of}
use Rattle.sim_core.specs.World.{IsWorldOf}
use Rattle.written_runs.specs.OverLines.{AreLinesSafe, IsToldBy}

-- the text is that of the run of the simulated cluster of this number. It is safe wherever it stands, and its lines are safe by themselves; and at each of its
-- lines what really runs then is among what may run, by the first journal and the lines before
pub record IsTextOfSafeWorld (number : ℕ) (whole : Input) (text : List ℕ) : Type 0 where
  pub is : IsWorldOf number whole text
  pub safe : IsSafeRun whole.head.cluster whole.head.journal.promotions true whole.head.journal.events None
  pub by_lines : AreLinesSafe whole.head.cluster whole.head.journal.events (run_lines whole.head.cluster is.run)
  pub really : (before after : List RunLine) → run_lines whole.head.cluster is.run ≡ before ++ after
      → IsToldBy whole.head.cluster whole.head.journal.events before (IsLivedWithin whole.head.cluster number whole.head.journal.events)

-- the text sums up the run of the input, with this number. The run is safe wherever it stands, and its lines are safe by themselves
pub record IsSummaryOfSafeRun (number : ℕ) (whole : Input) (text : List ℕ) : Type 0 where
  pub is : IsSummaryText number whole text
  pub safe : IsSafeRun whole.head.cluster whole.head.journal.promotions true whole.head.journal.events (Some (answers_of whole.results))
  pub by_lines : AreLinesSafe whole.head.cluster whole.head.journal.events (run_lines whole.head.cluster is.run)
