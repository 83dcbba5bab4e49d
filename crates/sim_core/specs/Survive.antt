-- What is written by the word `survive`.
use Rattle.std.specs.Prelude.{◌≡◌, ℕ, List}
use Rattle.input_reading.specs.declared.input.reading.Input.{Input}
use Rattle.cluster_types.specs.declared.report.Report.{Report}
use Rattle.planner.specs.Losses.{AreAllLosses}
use Rattle.trace_text.specs.Losses.{survive_text}

-- the text has what the loss of each online node does, in the order of the nodes, by the cluster and the first journal that the input tells
pub record IsSurviveText (whole : Input) (text : List ℕ) : Type 0 where
  pub report : Report
  pub is : AreAllLosses whole.head.cluster whole.head.journal.events whole.head.journal.promotions report
  pub printed : text ≡ survive_text whole.head.cluster report
