-- What is written by the word `gen`.
use Rattle.std.specs.Prelude.{◌≡◌, ℕ, true, Option, Some, List, map}
use Rattle.std.specs.List.{AllByRecursion}
use Rattle.sim_core.specs.Summary.{summary_text}
use Rattle.cluster_types.specs.declared.cluster.Cluster.{Cluster}
use Rattle.cluster_types.specs.declared.journal.Answer.{Answer}
use Rattle.cluster_types.specs.declared.journal.Journal.{Journal}
use Rattle.cluster_types.specs.declared.run.Run.{Run}
use Rattle.cluster_types.specs.Runs.{IsCutRun, IsWholeRun}
use Rattle.cluster_types.specs.Texts.{run_lines}
use Rattle.graph_exec.specs.KeptRuns.{IsPassedOfPlan}
use Rattle.input_reading.specs.declared.results.result_lines.ResultLine.{ResultLine}
use Rattle.input_reading.specs.declared.input.reading.Input.{Input}

-- what some result lines answer
abbrev pub answers_of : List ResultLine → List Answer
answers_of results = map (λ (result : ResultLine). result.answer) results

-- the run from a journal on, of these answers: to its end, or up to the answer that doesn't apply
pub data IsRunOf (c : Cluster) (journal : Journal) (answers : List Answer) (run : Run) : Type 0 where
  to_its_end : IsWholeRun c journal.promotions true journal.events (Some answers) (run_lines c run) run.journal.events → IsRunOf c journal answers run
  cut : (given : Answer) (behind : Option (List Answer))
      → IsCutRun c journal.promotions true journal.events (Some answers) (run_lines c run) run.journal.events given behind → IsRunOf c journal answers run

-- the text is the summary, with this number, of the run of an input, of which each transition is kept as it was planned
pub record IsSummaryOf (number : ℕ) (c : Cluster) (journal : Journal) (answers : List Answer) (text : List ℕ) : Type 0 where
  pub run : Run
  pub is : IsRunOf c journal answers run
  pub plans : AllByRecursion (IsPassedOfPlan c journal.promotions run.journal.events) run.passed
  pub printed : text ≡ summary_text c number run

-- the text is the summary of the run of what the input says, with this number in it
abbrev pub IsSummaryText : ℕ → Input → List ℕ → Type 0
IsSummaryText number whole text = IsSummaryOf number whole.head.cluster whole.head.journal (answers_of whole.results) text
