-- The run of a text that is read reads again, whole or cut.
use Rattle.std.proofs.Common.{◌≤◌, ℕ, Bool, Option, Some, List, [], ◌∷◌, ◌++◌, length, map, Contains}
use Rattle.std.specs.List.{AllByRecursion}
use Rattle.lemmas.proofs.Members.{all_append}
use Rattle.cluster_model.proofs.EachOf.{of_all}
use Rattle.cluster_types.specs.declared.journal.Answer.{Answer}
use Rattle.cluster_types.specs.declared.journal.Event.{Event}
use Rattle.cluster_types.specs.declared.run.RunLine.{RunLine}
use Rattle.cluster_types.specs.declared.run.RunLine.TheVariants as line
use Rattle.cluster_types.specs.Runs.{RunStanding, due, Runs, IsCutRun, IsWholeRun}
use Rattle.input_reading.specs.declared.input.reading.Input.{Input}
use Rattle.input_reading.specs.declared.results.result_lines.ResultLine.{ResultLine}
use Rattle.input_reading.specs.PrintedLines.{IsLineOf, IsNumber, ReadsAgain}
use Rattle.input_reading.specs.Reading.{ReadsInput, most_bytes}
use Rattle.input_reading.proofs.AnswersFit.{read_answers}
use Rattle.input_reading.proofs.TextAgain.{text_again}
use Rattle.input_reading.proofs.ValidInput.{cluster_valid}
use Rattle.written_runs.proofs.LineNumbers.{read_numbers}
use Rattle.written_runs.proofs.ReadFits.{read_few, read_intervals}
use Rattle.written_runs.proofs.WrittenLines.{told_written}

module _ (text : List ℕ) (input : Input) (r : ReadsInput text input) (whole : Bool) where
  abbrev answers : List Answer
  answers = map (λ (result : ResultLine). result.answer) input.results

  -- wherever it stands
  lines_fit : (at : RunStanding) (left : Option (List Answer)) (lines : List RunLine)
      → Runs input.head.cluster input.head.journal.promotions whole (due 1 input.head.journal.events) (Some answers) lines at left → AllByRecursion (IsLineOf input.head.cluster) lines
  lines_fit at left lines runs =
      told_written input.head.cluster (cluster_valid text input r) (read_intervals text input r) input.head.journal.promotions whole input.head.journal.events at answers left lines runs
      (read_answers text input r) (read_few text input r)

  pub whole_again : (left : List Event) (lines : List RunLine) → IsWholeRun input.head.cluster input.head.journal.promotions whole input.head.journal.events (Some answers) lines left
      → ReadsAgain input.head.cluster lines
  whole_again left lines run = text_again input.head.cluster (cluster_valid text input r) lines (lines_fit run.last run.behind lines run.steps)

  pub cut_again : length text ≤ most_bytes → (result : ResultLine) → Contains input.results result → (left : List Event) (behind : Option (List Answer)) (lines : List RunLine)
      → IsCutRun input.head.cluster input.head.journal.promotions whole input.head.journal.events (Some answers) lines left result.answer behind
      → ReadsAgain input.head.cluster (lines ++ line.Unexpected result.line ∷ [])
  cut_again within result there left behind lines run =
      let number = of_all (λ (result : ResultLine). IsNumber result.line) input.results result (read_numbers text input r within) there in
      text_again input.head.cluster (cluster_valid text input r) (lines ++ line.Unexpected result.line ∷ [])
      (all_append (IsLineOf input.head.cluster) lines (line.Unexpected result.line ∷ []) (lines_fit run.last run.unread lines run.steps) (number, tt))
