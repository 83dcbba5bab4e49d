-- The runs that `world` writes and `gen` sums up are safe.
use Rattle.std.proofs.Common.{ℕ, true, Option, Some, None, List}
use Rattle.cluster_types.specs.declared.journal.Answer.{Answer}
use Rattle.cluster_types.specs.declared.run.RunLine.{RunLine}
use Rattle.cluster_types.specs.Runs.{RunStanding, due, Runs, journal_at}
use Rattle.cluster_types.specs.Safety.{IsSafeRun}
use Rattle.cluster_types.specs.Texts.{run_lines}
use Rattle.input_reading.proofs.ValidInput.{cluster_valid, journal_ordered, journal_rests}
use Rattle.input_reading.specs.declared.input.reading.Input.{Input}
use Rattle.input_reading.specs.Reading.{ReadsInput}
use Rattle.run_safety.proofs.SafeRuns.{safe_run}
use Rattle.simulated.proofs.Moments.{each_moment}
use Rattle.sim_core.specs.GenSummary.{IsRunOf, IsSummaryText, answers_of, cut, to_its_end}
use Rattle.sim_core.specs.SafeTexts.{IsSummaryOfSafeRun, IsTextOfSafeWorld}
use Rattle.sim_core.specs.World.{IsWorldOf}
use Rattle.written_runs.proofs.Fronts.{on_the_way}
use Rattle.written_runs.proofs.SafeLines.{safe_lines}
use Rattle.written_runs.specs.OverLines.{AreLinesSafe}

module _ (input : List ℕ) (whole : Input) (reads : ReadsInput input whole) where
  -- over any answers
  safe_over : (rest : Option (List Answer)) → IsSafeRun whole.head.cluster whole.head.journal.promotions true whole.head.journal.events rest
  safe_over rest =
      safe_run whole.head.cluster whole.head.journal.promotions true (cluster_valid input whole reads) whole.head.journal.events rest
      (journal_ordered input whole reads, journal_rests input whole reads)

  safe_by_lines : (rest left : Option (List Answer)) (lines : List RunLine) (at : RunStanding)
      → Runs whole.head.cluster whole.head.journal.promotions true (due 1 whole.head.journal.events) rest lines at left
      → AreLinesSafe whole.head.cluster whole.head.journal.events lines
  safe_by_lines rest left lines at runs =
      safe_lines whole.head.cluster whole.head.journal.promotions true whole.head.journal.events rest (journal_rests input whole reads) (safe_over rest) at left lines runs

  pub world_safe : (number : ℕ) (text : List ℕ) → IsWorldOf number whole text → IsTextOfSafeWorld number whole text
  world_safe number text is =
      let c = whole.head.cluster in
      let promotions = whole.head.journal.promotions in
      let first = whole.head.journal.events in
      let lines = run_lines c is.run in
      let goes = is.lived.goes in
      record {
        is = is;
        safe = safe_over None;
        by_lines = safe_by_lines None None lines is.lived.at goes.steps;
        really = λ before after e.
            let way = on_the_way c promotions true first None (journal_rests input whole reads) is.lived.at None lines before after goes.steps e in
            record {
              journal = journal_at way.place;
              told = way.told;
              holds = each_moment c promotions number true first None way.behind None way.place is.lived.at way.printed way.more is.world way.runs way.goes_on goes.lives;
            };
      }

  pub summary_safe : (number : ℕ) (text : List ℕ) → IsSummaryText number whole text → IsSummaryOfSafeRun number whole text
  summary_safe number text is = record { is = is; safe = safe_over (Some (answers_of whole.results)); by_lines = by is.is }
    where
      by : IsRunOf whole.head.cluster whole.head.journal (answers_of whole.results) is.run
          → AreLinesSafe whole.head.cluster whole.head.journal.events (run_lines whole.head.cluster is.run)
      by (to_its_end run) = safe_by_lines (Some (answers_of whole.results)) run.behind (run_lines whole.head.cluster is.run) run.last run.steps
      by (cut given behind run) = safe_by_lines (Some (answers_of whole.results)) run.unread (run_lines whole.head.cluster is.run) run.last run.steps
