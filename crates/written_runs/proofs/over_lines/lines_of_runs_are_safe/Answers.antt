use Rattle.run_safety.proofs.SafeRuns.{safe_run}
use Rattle.written_runs.proofs.SafeLines.{safe_lines}
use Rattle.written_runs.proofs.over_lines.lines_of_runs_are_safe.Goals as goal

pub returns : goal.returns
returns c = λ cl promotions whole es rest left lines at valid rests runs.
    safe_lines cl promotions whole es rest rests.1 (safe_run cl promotions whole valid es rest rests) at left lines runs
