use Rattle.std.proofs.Common.{true, None}
use Rattle.cluster_types.specs.Runs.{amid}
use Rattle.run_safety.proofs.SafeRuns.{safe_run}
use Rattle.simulated.proofs.Applying.{none_second}
use Rattle.simulated.proofs.laws.no_start_really_makes_a_second_copy.Goals as goal

pub returns : goal.returns
returns c = λ cl ps number es lines k t since valid at_rest runs.
    let safe = safe_run cl ps true valid es None at_rest (amid k t since) lines None runs in none_second number es t since safe.1.copies
