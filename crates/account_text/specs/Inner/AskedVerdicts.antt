-- Why a node is chosen or not, of what is asked of a decision.
use Rattle.std.specs.Prelude.{ℕ, Option}
use Rattle.std.specs.Option.{option_map_or}
use Rattle.cluster_types.specs.Tables.{targets_of}
use Rattle.decision_account.specs.Verdicts.{Verdict, capped}
use Rattle.account_text.specs.Inner.VerdictsByStates.{passed_in, refusal_in, verdict_in}
use Rattle.account_text.specs.declared.decision_asked.Asked.{Asked}

abbrev pub refusal_asked : Asked → ℕ → Option Verdict
refusal_asked a n =
    refusal_in a.known.now.cluster.now a.known.now.states.now a.known.now.rights a.stays (targets_of a.loaded.now.table) a.decision a.sides.now
    a.chosen.now.totals.items n

abbrev pub outdone_asked : Asked → ℕ → Verdict
outdone_asked a n = option_map_or (passed_in a.chosen.now.totals.items a.loaded.now.loads.items n) a.last capped

abbrev pub verdict_asked : Asked → ℕ → Verdict
verdict_asked a n =
    verdict_in a.known.now.cluster.now a.known.now.states.now a.known.now.rights a.stays (targets_of a.loaded.now.table) a.decision a.sides.now
    a.chosen.now.totals.items a.loaded.now.loads.items a.chosen.now.nodes a.last n
