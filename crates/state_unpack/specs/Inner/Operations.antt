-- What an operation of a resource shows by how it ended (OCF Resource Agent API 1.1, exit status codes; what follows is a rule of this project).
use Rattle.std.specs.Prelude.{Bool, true, false, not, [], ◌∷◌}
use Rattle.cluster_types.specs.declared.journal.Outcome.{Outcome}
use Rattle.cluster_types.specs.declared.leaf.Op.{Op}
use Rattle.cluster_types.specs.declared.leaf.Op.TheVariants.{Start, Stop, Promote, Demote, Monitor}
use Rattle.cluster_types.specs.ExitCodes.{success, not_running, running_promoted, failed_promoted, degraded, degraded_promoted}
use Rattle.cluster_types.specs.Outcomes.{is_code_among}

-- the resource may run after it
abbrev pub may_run_after : Op → Outcome → Bool
may_run_after Start o = true
may_run_after Stop o = false
may_run_after Promote o = true
may_run_after Demote o = true
may_run_after Monitor o = not (is_code_among (not_running ∷ []) o)

-- it shows that the resource doesn't run
abbrev pub is_off_after : Op → Outcome → Bool
is_off_after Start o = false
is_off_after Stop o = is_code_among (success ∷ []) o
is_off_after Promote o = false
is_off_after Demote o = false
is_off_after Monitor o = is_code_among (not_running ∷ []) o

-- the resource may be promoted after it, if it wasn't before
abbrev pub may_be_promoted_after : Op → Outcome → Bool
may_be_promoted_after Start o = false
may_be_promoted_after Stop o = false
may_be_promoted_after Promote o = true
may_be_promoted_after Demote o = false
may_be_promoted_after Monitor o = is_code_among (running_promoted ∷ failed_promoted ∷ degraded_promoted ∷ []) o

-- it shows that the resource isn't promoted
abbrev pub is_unpromoted_after : Op → Outcome → Bool
is_unpromoted_after Start o = is_code_among (success ∷ []) o
is_unpromoted_after Stop o = is_code_among (success ∷ []) o
is_unpromoted_after Promote o = false
is_unpromoted_after Demote o = is_code_among (success ∷ []) o
is_unpromoted_after Monitor o = is_code_among (success ∷ degraded ∷ not_running ∷ []) o
