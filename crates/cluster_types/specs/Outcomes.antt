-- Which outcomes of an action are good, bad or ignored, and what follows a bad one.
use Rattle.std.specs.Prelude.{ℕ, Bool, true, false, not, ◌==◌, ◌&&◌, List, [], ◌∷◌, find}
use Rattle.std.specs.List.{list_any}
use Rattle.std.specs.Option.{option_map_or}
use Rattle.cluster_types.specs.declared.cluster.Cluster.{Cluster}
use Rattle.cluster_types.specs.declared.journal.Action.{Action}
use Rattle.cluster_types.specs.declared.journal.Action.TheVariants.{Fence, Probe, Operation, MigrateTo, MigrateFrom}
use Rattle.cluster_types.specs.declared.journal.Outcome.{Outcome}
use Rattle.cluster_types.specs.declared.journal.Outcome.TheVariants.{Code, TimedOut, Gone}
use Rattle.cluster_types.specs.declared.leaf.Monitor.{Monitor as MonitorOf}
use Rattle.cluster_types.specs.declared.leaf.Op.{Op}
use Rattle.cluster_types.specs.declared.leaf.Op.TheVariants.{Start, Stop, Promote, Demote, Monitor}
use Rattle.cluster_types.specs.declared.leaf.OnFail.{OnFail}
use Rattle.cluster_types.specs.declared.leaf.OnFail.TheVariants as on_fail
use Rattle.cluster_types.specs.ExitCodes.{success, not_running, running_promoted, degraded, degraded_promoted}
use Rattle.cluster_types.specs.Fields.{monitors, start_on_fail, stop_on_fail, promote_on_fail, demote_on_fail}

-- the outcome is one of these exit codes
abbrev pub is_code_among : List ℕ → Outcome → Bool
is_code_among codes (Code code) = list_any (λ k. k == code) codes
is_code_among codes TimedOut = false
is_code_among codes Gone = false

-- the good exit codes of an operation: success; of a monitor also degraded, promoted, and degraded promoted
abbrev pub good_codes_of_op : Op → List ℕ
good_codes_of_op Start = success ∷ []
good_codes_of_op Stop = success ∷ []
good_codes_of_op Promote = success ∷ []
good_codes_of_op Demote = success ∷ []
good_codes_of_op Monitor = success ∷ degraded ∷ running_promoted ∷ degraded_promoted ∷ []

-- the good exit codes of an action; of a probe not running too
-- (OCF Resource Agent API 1.1, exit status codes; which are good of which action is a rule of this project)
abbrev pub good_codes : Action → List ℕ
good_codes (Fence n) = success ∷ []
good_codes (Probe r n) = success ∷ degraded ∷ not_running ∷ running_promoted ∷ degraded_promoted ∷ []
good_codes (Operation op r n ms role) = good_codes_of_op op
good_codes (MigrateTo r source target) = success ∷ []
good_codes (MigrateFrom r source target) = success ∷ []

-- the outcome is bad: another exit code, or a timeout. An action that is gone with its node is neither good nor bad (rule of this project)
abbrev pub is_bad : Action → Outcome → Bool
is_bad a (Code code) = not (list_any (λ k. k == code) (good_codes a))
is_bad a TimedOut = true
is_bad a Gone = false

-- what the failure of a monitor of this interval leads to; without a statement of the interval it is restart (rule of this project)
abbrev pub on_fail_of_monitor : List MonitorOf → ℕ → OnFail
on_fail_of_monitor ms interval = option_map_or (λ (m : MonitorOf). m.on_fail) (find (λ m. m.interval_ms == interval) ms) on_fail.Restart

-- what the failure of an operation leads to
abbrev pub on_fail_of_op : Cluster → ℕ → Op → ℕ → OnFail
on_fail_of_op c r Start interval = start_on_fail c r
on_fail_of_op c r Stop interval = stop_on_fail c r
on_fail_of_op c r Promote interval = promote_on_fail c r
on_fail_of_op c r Demote interval = demote_on_fail c r
on_fail_of_op c r Monitor interval = on_fail_of_monitor (monitors c r) interval

-- what the failure of an action leads to (Pacemaker Explained, "on-fail"); of a fence, a probe and a migration it is restart (rule of this project)
abbrev pub on_fail_of_action : Cluster → Action → OnFail
on_fail_of_action c (Fence n) = on_fail.Restart
on_fail_of_action c (Probe r n) = on_fail.Restart
on_fail_of_action c (Operation op r n interval role) = on_fail_of_op c r op interval
on_fail_of_action c (MigrateTo r source target) = on_fail.Restart
on_fail_of_action c (MigrateFrom r source target) = on_fail.Restart

-- without fencing a failure that wants its node fenced blocks the resource instead (rule of this project)
abbrev pub effective : Bool → OnFail → OnFail
effective false on_fail.Fence = on_fail.Block
effective fencing other = other

abbrev pub effective_on_fail : Cluster → Action → OnFail
effective_on_fail c a = effective c.properties.fencing (on_fail_of_action c a)

abbrev pub is_ignore : OnFail → Bool
is_ignore on_fail.Ignore = true
is_ignore _ = false

abbrev pub is_block : OnFail → Bool
is_block on_fail.Block = true
is_block _ = false

abbrev pub is_stop_policy : OnFail → Bool
is_stop_policy on_fail.Stop = true
is_stop_policy _ = false

abbrev pub is_fence : OnFail → Bool
is_fence on_fail.Fence = true
is_fence _ = false

-- the action is a recurring monitor
abbrev pub is_monitor : Action → Bool
is_monitor (Operation Monitor r n interval role) = true
is_monitor _ = false

-- the outcome is ignored: a bad one of a monitor whose on-fail is ignore. It shows that the monitor runs, and nothing else
-- (Pacemaker Explained, "on-fail"; that it counts nowhere else is a rule of this project)
abbrev pub is_ignored : Cluster → Action → Outcome → Bool
is_ignored c a o = is_monitor a && is_bad a o && is_ignore (on_fail_of_action c a)
