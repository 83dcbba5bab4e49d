-- Which failures of a cell count, and what they lead to (Pacemaker Explained, "Handling Resource Failure").
use Rattle.std.specs.Prelude.{ℕ, ◌+◌, ◌*◌, min, nat_lt, int_lt, int_le, pos, Bool, true, false, not, ◌&&◌, ◌||◌, if◌then◌else◌, None, List, [], ◌∷◌, length, filter}
use Rattle.std.specs.List.{list_any, after_last, last_or, range_with_len}
use Rattle.std.specs.Option.{option_map_or}
use Rattle.cluster_types.specs.declared.cluster.Cluster.{Cluster}
use Rattle.cluster_types.specs.declared.journal.Action.TheVariants.{Operation}
use Rattle.cluster_types.specs.declared.journal.Event.{Event}
use Rattle.cluster_types.specs.declared.journal.Event.TheVariants.{Ended}
use Rattle.cluster_types.specs.declared.leaf.Op.TheVariants.{Start}
use Rattle.cluster_types.specs.Cells.{is_of_cell, is_reset}
use Rattle.cluster_types.specs.ExitCodes.{err_args, err_unimplemented, err_perm, err_installed, err_configured}
use Rattle.cluster_types.specs.Fields.{threshold, failure_timeout}
use Rattle.cluster_types.specs.Journals.{moment_of}
use Rattle.cluster_types.specs.Outcomes.{is_code_among, is_bad, is_ignored, effective_on_fail, is_stop_policy}

-- the events since the node last joined and the cell was last cleaned up
abbrev pub since_reset : ℕ → ℕ → List Event → List Event
since_reset r n es = after_last (is_reset r n) es

-- the event is an outcome of the cell that isn't ignored
abbrev pub is_outcome : Cluster → ℕ → ℕ → Event → Bool
is_outcome c r n (Ended k a o moment) = is_of_cell r n a && not (is_ignored c a o)
is_outcome c r n _ = false

-- the outcomes of a cell that are in force
abbrev pub outcomes : Cluster → ℕ → ℕ → List Event → List Event
outcomes c r n es = filter (is_outcome c r n) (since_reset r n es)

abbrev pub is_failure : Event → Bool
is_failure (Ended k a o moment) = is_bad a o
is_failure _ = false

-- the bad outcomes of a cell that are in force
abbrev pub failures_in_force : Cluster → ℕ → ℕ → List Event → List Event
failures_in_force c r n es = filter is_failure (outcomes c r n es)

abbrev pub ended_at : Event → ℕ
ended_at (Ended k a o moment) = moment
ended_at _ = 0

-- the failures are forgotten: the failure timeout has passed since the last of them, to the millisecond (Pacemaker Explained, "failure-timeout"; that
-- all of a cell are forgotten at once is a rule of this project). Seconds are counted in milliseconds here
abbrev pub is_forgotten : ℕ → ℕ → List Event → Bool
is_forgotten timeout now failures =
    nat_lt 0 timeout && option_map_or (λ e. nat_lt (1000 * ended_at e + timeout) (1000 * now)) (last_or None failures) false

-- the failures of a cell that count
abbrev pub counted : Cluster → ℕ → ℕ → List Event → List Event
counted c r n es =
    if is_forgotten (failure_timeout c r) (moment_of es) (failures_in_force c r n es) then [] else failures_in_force c r n es

abbrev pub is_start : Event → Bool
is_start (Ended k (Operation Start leaf node interval role) o moment) = true
is_start _ = false

-- the fail count of a cell: how many failures count, up to INFINITY; one failed start is INFINITY where the cluster says so (Pacemaker Explained,
-- "start-failure-is-fatal"; that probes count, and a failed stop as one, is a rule of this project)
abbrev pub fail_count : Cluster → ℕ → ℕ → List Event → ℕ
fail_count c r n es =
    if c.properties.start_fatal && list_any is_start (counted c r n es) then 1000000 else min (length (counted c r n es)) 1000000

abbrev pub has_code : List ℕ → Event → Bool
has_code codes (Ended k a o moment) = is_code_among codes o
has_code codes _ = false

-- exit codes after which a resource isn't tried again on the node: wrong arguments, unimplemented, no permission, not installed
-- (OCF Resource Agent API 1.1; Pacemaker Administration, "How are OCF Return Codes Interpreted?", hard errors)
abbrev pub hard_codes : List ℕ
hard_codes = err_args ∷ err_unimplemented ∷ err_perm ∷ err_installed ∷ []

-- the exit code after which it isn't tried again anywhere: not configured (likewise, fatal errors)
abbrev pub fatal_codes : List ℕ
fatal_codes = err_configured ∷ []

-- some node has a failure of the leaf that counts and passes the test
abbrev pub has_somewhere : (Event → Bool) → Cluster → ℕ → List Event → Bool
has_somewhere test c r es = list_any (λ m. list_any test (counted c r m es)) (range_with_len 0 (length c.nodes))

-- the leaf is banned from the node: its fail count there reaches the threshold, a failure there is hard, or one anywhere is fatal
abbrev pub is_banned : Cluster → ℕ → ℕ → List Event → Bool
is_banned c r n es =
    int_lt (pos 0) (threshold c r) && int_le (threshold c r) (pos (fail_count c r n es))
    || list_any (has_code hard_codes) (counted c r n es)
    || has_somewhere (has_code fatal_codes) c r es

abbrev pub asks_for_stop : Cluster → Event → Bool
asks_for_stop c (Ended k a o moment) = is_stop_policy (effective_on_fail c a)
asks_for_stop c _ = false

-- a failure somewhere keeps the leaf stopped everywhere
abbrev pub is_fail_stopped : Cluster → ℕ → List Event → Bool
is_fail_stopped c r es = has_somewhere (asks_for_stop c) c r es
