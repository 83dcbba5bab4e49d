-- Where a leaf may run, and where it may be promoted, after a journal. What an event shows of a cell is a rule of this project, on the exit
-- codes of the OCF Resource Agent API 1.1.
use Rattle.std.specs.Prelude.{ℕ, Bool, false, not, ◌==◌, ◌&&◌, ◌||◌, List, [], ◌∷◌}
use Rattle.std.specs.List.{list_all}
use Rattle.cluster_types.specs.declared.cluster.Cluster.{Cluster}
use Rattle.cluster_types.specs.declared.journal.Action.TheVariants.{Fence, Probe, Operation, MigrateTo, MigrateFrom}
use Rattle.cluster_types.specs.declared.journal.Event.{Event}
use Rattle.cluster_types.specs.declared.journal.Event.TheVariants.{Up, Down, Lost, Begin, Ended}
use Rattle.cluster_types.specs.declared.leaf.Op.TheVariants.{Start, Stop, Promote, Demote, Monitor}
use Rattle.cluster_types.specs.Cells.{is_same_cell}
use Rattle.cluster_types.specs.ExitCodes.{success, err_installed, not_running, running_promoted, failed_promoted, degraded, degraded_promoted}
use Rattle.cluster_types.specs.Fields.{is_promotable}
use Rattle.cluster_types.specs.Outcomes.{is_code_among, is_ignored}

-- the event shows an outcome that is ignored. It neither opens nor closes a cell
abbrev pub shows_nothing : Cluster → Event → Bool
shows_nothing c (Ended k a o moment) = is_ignored c a o
shows_nothing c _ = false

-- the node is out: it is down, it was fenced, or it was lost and without fencing a lost node is taken as down
abbrev pub takes_out : Bool → ℕ → Event → Bool
takes_out fencing n (Down node) = node == n
takes_out fencing n (Lost node) = node == n && not fencing
takes_out fencing n (Ended k (Fence node) o moment) = node == n && is_code_among (success ∷ []) o
takes_out fencing n _ = false

-- what lets a leaf run on the node, unless it is ignored: the node joined; a start, a promote, a demote or the taking in of a migration began or ended,
-- however it ended; the sending of a migration to the node began; or a probe or a monitor ended and doesn't close the cell
abbrev pub opens_cell : ℕ → ℕ → Event → Bool
opens_cell r n (Up node) = node == n
opens_cell r n (Begin k (Operation Start leaf node interval role)) = is_same_cell r n leaf node
opens_cell r n (Begin k (Operation Promote leaf node interval role)) = is_same_cell r n leaf node
opens_cell r n (Begin k (Operation Demote leaf node interval role)) = is_same_cell r n leaf node
opens_cell r n (Begin k (MigrateTo leaf source target)) = is_same_cell r n leaf target
opens_cell r n (Begin k (MigrateFrom leaf source target)) = is_same_cell r n leaf target
opens_cell r n (Ended k (Operation Start leaf node interval role) o moment) = is_same_cell r n leaf node
opens_cell r n (Ended k (Operation Promote leaf node interval role) o moment) = is_same_cell r n leaf node
opens_cell r n (Ended k (Operation Demote leaf node interval role) o moment) = is_same_cell r n leaf node
opens_cell r n (Ended k (MigrateFrom leaf source target) o moment) = is_same_cell r n leaf target
opens_cell r n (Ended k (Probe leaf node) o moment) = is_same_cell r n leaf node && not (is_code_among (not_running ∷ err_installed ∷ []) o)
opens_cell r n (Ended k (Operation Monitor leaf node interval role) o moment) = is_same_cell r n leaf node && not (is_code_among (not_running ∷ []) o)
opens_cell r n _ = false

-- an action shows that the leaf doesn't run on the node, unless it is ignored: a stop succeeded; a probe found it not running or not installed; or a
-- monitor found it not running
abbrev pub closes_cell : ℕ → ℕ → Event → Bool
closes_cell r n (Ended k (Operation Stop leaf node interval role) o moment) = is_same_cell r n leaf node && is_code_among (success ∷ []) o
closes_cell r n (Ended k (Probe leaf node) o moment) = is_same_cell r n leaf node && is_code_among (not_running ∷ err_installed ∷ []) o
closes_cell r n (Ended k (Operation Monitor leaf node interval role) o moment) = is_same_cell r n leaf node && is_code_among (not_running ∷ []) o
closes_cell r n _ = false

-- from this event on the leaf may run on the node: it opens the cell, and shows no outcome that is ignored
abbrev pub opens : Cluster → ℕ → ℕ → Event → Bool
opens c r n e = opens_cell r n e && not (shows_nothing c e)

-- from this event on it no longer may: the node is out, or the event closes the cell and shows no outcome that is ignored
abbrev pub closes : Cluster → ℕ → ℕ → Event → Bool
closes c r n e = takes_out c.properties.fencing n e || closes_cell r n e && not (shows_nothing c e)

-- the leaf may run on the node: some event opens the cell, and no later event closes it
abbrev pub may_be_running : Cluster → ℕ → ℕ → List Event → Bool
may_be_running c r n [] = false
may_be_running c r n (e ∷ es) = opens c r n e && list_all (λ later. not (closes c r n later)) es || may_be_running c r n es

-- what lets a leaf be promoted on the node, unless it is ignored: the node joined; a promote began or ended, however it ended; or a probe or a
-- monitor found it promoted
abbrev pub promotes_cell : ℕ → ℕ → Event → Bool
promotes_cell r n (Up node) = node == n
promotes_cell r n (Begin k (Operation Promote leaf node interval role)) = is_same_cell r n leaf node
promotes_cell r n (Ended k (Operation Promote leaf node interval role) o moment) = is_same_cell r n leaf node
promotes_cell r n (Ended k (Probe leaf node) o moment) = is_same_cell r n leaf node && is_code_among (running_promoted ∷ failed_promoted ∷ degraded_promoted ∷ []) o
promotes_cell r n (Ended k (Operation Monitor leaf node interval role) o moment) = is_same_cell r n leaf node && is_code_among (running_promoted ∷ failed_promoted ∷ degraded_promoted ∷ []) o
promotes_cell r n _ = false

-- an action shows that the leaf isn't promoted on the node, unless it is ignored: a start, a stop or a demote succeeded; a probe or a monitor found it
-- unpromoted or not running; or a probe found it not installed
abbrev pub demotes_cell : ℕ → ℕ → Event → Bool
demotes_cell r n (Ended k (Operation Start leaf node interval role) o moment) = is_same_cell r n leaf node && is_code_among (success ∷ []) o
demotes_cell r n (Ended k (Operation Stop leaf node interval role) o moment) = is_same_cell r n leaf node && is_code_among (success ∷ []) o
demotes_cell r n (Ended k (Operation Demote leaf node interval role) o moment) = is_same_cell r n leaf node && is_code_among (success ∷ []) o
demotes_cell r n (Ended k (Probe leaf node) o moment) = is_same_cell r n leaf node && is_code_among (success ∷ degraded ∷ not_running ∷ err_installed ∷ []) o
demotes_cell r n (Ended k (Operation Monitor leaf node interval role) o moment) = is_same_cell r n leaf node && is_code_among (success ∷ degraded ∷ not_running ∷ []) o
demotes_cell r n _ = false

-- from this event on the leaf may be promoted on the node: it lets a leaf be promoted, and shows no outcome that is ignored
abbrev pub opens_promoted : Cluster → ℕ → ℕ → Event → Bool
opens_promoted c r n e = promotes_cell r n e && not (shows_nothing c e)

-- from this event on it no longer may: the node is out, or the event shows that the leaf isn't promoted, and no outcome that is ignored
abbrev pub closes_promoted : Cluster → ℕ → ℕ → Event → Bool
closes_promoted c r n e = takes_out c.properties.fencing n e || demotes_cell r n e && not (shows_nothing c e)

-- some event lets the leaf be promoted on the node, and no later event takes that back
abbrev pub is_left_promoted : Cluster → ℕ → ℕ → List Event → Bool
is_left_promoted c r n [] = false
is_left_promoted c r n (e ∷ es) =
    opens_promoted c r n e && list_all (λ later. not (closes_promoted c r n later)) es || is_left_promoted c r n es

-- the leaf may be promoted on the node; only a promotable leaf may
abbrev pub may_be_promoted : Cluster → ℕ → ℕ → List Event → Bool
may_be_promoted c r n es = is_promotable c r && is_left_promoted c r n es
