-- What a decision reads to choose its nodes (follows from the definitions of which nodes a decision chooses).
use Rattle.std.specs.Prelude.{ℕ, ◌&&◌, ◌||◌, min, Bool, false, if◌then◌else◌, ℤ, List, ◌∷◌, slice_get, unwrap_or, []}
use Rattle.score.specs.Choice.{has_enough}
use Rattle.score.specs.Total.{total_of}
use Rattle.cluster_types.specs.declared.cluster.Cluster.{Cluster}
use Rattle.cluster_types.specs.declared.placement.Decision.{Decision}
use Rattle.cluster_types.specs.declared.placement.Decision.TheVariants.{Place, Promote}
use Rattle.cluster_types.specs.declared.states.Rights.{Rights}
use Rattle.cluster_types.specs.declared.states.States.{States}
use Rattle.cluster_types.specs.Choice.{has_primaries, is_apart, is_placed_for, is_stopped_role, is_unpromoted_role, preference}
use Rattle.cluster_types.specs.Decisions.{leaf_of}
use Rattle.cluster_types.specs.Fields.{copies, promoted_copies, target_role_of}
use Rattle.cluster_types.specs.Tables.{Targets}
use Rattle.placement.specs.declared.totals.table.ScoreTable.{ScoreTable}
use Rattle.placement.specs.Scores.{score_in}
use Rattle.placement.specs.UsableNodes.{is_usable_by}
use Rattle.placement.specs.Reads.{is_kept_in, may_stay_in}

-- on how many nodes a leaf is promoted at most
abbrev pub promote_cap_of : Cluster → ℕ → ℕ
promote_cap_of c r =
    if is_stopped_role (target_role_of c r) || is_unpromoted_role (target_role_of c r) then 0 else min (copies c r) (promoted_copies c r)

-- a failure stops the leaf everywhere
abbrev pub is_fail_stopped_in : States → ℕ → Bool
is_fail_stopped_in states r = unwrap_or (slice_get states.fail_stop r) false

module _ (c : Cluster) (states : States) where
  -- how many nodes a decision chooses at most
  abbrev pub cap_in : Decision → ℕ
  cap_in (Place r) = if is_stopped_role (target_role_of c r) || is_fail_stopped_in states r then 0 else copies c r
  cap_in (Promote r) = promote_cap_of c r

  module _ (rights : Rights) where
    abbrev pub is_permitted_in : Decision → ℕ → Bool
    is_permitted_in d n = rights.may_start || may_stay_in c states rights (leaf_of d) && is_kept_in c states d n

    -- the node may be chosen, as far as colocations and totals aren't asked
    abbrev pub is_open_in : Targets → Decision → ℕ → Bool
    is_open_in table d n = is_usable_by c states n && is_permitted_in d n && is_placed_for table d n

    -- the node may be chosen, where these are the totals
    abbrev pub is_candidate_in : Targets → Decision → List ℤ → ℕ → Bool
    is_candidate_in table d totals n =
        (is_open_in table d n && (has_primaries c table d n && is_apart c table d n)) && has_enough totals n

-- the total of a decision on a node, with the table so far
abbrev pub total_in : Cluster → ScoreTable → Targets → Decision → ℕ → ℤ
total_in c scores table d n = total_of (score_in scores d n ∷ preference c table d n ∷ [])
