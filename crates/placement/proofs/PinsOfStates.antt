-- Pins, and the targets that stand before any decision, by the states that a journal tells are those of the journal.
use Rattle.std.proofs.Common.{◌≡◌, ℕ, ◌+◌, ◌*◌, ◌<◌, nat_lt, ◌&&◌, Bool, true, false, not, if◌then◌else◌, Option, Some, None, List, [], ◌∷◌, length, map, slice_get, unwrap_or, refl, ap, ◌∙◌}
use Rattle.std.specs.List.{range_with_len}
use Rattle.std.specs.Option.{option_map_or}
use Rattle.std.proofs.lemmas.Bool.{lt-ltb}
use Rattle.lemmas.proofs.Ranges.{any-same, flat_map-same, map-same}
use Rattle.cluster_types.specs.declared.cluster.Cluster.{Cluster}
use Rattle.cluster_types.specs.declared.journal.Event.{Event}
use Rattle.cluster_types.specs.declared.journal.Promotion.{Promotion}
use Rattle.cluster_types.specs.declared.placement.Decision.TheVariants.{Place, Promote}
use Rattle.cluster_types.specs.declared.placement.Pin.{Pin}
use Rattle.cluster_types.specs.declared.placement.Pin.TheVariants.{Unmanaged, Blocked}
use Rattle.cluster_types.specs.declared.placement.Table.{Table}
use Rattle.cluster_types.specs.declared.placement.Target.{Target}
use Rattle.cluster_types.specs.declared.placement.Target.TheVariants as target
use Rattle.cluster_types.specs.declared.states.Cell.{Cell}
use Rattle.cluster_types.specs.CellStates.{cell_state}
use Rattle.cluster_types.specs.Decisions.{decisions, decisions_of}
use Rattle.cluster_types.specs.Fields.{is_managed, is_promotable}
use Rattle.cluster_types.specs.May.{may_be_running, may_be_promoted}
use Rattle.cluster_types.specs.NodeStates.{is_online, is_online_in, is_online_state}
use Rattle.cluster_types.specs.Pins.{is_blocked_state, is_pinned, is_unprobed_state, pin_of, pinned_targets}
use Rattle.cluster_types.specs.Tables.{targets_of}
use Rattle.cluster_types.specs.UnpackedStates.{states_of}
use Rattle.cluster_types.proofs.PinnedLeaves.{pin_known}
use Rattle.cluster_types.proofs.StatesKept.{cell_kept, length-rows, node_kept, slice_get-rows}
use Rattle.plan_laws.proofs.TablesWithin.{kept_within, pinned_within, same_within}
use Rattle.placement.specs.Scores.{cells_of}
use Rattle.placement.specs.Inner.DecisionLists.{decisions_in, decisions_in_leaf}
use Rattle.placement.specs.Inner.Pins.{is_blocked_by, may_stay, pin_by, pinned_in, pins_by, stay_by}

-- a cell of the cluster, a leaf that is left as it is, and whether it stays there
in_cluster : (leaf node pinned online runs unprobed : Bool) (stays otherwise : Target) → leaf ≡ true → node ≡ true
    → (if pinned then (if online && (runs && not unprobed) then stays else otherwise) else otherwise)
    ≡ (if leaf && node && pinned && online && runs && not unprobed then stays else otherwise)
in_cluster true true true true runs unprobed stays otherwise e f = refl
in_cluster true true true false runs unprobed stays otherwise e f = refl
in_cluster true true false online runs unprobed stays otherwise e f = refl
in_cluster true false pinned online runs unprobed stays otherwise e f = cc
in_cluster false node pinned online runs unprobed stays otherwise e f = cc

module _ (c : Cluster) (es : List Event) (ps : List Promotion) where
  pin-is : (r : ℕ) → r < length c.leaves → pin_by c (states_of c es ps) r ≡ pin_of c es r
  pin-is r leaf =
      ap (λ (b : Bool). if not (is_managed c r) then Some Unmanaged else (if b then Some Blocked else None))
      (any-same (is_blocked_by c (states_of c es ps) r) (λ n. is_blocked_state (cell_state c r n es)) (length c.nodes)
      (λ n node. ap (λ s. option_map_or (λ (cell : Cell). is_blocked_state cell.state) s false) (cell_kept c es ps r n leaf node)))

  pub pins-are : pins_by c (states_of c es ps) ≡ map (pin_of c es) (range_with_len 0 (length c.leaves))
  pins-are = map-same (pin_by c (states_of c es ps)) (pin_of c es) (length c.leaves) pin-is

  -- a leaf that stays where it is has this target in a cell
  stay-is : (r n : ℕ) → r < length c.leaves → n < length c.nodes → stay_by c (states_of c es ps) r n
      ≡ (if is_online c n es && (may_be_running c r n es && not (is_unprobed_state (cell_state c r n es))) then (if may_be_promoted c r n es then target.Promoted else target.Started) else target.Nowhere)
  stay-is r n leaf node =
      ap (λ s. option_map_or (λ (cell : Cell). if is_online_in (states_of c es ps).nodes n && may_stay cell then (if cell.may_promoted then target.Promoted else target.Started) else target.Nowhere) s target.Nowhere)
      (cell_kept c es ps r n leaf node)
      ∙ ap (λ s. if option_map_or is_online_state s false && (may_be_running c r n es && not (is_unprobed_state (cell_state c r n es))) then (if may_be_promoted c r n es then target.Promoted else target.Started) else target.Nowhere)
      (node_kept c es ps n node)

  module _ (pins : List (Option Pin)) (are : pins ≡ map (pin_of c es) (range_with_len 0 (length c.leaves))) where
    pub decisions-are : decisions_in c pins ≡ decisions c es
    decisions-are =
        flat_map-same (decisions_in_leaf c pins) (decisions_of c es) (length c.leaves)
        (λ r leaf. ap (λ (b : Bool). if b then [] else Place r ∷ (if is_promotable c r then Promote r ∷ [] else [])) (pin_known c es pins are r))

    cell-is : (r n : ℕ) → r < length c.leaves → n < length c.nodes → pinned_in c pins (states_of c es ps) r n ≡ pinned_targets c es r n
    cell-is r n leaf node =
        ap (λ (b : Bool). if b then stay_by c (states_of c es ps) r n else target.Nowhere) (pin_known c es pins are r)
        ∙ (ap (λ (t : Target). if is_pinned c es r then t else target.Nowhere) (stay-is r n leaf node)
        ∙ in_cluster (nat_lt r (length c.leaves)) (nat_lt n (length c.nodes)) (is_pinned c es r) (is_online c n es) (may_be_running c r n es) (is_unprobed_state (cell_state c r n es))
        (if may_be_promoted c r n es then target.Promoted else target.Started) target.Nowhere (lt-ltb r (length c.leaves) leaf) (lt-ltb n (length c.nodes) node))

    abbrev before : ℕ → ℕ → Target
    before = pinned_in c pins (states_of c es ps)

    -- the table of these targets
    abbrev pub table_before : Table
    table_before = record { nodes = length c.nodes; targets = cells_of c before }

    pub table-is : targets_of table_before ≡ pinned_targets c es
    table-is =
        same_within c (targets_of table_before) (pinned_targets c es)
        (kept_within c table_before refl (length-rows before (length c.nodes) 0 (length c.leaves))) (pinned_within c es ps)
        (λ r n leaf node.
        ap (λ (b : Bool). if b then unwrap_or (slice_get (cells_of c before) (r * length c.nodes + n)) target.Nowhere else target.Nowhere) (lt-ltb n (length c.nodes) node)
        ∙ (ap (λ (t : Option Target). unwrap_or t target.Nowhere) (slice_get-rows before (length c.nodes) (length c.leaves) r n leaf node)
        ∙ cell-is r n leaf node))
