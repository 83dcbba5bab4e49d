-- What a decision reads of the states that a journal tells is what the definitions say of the journal.
use Rattle.std.proofs.Common.{◌≡◌, ℕ, ◌<◌, Bool, true, false, ◌&&◌, ◌||◌, nat_le, if◌then◌else◌, Some, List, length, refl, ap, ◌∙◌}
use Rattle.std.specs.Prelude.{unwrap_or}
use Rattle.std.specs.Option.{option_map, option_map_or}
use Rattle.lemmas.proofs.Ranges.{count-same}
use Rattle.cluster_types.specs.declared.cluster.Cluster.{Cluster}
use Rattle.cluster_types.specs.declared.journal.Event.{Event}
use Rattle.cluster_types.specs.declared.journal.Promotion.{Promotion}
use Rattle.cluster_types.specs.declared.placement.Decision.{Decision}
use Rattle.cluster_types.specs.declared.placement.Decision.TheVariants.{Place, Promote}
use Rattle.cluster_types.specs.declared.states.Cell.{Cell}
use Rattle.cluster_types.specs.CellStates.{cell_state}
use Rattle.cluster_types.specs.Choice.{cap_of, is_kept_by, is_permitted, is_placed_for, is_stopped_role}
use Rattle.cluster_types.specs.Decisions.{leaf_of}
use Rattle.cluster_types.specs.Fields.{copies, target_role_of}
use Rattle.cluster_types.specs.NodeStates.{is_usable}
use Rattle.cluster_types.specs.Rights.{may_keep, may_start, rights_of}
use Rattle.cluster_types.specs.Tables.{Targets}
use Rattle.cluster_types.specs.Terms.{active_count, is_active}
use Rattle.cluster_types.specs.UnpackedStates.{states_of}
use Rattle.cluster_types.proofs.StatesKept.{cell_kept, fail_stop_kept}
use Rattle.placement.specs.OwnRows.{is_active_by}
use Rattle.placement.proofs.OwnOfStates.{active-is, usable-is}
use Rattle.placement.specs.Reads.{active_count_in, is_kept_in, state_in}
use Rattle.placement.specs.Inner.Reads.{cap_in, is_open_in, is_permitted_in}

turned : (s k b h : Bool) → (s || (k && b) && h) ≡ (s || k && h && b)
turned true k b h = refl
turned false true true true = refl
turned false true true false = refl
turned false true false true = refl
turned false true false false = refl
turned false false b h = refl

module _ (c : Cluster) (es : List Event) (ps : List Promotion) where
  state-is : (r n : ℕ) → r < length c.leaves → n < length c.nodes → state_in c (states_of c es ps) r n ≡ Some (cell_state c r n es)
  state-is r n leaf node = ap (option_map (λ (cell : Cell). cell.state)) (cell_kept c es ps r n leaf node)

  count-is : (r : ℕ) → r < length c.leaves → active_count_in c (states_of c es ps) r ≡ active_count c es r
  count-is r leaf =
      count-same (is_active_by c (states_of c es ps) r) (λ n. is_active (cell_state c r n es)) (length c.nodes)
      (λ n low. active-is c es ps r n leaf low)

  pub cap-is : (d : Decision) → leaf_of d < length c.leaves → cap_in c (states_of c es ps) d ≡ cap_of c es d
  cap-is (Place r) leaf =
      ap (λ s. if is_stopped_role (target_role_of c r) || unwrap_or s false then 0 else copies c r) (fail_stop_kept c es ps r leaf)
  cap-is (Promote r) leaf = refl

  module _ (d : Decision) (n : ℕ) (leaf : leaf_of d < length c.leaves) (node : n < length c.nodes) where
    kept-is : is_kept_in c (states_of c es ps) d n ≡ is_kept_by d (cell_state c (leaf_of d) n es)
    kept-is = ap (λ s. option_map_or (is_kept_by d) s false) (state-is (leaf_of d) n leaf node)

    permitted-is : is_permitted_in c (states_of c es ps) (rights_of c es) d n ≡ is_permitted c es d n
    permitted-is =
        let most = copies c (leaf_of d) in
        ap (λ k. may_start c es || (may_keep c es && nat_le k most) && is_kept_in c (states_of c es ps) d n) (count-is (leaf_of d) leaf)
        ∙ (ap (λ b. may_start c es || (may_keep c es && nat_le (active_count c es (leaf_of d)) most) && b) kept-is
        ∙ turned (may_start c es) (may_keep c es) (nat_le (active_count c es (leaf_of d)) most) (is_kept_by d (cell_state c (leaf_of d) n es)))

    pub open-is : (table : Targets) → is_open_in c (states_of c es ps) (rights_of c es) table d n ≡ (is_usable c n es && is_permitted c es d n && is_placed_for table d n)
    open-is table =
        ap (λ b. b && is_permitted_in c (states_of c es ps) (rights_of c es) d n && is_placed_for table d n) (usable-is c es ps n node)
        ∙ ap (λ b. is_usable c n es && b && is_placed_for table d n) permitted-is
