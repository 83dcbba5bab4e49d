-- The actions that are needed have a list.
use Rattle.std.proofs.Common.{arith, ◌≡◌, ◌<◌, ◌*◌, ◌++◌, ℕ, suc, Bool, List, length, map, refl, Contains}
use Rattle.std.specs.List.{range_with_len}
use Rattle.std.proofs.lemmas.List.FromFn.{get_or-map-range_with_len}
use Rattle.listed.specs.Flags.{is_marked}
use Rattle.cluster_types.specs.declared.cluster.Cluster.{Cluster}
use Rattle.cluster_types.specs.declared.journal.Action.{Action}
use Rattle.cluster_types.specs.declared.journal.Event.{Event}
use Rattle.cluster_types.specs.declared.journal.Promotion.{Promotion}
use Rattle.cluster_types.specs.declared.leaf.Op.TheVariants.{Stop}
use Rattle.cluster_types.specs.declared.rules.Order.{Order}
use Rattle.cluster_types.specs.NeededActions.{Needed}
use Rattle.cluster_types.specs.Numbers.{AreNeeded, rank, step_of}
use Rattle.cluster_types.specs.Rights.{may_fence}
use Rattle.cluster_types.specs.Tables.{Targets}
use Rattle.cluster_types.specs.UnpackedStates.{states_of}
use Rattle.cluster_types.specs.Valid.{IsValid}
use Rattle.loops.proofs.FromValid.{valid_order}
use Rattle.loops.proofs.RankChains.{rank_bounded}
use Rattle.planner.specs.Inner.Actions.{all_fences, is_undisturbed, is_touched, leaves_actions}
use Rattle.planner.specs.CycledCells.{MarkedCells, first_marks, with_orders}
use Rattle.planner.specs.Inner.Levels.{below_level, need_at}
use Rattle.planner.proofs.Found.{found}
use Rattle.planner.proofs.StepsGot.{Tells}
use Rattle.planner.proofs.WholeList.{whole_list}

module _ (c : Cluster) (valid : IsValid c) (es : List Event) (ps : List Promotion) (targets : Targets) where
  below_top : (o : Order) → Contains c.orders o → rank c (step_of Stop o.first) < suc (4 * length c.leaves)
  below_top o h = let b = rank_bounded c (step_of Stop o.first) in omega arith

  abbrev marks : MarkedCells
  marks = with_orders c es targets (first_marks c es targets) (below_level c (suc (4 * length c.leaves)))

  told : Tells c es targets (need_at c es targets) marks
  told = record {
    needs = λ r n lr ln. refl;
    cycled = found c (valid_order c valid.orders) valid.steps (suc (4 * length c.leaves)) below_top es targets marks refl;
  }

  abbrev touched : List Bool
  touched = map (is_touched c (need_at c es targets) marks) (range_with_len 0 (length c.leaves))

  abbrev free : List Bool
  free = map (is_undisturbed c (is_marked touched)) (range_with_len 0 (length c.leaves))

  free_known : (r : ℕ) → r < length c.leaves → is_marked free r ≡ is_undisturbed c (is_marked touched) r
  free_known r lr = get_or-map-range_with_len (is_undisturbed c (is_marked touched)) 0 (length c.leaves) r r _ lr (omega arith)

  abbrev pub needed_list : List Action
  needed_list = all_fences c (may_fence c es) (states_of c es ps).nodes ++ leaves_actions c (need_at c es targets) marks (is_marked free)

  pub are_needed : AreNeeded (Needed c es targets) needed_list
  are_needed =
      whole_list c valid es ps targets (may_fence c es) (states_of c es ps).nodes refl refl (need_at c es targets) marks told touched free refl free_known
      needed_list refl
