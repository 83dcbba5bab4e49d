-- The list of fences and of the actions of all leaves is what has to be done, each once.
use Rattle.std.proofs.Common.{arith, ◌≡◌, ◌≢◌, ◌<◌, ◌&&◌, ◌↔◌, ℕ, Bool, true, false, Option, Some, None, List, [], ◌∷◌, ◌++◌, length, map, refl, sym, ◌∙◌, ap, subst, AllPairs, Contains}
use Rattle.std.specs.Prelude.{slice_get}
use Rattle.std.specs.List.{range_with_len}
use Rattle.std.specs.Option.{option_map_or}
use Rattle.std.proofs.lemmas.List.FromFn.{get_or-map-range_with_len}
use Rattle.std.proofs.lemmas.Option.{get_or_from_slice_get, slice_get_within}
use Rattle.lemmas.proofs.Members.{in_flat, in_if, in_range, of_flat, of_range}
use Rattle.listed.specs.Flags.{is_marked}
use Rattle.cluster_types.specs.declared.cluster.Cluster.{Cluster}
use Rattle.cluster_types.specs.declared.journal.Action.{Action}
use Rattle.cluster_types.specs.declared.journal.Action.TheVariants.{Fence}
use Rattle.cluster_types.specs.declared.journal.Event.{Event}
use Rattle.cluster_types.specs.declared.journal.Promotion.{Promotion}
use Rattle.cluster_types.specs.declared.leaf.Leaf.{Leaf}
use Rattle.cluster_types.specs.declared.leaf.Monitor.{Monitor as MonitorOf}
use Rattle.cluster_types.specs.declared.states.NodeState.{NodeState}
use Rattle.cluster_types.specs.Fields.{monitors}
use Rattle.cluster_types.specs.NeededActions.{GetsStepAnywhere, Needed, fence, kept}
use Rattle.cluster_types.specs.NodeStates.{is_unclean_state}
use Rattle.cluster_types.specs.Numbers.{AreNeeded}
use Rattle.cluster_types.specs.Rights.{is_to_be_fenced, may_fence}
use Rattle.cluster_types.specs.Tables.{Targets}
use Rattle.cluster_types.specs.UnpackedStates.{states_of}
use Rattle.cluster_types.specs.Valid.{IsValid}
use Rattle.cluster_types.proofs.StatesKept.{node_kept}
use Rattle.loops.proofs.FromValid.{valid_join, valid_order}
use Rattle.planner.specs.Inner.Actions.{all_fences, fences_in, is_undisturbed, is_touched, is_unclean_in, leaves_actions}
use Rattle.planner.specs.CycledCells.{MarkedCells}
use Rattle.planner.specs.declared.needed_actions.steps.CellNeed.{CellNeed}
use Rattle.planner.proofs.AllNeeded.{all_needed, there}
use Rattle.planner.proofs.Conditions.{of_if, of_one}
use Rattle.planner.proofs.OnceEach.{all_once}
use Rattle.planner.proofs.PairsApart.{no_pairs}
use Rattle.planner.proofs.StepsGot.{Tells, touched_is}

abbrev DifferInInterval : MonitorOf → MonitorOf → Type 0
DifferInInterval one other = one.interval_ms ≢ other.interval_ms

module _ (c : Cluster) (valid : IsValid c) where
  watched : (r : ℕ) → AllPairs DifferInInterval (monitors c r)
  watched r = on (slice_get c.leaves r) refl where
    on : (o : Option Leaf) → slice_get c.leaves r ≡ o → AllPairs DifferInInterval (option_map_or (λ (leaf : Leaf). leaf.monitors) o [])
    on None e = no_pairs DifferInInterval
    on (Some leaf) e =
        (valid.leaves leaf (r, slice_get_within c.leaves r leaf e, get_or_from_slice_get c.leaves r leaf leaf e)).all_differ

  module _ (es : List Event) (ps : List Promotion) (targets : Targets) (may : Bool) (nodes : List NodeState)
      (allowed : may ≡ may_fence c es) (known : nodes ≡ (states_of c es ps).nodes) where
    fence_known : (n : ℕ) → n < length c.nodes → (may && is_unclean_in nodes n) ≡ is_to_be_fenced c n es
    fence_known n ln =
        ap (λ b. b && is_unclean_in nodes n) allowed
        ∙ ap (λ xs. may_fence c es && is_unclean_in xs n) known
        ∙ ap (λ (o : Option NodeState). may_fence c es && option_map_or is_unclean_state o false) (node_kept c es ps n ln)

    fenced : (n : ℕ) → n < length c.nodes → is_to_be_fenced c n es ≡ true → Contains (all_fences c may nodes) (Fence n)
    fenced n ln h =
        in_flat (fences_in may nodes) (range_with_len 0 (length c.nodes)) n (Fence n) (in_range 0 (length c.nodes) n (omega arith) (omega arith))
        (in_if (may && is_unclean_in nodes n) (Fence n) (fence_known n ln ∙ h))

    only : (a : Action) → Contains (all_fences c may nodes) a → Needed c es targets a
    only a h =
        let f = of_flat (fences_in may nodes) (range_with_len 0 (length c.nodes)) a h in
        let w = of_range 0 (length c.nodes) f.source f.among in
        let ln : f.source < length c.nodes = omega arith in
        let l = of_if (may && is_unclean_in nodes f.source) (Fence f.source ∷ []) a f.gives in
        subst (Needed c es targets) (of_one (Fence f.source) a l.among)
        (kept (Fence f.source) (fence f.source ln (sym (fence_known f.source ln) ∙ l.holds)) (λ s t u g e. cc))

    module _ (need : ℕ → ℕ → CellNeed) (marked : MarkedCells) (told : Tells c es targets need marked) (touched free : List Bool)
        (flags : touched ≡ map (is_touched c need marked) (range_with_len 0 (length c.leaves)))
        (lefts : (r : ℕ) → r < length c.leaves → is_marked free r ≡ is_undisturbed c (is_marked touched) r) where
      flag_known : (r : ℕ) → r < length c.leaves → is_marked touched r ≡ is_touched c need marked r
      flag_known r lr =
          ap (λ fs. is_marked fs r) flags
          ∙ get_or-map-range_with_len (is_touched c need marked) 0 (length c.leaves) r r false lr (omega arith)

      touched_known : (r : ℕ) → r < length c.leaves → is_marked touched r ≡ true ↔ GetsStepAnywhere c es targets r
      touched_known r lr = (
        λ h. (touched_is c es targets need marked told r lr).0 (sym (flag_known r lr) ∙ h),
        λ d. flag_known r lr ∙ (touched_is c es targets need marked told r lr).1 d,
      )

      listed : AreNeeded (Needed c es targets) (all_fences c may nodes ++ leaves_actions c need marked (is_marked free))
      listed = record {
        needed = λ a. (
          all_needed c es targets need marked told (valid_order c valid.orders) (valid_join c valid.colocations) (is_marked touched) (is_marked free)
              touched_known lefts (all_fences c may nodes) fenced only a,
          there c es targets need marked told (valid_order c valid.orders) (valid_join c valid.colocations) (is_marked touched) (is_marked free)
              touched_known lefts (all_fences c may nodes) fenced only a,
        );
        once = all_once c need marked watched (is_marked free) may nodes;
      }

      pub whole_list : (list : List Action) → list ≡ all_fences c may nodes ++ leaves_actions c need marked (is_marked free)
          → AreNeeded (Needed c es targets) list
      whole_list list is = subst (AreNeeded (Needed c es targets)) (sym is) listed
