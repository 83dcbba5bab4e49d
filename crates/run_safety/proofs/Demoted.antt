-- Where a leaf has no target that is promoted it may not be promoted any more, once what comes first has succeeded.
use Rattle.std.proofs.Common.{arith, inl, inr, ◌≡◌, ◌<◌, if◌then◌else◌, ℕ, Bool, true, false, Some, List, [], length, refl, sym, subst}
use Rattle.std.specs.Prelude.{Contains}
use Rattle.std.proofs.lemmas.Bool.{both_ways, false_from_ne_true, and_from}
use Rattle.lemmas.proofs.Booleans.{sooner, number_itself}
use Rattle.cluster_types.specs.declared.journal.Action.{Action}
use Rattle.cluster_types.specs.declared.journal.Action.TheVariants.{Fence, Probe, Operation}
use Rattle.cluster_types.specs.declared.journal.Event.{Event}
use Rattle.cluster_types.specs.declared.leaf.Op.TheVariants as op
use Rattle.cluster_types.specs.declared.leaf.Role.TheVariants as role
use Rattle.cluster_types.specs.declared.placement.Target.{Target}
use Rattle.cluster_types.specs.declared.placement.Target.TheVariants as target
use Rattle.cluster_types.specs.declared.states.CellState.{CellState}
use Rattle.cluster_types.specs.declared.states.CellState.TheVariants as cell
use Rattle.cluster_types.specs.Fields.{is_promotable}
use Rattle.cluster_types.specs.Journals.{Orderly, has_quorum}
use Rattle.cluster_types.specs.May.{may_be_running, may_be_promoted, is_left_promoted}
use Rattle.cluster_types.specs.NeededActions.{steps_of}
use Rattle.cluster_types.specs.NodeStates.{is_online}
use Rattle.cluster_types.specs.Pins.{is_pinned}
use Rattle.cluster_types.specs.Rights.{may_act_by}
use Rattle.cluster_types.specs.Steps.{Transition, action_at, has_succeeded, journal}
use Rattle.cluster_types.specs.Tables.{Targets, is_promoted_target}
use Rattle.cluster_types.proofs.MayLaws.{may-promoted}
use Rattle.plan_laws.proofs.CellStates.{says_of, blocked_pins}
use Rattle.run_safety.proofs.Calm.{Calm}
use Rattle.run_safety.proofs.Carried.{HasNumber, Carries}
use Rattle.run_safety.proofs.Deciding.{either_way}
use Rattle.run_safety.proofs.Givers.{promoted_gives}
use Rattle.run_safety.proofs.Needing.{Acts, Done, state, IsNeeded, probe_needed, step_needed, fence_needed, uncycled_idle}
use Rattle.run_safety.proofs.Offline.{out_closes, not_online, IsOut}
use Rattle.run_safety.proofs.PromotedEffects.{down_begun, down_done, down_waited, down_turned}
use Rattle.run_safety.proofs.Touching.{gives_promoted, takes_promoted, is_sure}
use Rattle.run_safety.proofs.Truths.{other_fails, refuse, own_cell}
use Rattle.run_safety.proofs.Turning.{turned, unturned}

-- what failed is stopped, and what was promoted and shall not be is demoted
stop_of_failed : (pinned : Bool) (s : CellState) (u : Target) → pinned ≡ false → s ≡ cell.Failed → Contains (if pinned then [] else steps_of s u false) op.Stop
stop_of_failed true s u e h = absurd (let f : ⊥ = cc in f)
stop_of_failed false s u e h = subst (λ z. Contains (steps_of z u false) op.Stop) (sym h) (by u)
  where
    by : (u : Target) → Contains (steps_of cell.Failed u false) op.Stop
    by target.Nowhere = (0, omega arith, refl)
    by target.Started = (0, omega arith, refl)
    by target.Promoted = (0, omega arith, refl)

demote_of : (pinned : Bool) (s : CellState) (u : Target) → pinned ≡ false → s ≡ cell.Promoted → is_promoted_target u ≡ false → (cycled : Bool)
    → Contains (if pinned then [] else steps_of s u cycled) op.Demote
demote_of true s u e h g cycled = absurd (let f : ⊥ = cc in f)
demote_of false s u e h g cycled = subst (λ z. Contains (steps_of z u cycled) op.Demote) (sym h) (by u cycled g)
  where
    by : (u : Target) (cycled : Bool) → is_promoted_target u ≡ false → Contains (steps_of cell.Promoted u cycled) op.Demote
    by target.Nowhere cycled g = (0, omega arith, refl)
    by target.Started true g = (0, omega arith, refl)
    by target.Started false g = (0, omega arith, refl)
    by target.Promoted cycled g = absurd (let f : ⊥ = cc in f)

module _ (t : Transition) (targets : Targets) (carries : Carries t targets) (r n : ℕ) (untargeted : is_promoted_target (targets r n) ≡ false) where
  abbrev IsDown : List Event → Type 0
  IsDown es = is_left_promoted t.cluster r n es ≡ false

  gives_none : (j : ℕ) (y : Action) → action_at t j ≡ Some y → gives_promoted r n y ≡ false
  gives_none j y is =
      false_from_ne_true (gives_promoted r n y) (λ e.
      both_ways (is_promoted_target (targets r n)) untargeted (promoted_gives t.cluster t.planned_at targets r n y (carries.needed j y is) e))

  pub demoted_by : (x : Action) (number : HasNumber t x) → takes_promoted r n x ≡ true → is_sure x ≡ true → (since : List Event) → Calm t since
      → has_succeeded t since number.number ≡ true → IsDown (journal t since)
  demoted_by x number takes sure since calm done =
      turned t IsDown number.number x number.is (λ es o m ok. down_turned t.cluster r n es number.number m x o ok takes sure)
      (λ es j y is down. inr (down_begun t.cluster r n es j y (gives_none j y is) down))
      (λ es j m y o is ok down. inr (down_done t.cluster r n es j m y o ok (gives_none j y is) down))
      (λ es s down. down_waited t.cluster r n es s down) since calm done

  pub stays_down : IsDown t.planned_at → (since : List Event) → Calm t since → IsDown (journal t since)
  stays_down down since calm =
      unturned t IsDown (λ es j y is was. down_begun t.cluster r n es j y (gives_none j y is) was)
      (λ es j m y o is ok was. down_done t.cluster r n es j m y o ok (gives_none j y is) was)
      (λ es s was. down_waited t.cluster r n es s was) since calm down

  -- what may not be promoted of a promotable leaf isn't left promoted
  pub not_left : (es : List Event) → is_promotable t.cluster r ≡ true → may_be_promoted t.cluster r n es ≡ false → IsDown es
  not_left es able h = other_fails (is_promotable t.cluster r) (is_left_promoted t.cluster r n es) able h

  pub not_promoted : (es : List Event) → may_be_running t.cluster r n es ≡ false → may_be_promoted t.cluster r n es ≡ false
  not_promoted es off = false_from_ne_true (may_be_promoted t.cluster r n es) (λ e. both_ways (may_be_running t.cluster r n es) off (may-promoted t.cluster r n es e))

  module _ (since : List Event) (calm : Calm t since) (h : r < length t.cluster.leaves) (l : n < length t.cluster.nodes)
      (free : is_pinned t.cluster t.planned_at r ≡ false) (orderly : Orderly t.planned_at) (acts : Acts t n)
      (promotable : is_promotable t.cluster r ≡ true)
      (probed : Done t since (Probe r n)) (stopped : Done t since (Operation op.Stop r n 0 role.Started))
      (demoted : Done t since (Operation op.Demote r n 0 role.Started)) (fenced : Done t since (Fence n)) where
    taken_by : (x : Action) → IsNeeded t targets x → Done t since x → takes_promoted r n x ≡ true → is_sure x ≡ true → IsDown (journal t since)
    taken_by x needed done takes sure =
        let number = carries.numbered x needed in
        demoted_by x number takes sure since calm (done number)

    pub elsewhere_down : IsDown (journal t since)
    elsewhere_down = by (state t r n) refl
      where
        by : (s : CellState) → state t r n ≡ s → IsDown (journal t since)
        by cell.Unprobed e = taken_by (Probe r n) (probe_needed t targets r n h l (rw e refl)) probed (own_cell r n) refl
        by cell.Blocked e = refuse (is_pinned t.cluster t.planned_at r) free (blocked_pins t.cluster r n t.planned_at l (rw e refl))
        by cell.Failed e =
            taken_by (Operation op.Stop r n 0 role.Started)
            (step_needed t targets r n op.Stop (λ e. let f : ⊥ = cc in f) h l
            (inr (uncycled_idle t targets r n (rw e refl), stop_of_failed (is_pinned t.cluster t.planned_at r) (state t r n) (targets r n) free e))) stopped (own_cell r n) refl
        by cell.Promoted e =
            taken_by (Operation op.Demote r n 0 role.Started)
            (step_needed t targets r n op.Demote (λ e. let f : ⊥ = cc in f) h l
            (either_way t targets carries r n h l free (rw e refl) op.Demote
            (demote_of (is_pinned t.cluster t.planned_at r) (state t r n) (targets r n) free e untargeted))) demoted (own_cell r n) refl
        by cell.On e = stays_down (not_left t.planned_at promotable (says_of t.cluster r n t.planned_at cell.On e).3) since calm
        by cell.Off e = stays_down (not_left t.planned_at promotable (says_of t.cluster r n t.planned_at cell.Off e).3) since calm
        by cell.Away e = gone (not_online t.cluster n t.planned_at (says_of t.cluster r n t.planned_at cell.Away e)) acts
          where
            gone : IsOut t.cluster n t.planned_at → Acts t n → IsDown (journal t since)
            gone (inr out) acts = stays_down (not_left t.planned_at promotable (not_promoted t.planned_at (out_closes t.cluster r n t.planned_at orderly out))) since calm
            gone (inl (unclean, fencing)) (inl online) = refuse (is_online t.cluster n t.planned_at) (says_of t.cluster r n t.planned_at cell.Away e) online
            gone (inl (unclean, fencing)) (inr able) =
                let quorate : may_act_by t.cluster (has_quorum t.planned_at) ≡ true = sooner (may_act_by t.cluster (has_quorum t.planned_at)) _ able in
                taken_by (Fence n) (fence_needed t targets n l (and_from _ _ (and_from _ _ fencing quorate) unclean)) fenced (number_itself n) refl
