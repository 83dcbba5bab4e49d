-- Where a leaf has no target it may not run any more, once what comes first has succeeded: the probe and the stop of the cell, and the fence of its node.
use Rattle.std.proofs.Common.{arith, inl, inr, ◌⊎◌, ◌≡◌, ◌<◌, if◌then◌else◌, ℕ, Bool, true, false, Some, List, [], ◌∷◌, ◌++◌, length, refl, sym, subst}
use Rattle.std.specs.Prelude.{Contains}
use Rattle.std.proofs.lemmas.Bool.{and_from, both_ways, false_from_ne_true}
use Rattle.lemmas.proofs.Booleans.{sooner, number_itself}
use Rattle.cluster_types.specs.declared.journal.Action.{Action}
use Rattle.cluster_types.specs.declared.journal.Action.TheVariants.{Fence, Probe, Operation}
use Rattle.cluster_types.specs.declared.journal.Event.{Event}
use Rattle.cluster_types.specs.declared.journal.Event.TheVariants.{Begin, Ended}
use Rattle.cluster_types.specs.declared.leaf.Op.TheVariants as op
use Rattle.cluster_types.specs.declared.leaf.Role.TheVariants as role
use Rattle.cluster_types.specs.declared.placement.Target.{Target}
use Rattle.cluster_types.specs.declared.placement.Target.TheVariants as target
use Rattle.cluster_types.specs.declared.states.CellState.{CellState}
use Rattle.cluster_types.specs.declared.states.CellState.TheVariants as cell
use Rattle.cluster_types.specs.Journals.{Orderly, has_quorum}
use Rattle.cluster_types.specs.May.{may_be_running}
use Rattle.cluster_types.specs.NeededActions.{steps_of}
use Rattle.cluster_types.specs.NodeStates.{is_online}
use Rattle.cluster_types.specs.Pins.{is_pinned}
use Rattle.cluster_types.specs.Rights.{may_act_by}
use Rattle.cluster_types.specs.Steps.{Transition, action_at, has_succeeded, journal}
use Rattle.cluster_types.specs.Tables.{Targets, is_somewhere}
use Rattle.cluster_types.specs.Terms.{is_active}
use Rattle.plan_laws.proofs.CellStates.{says_of, blocked_pins}
use Rattle.plan_laws.proofs.CellSteps.{is_promoted_state}
use Rattle.run_safety.proofs.Calm.{Calm}
use Rattle.run_safety.proofs.Carried.{HasNumber, Carries}
use Rattle.run_safety.proofs.Effects.{off_begun, off_done, off_waited, off_turned}
use Rattle.run_safety.proofs.Givers.{run_gives}
use Rattle.run_safety.proofs.Leads.{Must, by_cell}
use Rattle.run_safety.proofs.Needing.{Acts, Done, IsNeeded, fence_needed, probe_needed, state, step_needed, uncycled_nowhere}
use Rattle.run_safety.proofs.Offline.{out_closes, not_online, IsOut}
use Rattle.run_safety.proofs.Touching.{gives_run, takes_run}
use Rattle.run_safety.proofs.Truths.{own_cell, refuse}
use Rattle.run_safety.proofs.Turning.{turned, unturned}

-- what runs where there is no target is stopped
stop_at : (pinned : Bool) (s : CellState) (u : Target) → pinned ≡ false → is_active s ≡ true → is_somewhere u ≡ false
    → Contains (if pinned then [] else steps_of s u false) op.Stop
stop_at true s u e h g = absurd (let f : ⊥ = cc in f)
stop_at false cell.On target.Nowhere e h g = (0, omega arith, refl)
stop_at false cell.Promoted target.Nowhere e h g = (1, omega arith, refl)
stop_at false cell.Failed target.Nowhere e h g = (0, omega arith, refl)
stop_at false s target.Started e h g = absurd (let f : ⊥ = cc in f)
stop_at false s target.Promoted e h g = absurd (let f : ⊥ = cc in f)
stop_at false cell.Off u e h g = absurd (let f : ⊥ = cc in f)
stop_at false cell.Away u e h g = absurd (let f : ⊥ = cc in f)
stop_at false cell.Unprobed u e h g = absurd (let f : ⊥ = cc in f)
stop_at false cell.Blocked u e h g = absurd (let f : ⊥ = cc in f)

module _ (t : Transition) (targets : Targets) (carries : Carries t targets) (r n : ℕ) (nowhere : is_somewhere (targets r n) ≡ false) where
  pub stop_needed : r < length t.cluster.leaves → n < length t.cluster.nodes → is_pinned t.cluster t.planned_at r ≡ false → is_active (state t r n) ≡ true
      → IsNeeded t targets (Operation op.Stop r n 0 role.Started)
  stop_needed h l free running =
      step_needed t targets r n op.Stop (λ e. let f : ⊥ = cc in f) h l
      (inr (uncycled_nowhere t targets r n nowhere, stop_at (is_pinned t.cluster t.planned_at r) (state t r n) (targets r n) free running nowhere))

  abbrev IsOff : List Event → Type 0
  IsOff es = may_be_running t.cluster r n es ≡ false

  -- what takes the leaf away and has succeeded shuts the cell for good
  module _ (x : Action) (number : HasNumber t x) (takes : takes_run r n x ≡ true)
      (demotes : is_promoted_state (state t r n) ≡ true → Must t (Operation op.Demote r n 0 role.Started) x) where
    sooner_or_still : (R : Type 0) (j : ℕ) (y : Action) → action_at t j ≡ Some y → (gives_run r n y ≡ false → R) → (t.precedes j number.number ≡ true) ⊎ R
    sooner_or_still R j y is still = by (gives_run r n y) refl
      where
        by : (b : Bool) → gives_run r n y ≡ b → (t.precedes j number.number ≡ true) ⊎ R
        by false e = inr (still e)
        by true e = given (run_gives t.cluster t.planned_at targets r n y (carries.needed j y is) e)
          where
            given : (is_somewhere (targets r n) ≡ true) ⊎ ((y ≡ Operation op.Demote r n 0 role.Started) × (is_promoted_state (state t r n) ≡ true)) → (t.precedes j number.number ≡ true) ⊎ R
            given (inl there) = refuse (is_somewhere (targets r n)) nowhere there
            given (inr (same, promoted)) = inl (carries.precede j number.number y x is number.is (subst (λ z. Must t z x) (sym same) (demotes promoted)))

    pub shut_by : (since : List Event) → Calm t since → has_succeeded t since number.number ≡ true → IsOff (journal t since)
    shut_by since calm done =
        turned t IsOff number.number x number.is (λ es o m ok. off_turned t.cluster r n es number.number m x o ok takes)
        (λ es j y is off. sooner_or_still (IsOff (es ++ Begin j y ∷ [])) j y is (λ e. off_begun t.cluster r n es j y e off))
        (λ es j m y o is ok off. sooner_or_still (IsOff (es ++ Ended j y o m ∷ [])) j y is (λ e. off_done t.cluster r n es j m y o ok e off))
        (λ es s off. off_waited t.cluster r n es s off) since calm done

  -- a cell that is off and gets nothing stays off
  pub stays_off : is_promoted_state (state t r n) ≡ false → IsOff t.planned_at → (since : List Event) → Calm t since → IsOff (journal t since)
  stays_off plain off since calm =
      unturned t IsOff (λ es j y is was. off_begun t.cluster r n es j y (gives_none j y is) was)
      (λ es j m y o is ok was. off_done t.cluster r n es j m y o ok (gives_none j y is) was)
      (λ es s was. off_waited t.cluster r n es s was) since calm off
    where
      gives_none : (j : ℕ) (y : Action) → action_at t j ≡ Some y → gives_run r n y ≡ false
      gives_none j y is = false_from_ne_true (gives_run r n y) (λ e. elim (run_gives t.cluster t.planned_at targets r n y (carries.needed j y is) e) [
        | inl there ↦ both_ways (is_somewhere (targets r n)) nowhere there
        | inr demote ↦ both_ways (is_promoted_state (state t r n)) plain demote.1
      ])

  -- a demote comes before the stop of its cell
  demote_first : Must t (Operation op.Demote r n 0 role.Started) (Operation op.Stop r n 0 role.Started)
  demote_first =
      by_cell t (Operation op.Demote r n 0 role.Started) (Operation op.Stop r n 0 role.Started)
      (rw (number_itself r) (rw (number_itself n) refl))

  -- Once its probe, its stop and the fence of its node have succeeded, as far as they are needed.
  module _ (since : List Event) (calm : Calm t since) (h : r < length t.cluster.leaves) (l : n < length t.cluster.nodes)
      (free : is_pinned t.cluster t.planned_at r ≡ false) (orderly : Orderly t.planned_at) (acts : Acts t n)
      (probed : Done t since (Probe r n)) (stopped : Done t since (Operation op.Stop r n 0 role.Started)) (fenced : Done t since (Fence n)) where
    taken_by : (x : Action) → IsNeeded t targets x → Done t since x → takes_run r n x ≡ true
        → (is_promoted_state (state t r n) ≡ true → Must t (Operation op.Demote r n 0 role.Started) x) → IsOff (journal t since)
    taken_by x needed done takes demotes =
        let number = carries.numbered x needed in
        shut_by x number takes demotes since calm (done number)

    after_stop : is_active (state t r n) ≡ true → IsOff (journal t since)
    after_stop running =
        taken_by (Operation op.Stop r n 0 role.Started) (stop_needed h l free running) stopped (own_cell r n) (λ e. demote_first)

    pub elsewhere_off : IsOff (journal t since)
    elsewhere_off = by (state t r n) refl
      where
        by : (s : CellState) → state t r n ≡ s → IsOff (journal t since)
        by cell.Unprobed e =
            taken_by (Probe r n) (probe_needed t targets r n h l (rw e refl)) probed (own_cell r n)
            (λ p. refuse (is_promoted_state (state t r n)) (rw e refl) p)
        by cell.Blocked e = refuse (is_pinned t.cluster t.planned_at r) free (blocked_pins t.cluster r n t.planned_at l (rw e refl))
        by cell.Failed e = after_stop (rw e refl)
        by cell.Promoted e = after_stop (rw e refl)
        by cell.On e = after_stop (rw e refl)
        by cell.Off e = stays_off (rw e refl) (says_of t.cluster r n t.planned_at cell.Off e).4 since calm
        by cell.Away e = gone (not_online t.cluster n t.planned_at (says_of t.cluster r n t.planned_at cell.Away e)) acts
          where
            gone : IsOut t.cluster n t.planned_at → Acts t n → IsOff (journal t since)
            gone (inr out) acts = stays_off (rw e refl) (out_closes t.cluster r n t.planned_at orderly out) since calm
            gone (inl (unclean, fencing)) (inl online) = refuse (is_online t.cluster n t.planned_at) (says_of t.cluster r n t.planned_at cell.Away e) online
            gone (inl (unclean, fencing)) (inr able) =
                let quorate : may_act_by t.cluster (has_quorum t.planned_at) ≡ true = sooner (may_act_by t.cluster (has_quorum t.planned_at)) _ able in
                taken_by (Fence n) (fence_needed t targets n l (and_from _ _ (and_from _ _ fencing quorate) unclean)) fenced (number_itself n)
                (λ p. refuse (is_promoted_state (state t r n)) (rw e refl) p)
